use Rattle.std.proofs.Common.{◌≡◌, ℕ, ◌+◌, ◌<◌, ◌∷◌, get_or, sym, ◌∙◌, ap, false, List, drop, length, arith}
use Rattle.std.proofs.lemmas.List.{at_drop_more, nil_from_length}
use Rattle.c_lang.specs.Kinds as spec
use Rattle.c_lang.specs.declared.stmt.Kind.{Kind}
use Rattle.c_lang.specs.declared.stmt.Kind.TheVariants.{Int}
use Rattle.c_lang.proofs.stmt.same_kinds.Goals as goal

too_few : (xs others : List Kind) (i : ℕ) → i < length xs → length others < 1 → spec.same_kinds (drop i xs) others ≡ false
too_few xs others i more none =
    at_drop_more (λ (ks : List Kind). spec.same_kinds ks others) xs i Int more
    ∙ ap (λ (ls : List Kind). spec.same_kinds (get_or xs i Int ∷ drop (i + 1) xs) ls) (nil_from_length others (omega arith))

pub returns-in_default : goal.returns-in_default
returns-in_default c = sym (c.loop-kind.invariant ∙ too_few c.args.left.now c.loop-kind.others.now c.loop-kind.kind-index c.loop-kind-test.true c.in_default.len_below)
