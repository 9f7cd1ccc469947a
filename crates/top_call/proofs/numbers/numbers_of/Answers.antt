use Rattle.std.proofs.Common.{◌≡◌, ◌++◌, ◌∷◌, [], ◌∙◌, sym, ap, rules, List, ℤ, Option, Some, option_map, arith, w32, FitsSigned}
use Rattle.std.proofs.lemmas.Int.{to_z-of_z}
use Rattle.std.specs.Str.{IsUtf8}
use Rattle.std.proofs.lemmas.Str.Pattern.{split_once_first}
use Rattle.top_call.specs.Numbers.{pieces, all_numbers}
use Rattle.top_call.proofs.NumberLemmas.{no-number, one-number, last-none, last-number, none-of-rest}
use Rattle.top_call.proofs.numbers.numbers_of.Goals as goal

pub returns-in_default-number_of : goal.returns-in_default-number_of
returns-in_default-number_of c =
    let cut = rw c.in-Some.is at (split_once_first 44 c.loop-piece.rest.now c.split_once.result c.split_once.ensures.cases (omega arith)) in
    sym (none-of-rest c.loop-piece.numbers.items _ _ c.loop-piece.invariant.0
    (no-number c.in-Some.piece.now c.loop-piece.rest.now cut.0 cut.1 (sym c.in_default-number_of.ensures)))

pub loop-piece-preserved : goal.loop-piece-preserved
loop-piece-preserved c =
    let cut = rw c.in-Some.is at (split_once_first 44 c.loop-piece.rest.now c.split_once.result c.split_once.ensures.cases (omega arith)) in
    let text : IsUtf8 c.in-Some.later.now = search rules in
    let fits : FitsSigned w32 c.in-Some-number_of.number = search rules in
    let left : Option (List ℤ) = all_numbers (pieces c.in-Some.later.now) in
    let pushed : option_map (λ zs. c.push.new.self.items ++ zs) left ≡ option_map (λ zs. (c.loop-piece.numbers.items ++ c.in-Some-number_of.number ∷ []) ++ zs) left =
    ap (λ (items : List ℤ). option_map (λ zs. items ++ zs) left)
    (c.in_ok-push.ensures.items ∙ ap (λ z. c.loop-piece.numbers.items ++ z ∷ []) (to_z-of_z w32 c.in-Some-number_of.number fits)) in (
      pushed
          ∙ one-number c.loop-piece.numbers.items c.in-Some-number_of.number c.in-Some.piece.now c.in-Some.later.now c.loop-piece.rest.now cut.0 cut.1 cut.2
          (sym c.in-Some-number_of.ensures)
          ∙ c.loop-piece.invariant.0,
      text,
    )

pub returns-in_default-number_of-2 : goal.returns-in_default-number_of-2
returns-in_default-number_of-2 c =
    let ends = rw c.in_default.is at (split_once_first 44 c.loop-piece.rest.now c.split_once.result c.split_once.ensures.cases (omega arith)) in
    sym (none-of-rest c.loop-piece.numbers.items _ _ c.loop-piece.invariant.0
    (last-none c.loop-piece.rest.now ends (sym c.in_default-number_of-2.ensures)))

pub returns : goal.returns
returns c =
    let ends = rw c.in_default.is at (split_once_first 44 c.loop-piece.rest.now c.split_once.result c.split_once.ensures.cases (omega arith)) in
    let fits : FitsSigned w32 c.in-Some-number_of-2.number = search rules in
    ap (λ (items : List ℤ). Some items)
    (c.in_ok-push-2.ensures.items ∙ ap (λ z. c.loop-piece.numbers.items ++ z ∷ []) (to_z-of_z w32 c.in-Some-number_of-2.number fits))
    ∙ sym (last-number c.loop-piece.numbers.items c.in-Some-number_of-2.number c.loop-piece.rest.now ends (sym c.in-Some-number_of-2.ensures))
    ∙ c.loop-piece.invariant.0
