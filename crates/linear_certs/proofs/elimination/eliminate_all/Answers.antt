use Rattle.std.proofs.Common.{rules, ◌≡◌, ◌∙◌, ◌<◌, ◌^◌, ◌++◌, ◌∷◌, [], Some, ap, sym, subst, arith, length, suc}
use Rattle.std.specs.List.{All}
use Rattle.linear_certs.specs.declared.elimination.Stage.{Stage}
use Rattle.linear_certs.specs.Stages.{stage, least_atom, eliminated}
use Rattle.linear_certs.specs.Answers.{NoFalseUpTo}
use Rattle.linear_certs.specs.Code.Building.{IsGood, AreStages, IsStageAt, IsBuilt}
use Rattle.linear_certs.proofs.StageLaws.{stage-next, on-ok-of}
use Rattle.linear_certs.proofs.EliminationLaws.{built-here, stages-push, none-next, first-none, next-smaller, length-push}
use Rattle.linear_certs.proofs.elimination.eliminate_all.Goals as goal

pub loop-atom-init : goal.loop-atom-init
loop-atom-init c =
    let rows = c.args.rows.now in
    let empty = c.new-stages.ensures in
    let none = first-none rows c.args.first.items c.requires.is c.requires.good in record {
      built = subst (AreStages rows 0) (sym empty) tt;
      is = ap (λ s. stage rows (length s)) empty ∙ sym c.requires.is;
      good = c.requires.good;
      none_false = subst (λ s. NoFalseUpTo rows (length s)) (sym empty) none;
    }

pub next_stage-requires-clause-built : goal.next_stage-requires-clause-built
next_stage-requires-clause-built c =
    let rows = c.args.rows.now in
    let inv = c.loop-atom.invariant in
    let least : least_atom c.loop-atom.entries.items ≡ Some c.in-Some.atom = ap least_atom (sym c.deref.ensures.value) ∙ sym c.least_atom.ensures ∙ c.in-Some.is in
    subst (IsBuilt rows c.in-Some.atom) (sym c.deref-in-Some.ensures.value)
    (built-here rows c.in-Some.atom (length c.loop-atom.stages) c.loop-atom.entries.items inv.is inv.none_false least inv.good)

pub loop-atom-smaller : goal.loop-atom-smaller
loop-atom-smaller c =
    let rows = c.args.rows.now in
    let inv = c.loop-atom.invariant in
    let small : c.in-Some.atom < 2 ^ 32 = search rules in
    let least : least_atom c.loop-atom.entries.items ≡ Some c.in-Some.atom = ap least_atom (sym c.deref.ensures.value) ∙ sym c.least_atom.ensures ∙ c.in-Some.is in
    let made = c.in-Ok.ensures.ok in
    next-smaller rows c.in-Some.atom c.loop-atom.entries.items c.in-Ok.next.items small least inv.good (made.0 ∙ ap (eliminated c.in-Some.atom) c.deref-in-Some.ensures.value)

pub loop-atom-preserved : goal.loop-atom-preserved
loop-atom-preserved c =
    let rows = c.args.rows.now in
    let inv = c.loop-atom.invariant in
    let atom = c.in-Some.atom in
    let entries = c.loop-atom.entries.items in
    let least : least_atom entries ≡ Some atom = ap least_atom (sym c.deref.ensures.value) ∙ sym c.least_atom.ensures ∙ c.in-Some.is in
    let made = c.in-Ok.ensures.ok in
    let built : Stage = record { atom = atom; entries = c.from_vec.result } in
    let pushed : c.push.new.self ≡ c.loop-atom.stages ++ built ∷ [] = on-ok-of c.push.result (sym c.is_err.ensures.value ∙ c.if-is_err.false) c.push.ensures.ok in
    let long = length-push c.loop-atom.stages c.push.new.self built pushed in
    let next_is : stage rows (suc (length c.loop-atom.stages)) ≡ c.in-Ok.next.items
    = stage-next rows atom entries (length c.loop-atom.stages) inv.is least ∙ ap (eliminated atom) (sym c.deref-in-Some.ensures.value) ∙ sym made.0 in
    let here : IsStageAt rows (length c.loop-atom.stages) built = record {
      is = inv.is ∙ sym c.from_vec.ensures;
      least = ap least_atom c.from_vec.ensures ∙ least;
      good = subst (All (IsGood rows)) (sym c.from_vec.ensures) inv.good;
    } in record {
      built = subst (AreStages rows 0) (sym pushed) (stages-push rows 0 (length c.loop-atom.stages) c.loop-atom.stages built (omega arith) inv.built here);
      is = ap (stage rows) long ∙ next_is;
      good = made.1;
      none_false = subst (NoFalseUpTo rows) (sym long) (none-next rows (length c.loop-atom.stages) c.in-Ok.next.items next_is made.1 inv.none_false);
    }
