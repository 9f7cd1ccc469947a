use Rattle.std.proofs.Common.{◌≡◌, ◌<◌, ◌≤◌, false, is_none, OnOk, sym, ap, ◌∙◌, subst}
use Rattle.terms.specs.Sizes.{sequent_size}
use Rattle.weakest_preconditions.specs.Wp.{Condition}
use Rattle.condition_sorts.specs.Sorted.{with_sorts}
use Rattle.symbolic_state.specs.Steps.{finished, owed, without_sorts, IsMadeWithin}
use Rattle.wp_conditions.specs.Code.Growing.{with_one}
use Rattle.wp_conditions.proofs.GrowingLaws.{one_more, none_more}
use Rattle.wp_conditions.proofs.made.Made.add.Goals as goal

pub returns-in_ok-sorted-in-Some : goal.returns-in_ok-sorted-in-Some
returns-in_ok-sorted-in-Some c =
    let whole : Condition = finished c.args.state.now (owed c.args.hyps.now c.args.goal.now c.args.label) in
    let made : (c.in-Some.sequent ≡ without_sorts whole) × (sequent_size (without_sorts whole) ≤ c.room.result)
    = subst (IsMadeWithin c.room.result (without_sorts whole)) c.in-Some.is c.in_ok-sequent.ensures in
    let has_list : is_none c.args.self.now ≡ false = sym c.is_full.ensures ∙ c.if-is_full.false in
    subst (λ m. OnOk c.push.result (c.push.new.self ≡ m))
    (ap (with_one c.args.self.now) (c.in_ok-sorted-in-Some.ensures ∙ ap (with_sorts c.args.sorts.now.0 c.args.sorts.now.1) made.0)
    ∙ one_more c.args.sorts.now.0 c.args.sorts.now.1 whole c.args.self.now has_list (subst (λ r. sequent_size (without_sorts whole) ≤ r) c.room.ensures made.1))
    c.push.ensures

pub returns-in-None : goal.returns-in-None
returns-in-None c =
    let whole : Condition = finished c.args.state.now (owed c.args.hyps.now c.args.goal.now c.args.label) in
    none_more c.args.sorts.now.0 c.args.sorts.now.1 whole c.args.self.now
    (subst (λ r. r < sequent_size (without_sorts whole)) c.room.ensures (subst (IsMadeWithin c.room.result (without_sorts whole)) c.in-None.is c.in_ok-sequent.ensures))
