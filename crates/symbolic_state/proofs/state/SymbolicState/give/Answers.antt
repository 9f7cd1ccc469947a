use Rattle.std.proofs.Common.{◌+◌, ◌<◌, true, [], ◌∷◌, length, sym, ap, ◌∙◌, subst}
use Rattle.std.specs.Prelude.{IfOk}
use Rattle.std.proofs.lemmas.List.{length-reverse}
use Rattle.symbolic_state.specs.Steps.{outermost}
use Rattle.symbolic_state.specs.Code.Joined.{given_first}
use Rattle.symbolic_state.specs.Code.Room.{IsPut}
use Rattle.symbolic_state.specs.Code.Writing.{change_at}
use Rattle.terms.specs.Replacing.{replaced_fact}
use Rattle.symbolic_state.proofs.GivenLaws.{gives_at, gives_fact, gives_none}
use Rattle.symbolic_state.proofs.RoomLaws.{put_nothing}
use Rattle.symbolic_state.proofs.state.SymbolicState.give.Goals as goal

pub put_fact-requires : goal.put_fact-requires
put_fact-requires c =
    let within : c.args.number < length c.self.inside.steps.items = subst (λ k. c.args.number < k) (sym (ap length c.self.view_is) ∙ length-reverse c.self.inside.steps.items) c.requires in
    gives_at c.self.inside.steps.items c.args.number c.index.result.now within c.in-Assumes.fact c.self.invariant.gives (sym c.index.ensures ∙ c.in-Assumes.is)

pub returns-in-Replaces : goal.returns-in-Replaces
returns-in-Replaces c =
    let within : c.args.number < length c.self.inside.steps.items = subst (λ k. c.args.number < k) (sym (ap length c.self.view_is) ∙ length-reverse c.self.inside.steps.items) c.requires in
    subst (λ l. IsPut c.args.gathered.now c.args.gathered.now (given_first (outermost (c.args.number + 1) l)) true) c.self.view_is
    (subst (λ more. IsPut c.args.gathered.now c.args.gathered.now more true)
    (gives_none c.self.inside.steps.items c.args.number c.index.result.now within c.in-Replaces.field-0 (sym c.index.ensures ∙ c.in-Replaces.is)) (put_nothing c.args.gathered.now))

pub returns-in-Assumes : goal.returns-in-Assumes
returns-in-Assumes c =
    let within : c.args.number < length c.self.inside.steps.items = subst (λ k. c.args.number < k) (sym (ap length c.self.view_is) ∙ length-reverse c.self.inside.steps.items) c.requires in
    subst (λ more. IfOk c.put_fact.result (λ done. IsPut c.args.gathered.now c.put_fact.new.gathered more done))
    (sym (ap (λ l. replaced_fact (change_at l c.args.number) c.in-Assumes.fact ∷ []) c.self.view_is)
    ∙ gives_fact c.self.inside.steps.items c.args.number c.index.result.now within c.in-Assumes.fact (sym c.index.ensures ∙ c.in-Assumes.is)
    ∙ ap (λ l. given_first (outermost (c.args.number + 1) l)) c.self.view_is)
    c.put_fact.ensures
