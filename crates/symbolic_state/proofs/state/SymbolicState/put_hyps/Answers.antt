use Rattle.std.proofs.Common.{◌≡◌, ◌<◌, ◌++◌, true, false, length, subst, arith, rules}
use Rattle.std.proofs.lemmas.Result.{IfOk-weaker}
use Rattle.terms.specs.Sizes.{facts_size}
use Rattle.symbolic_state.specs.Code.Joined.{given_of}
use Rattle.symbolic_state.specs.Code.Room.{IsPut}
use Rattle.symbolic_state.specs.Code.Writing.{change_at, finished_forms}
use Rattle.symbolic_state.proofs.RoomLaws.{size_append, put_behind}
use Rattle.symbolic_state.proofs.state.SymbolicState.put_hyps.Goals as goal

pub returns-then-not-branch : goal.returns-then-not-branch
returns-then-not-branch c =
    let no : c.in_ok-put_given.field-0 ≡ false = search rules in
    let past : c.args.gathered.now.left < facts_size (given_of c.args.self.now) = subst (IsPut c.args.gathered.now c.put_given.new.gathered (given_of c.args.self.now)) no c.in_ok-put_given.ensures in
    omega (arith, past, size_append (given_of c.args.self.now) (finished_forms (change_at c.args.self.now (length c.args.self.now)) c.args.hyps.now))

pub returns : goal.returns
returns c =
    let done : c.in_ok-put_given.field-0 ≡ true = search rules in
    let before = subst (IsPut c.args.gathered.now c.put_given.new.gathered (given_of c.args.self.now)) done c.in_ok-put_given.ensures in
    IfOk-weaker c.put_forms.result (IsPut c.put_given.new.gathered c.put_forms.new.gathered (finished_forms (change_at c.args.self.now c.mark.result) c.args.hyps.now))
    (IsPut c.args.gathered.now c.put_forms.new.gathered (given_of c.args.self.now ++ finished_forms (change_at c.args.self.now (length c.args.self.now)) c.args.hyps.now))
    (λ b put. put_behind c.args.gathered.now c.put_given.new.gathered c.put_forms.new.gathered (given_of c.args.self.now) (finished_forms (change_at c.args.self.now (length c.args.self.now)) c.args.hyps.now) b before
    (subst (λ n. IsPut c.put_given.new.gathered c.put_forms.new.gathered (finished_forms (change_at c.args.self.now n) c.args.hyps.now) b) c.mark.ensures put))
    c.put_forms.ensures
