use Rattle.std.proofs.Common.{◌≡◌, ◌+◌, ◌<◌, true, false, length, sym, subst, arith, rules}
use Rattle.symbolic_state.specs.Steps.{outermost}
use Rattle.symbolic_state.specs.Code.Joined.{given_of, given_first}
use Rattle.symbolic_state.specs.Code.Room.{IsPut}
use Rattle.symbolic_state.proofs.RoomLaws.{put_behind, put_fails, given_next, next_size}
use Rattle.symbolic_state.proofs.state.SymbolicState.put_given.Goals as goal

pub returns-then-not-branch : goal.returns-then-not-branch
returns-then-not-branch c =
    let no : c.in_ok-give.field-0 ≡ false = search rules in
    let within : c.loop-number.number < length c.args.self.now = search rules in
    put_fails c.args.gathered.now c.loop-number.gathered c.give.new.gathered (given_of (outermost c.loop-number.number c.args.self.now))
    (given_first (outermost (c.loop-number.number + 1) c.args.self.now)) (given_of c.args.self.now) c.loop-number.invariant.given
    (subst (IsPut c.loop-number.gathered c.give.new.gathered (given_first (outermost (c.loop-number.number + 1) c.args.self.now))) no c.in_ok-give.ensures)
    (next_size c.loop-number.number c.args.self.now within)

pub loop-number-preserved : goal.loop-number-preserved
loop-number-preserved c =
    let done : c.in_ok-give.field-0 ≡ true = search rules in
    let within : c.loop-number.number < length c.args.self.now = search rules in
    record {
      within = omega (arith, within);
      given = subst (λ more. IsPut c.args.gathered.now c.give.new.gathered more true) (sym (given_next c.loop-number.number c.args.self.now within))
          (put_behind c.args.gathered.now c.loop-number.gathered c.give.new.gathered (given_of (outermost c.loop-number.number c.args.self.now))
          (given_first (outermost (c.loop-number.number + 1) c.args.self.now)) true c.loop-number.invariant.given
          (subst (IsPut c.loop-number.gathered c.give.new.gathered (given_first (outermost (c.loop-number.number + 1) c.args.self.now))) done c.in_ok-give.ensures));
    }
