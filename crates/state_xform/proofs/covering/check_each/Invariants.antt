use Rattle.std.proofs.Common.{◌≡◌, drop, List}
use Rattle.c_lang.specs.declared.program.Func.{Func}
use Rattle.state_xform.specs.Refusals.{refusal_of_coverage}
use Rattle.version_names.specs.Parts.{parts_in}
use Rattle.c_types.specs.Bodies.{body_of}
use Rattle.state_xform.specs.Code.Covered.{AreCovered}
use Rattle.state_xform.proofs.covering.check_each.Given as goal

-- what is refused of the rest is what is refused of all
abbrev pub invariant-loop-g : goal.invariant-loop-g
invariant-loop-g l =
    (fs : List Func) → AreCovered fs (body_of l.start.body) l.covered
    → refusal_of_coverage (parts_in l.links) fs l.start (drop l.g-index l.globals) ≡ refusal_of_coverage (parts_in l.links) fs l.start l.globals
