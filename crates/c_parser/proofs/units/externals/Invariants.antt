use Rattle.std.proofs.Common.{◌+◌, length}
use Rattle.c_parser.specs.Code.UnitReading as spec
use Rattle.c_grammar.specs.Units as units
use Rattle.c_parser.proofs.UnitTurns.{IsLeft}
use Rattle.c_parser.proofs.units.externals.Given as goal

abbrev pub invariant-loop-rest : goal.invariant-loop-rest
invariant-loop-rest l = IsLeft l.unit l.deep l.parts l.rest (spec.externals l.unit l.deep (length l.tokens + 1) (units.no_parts l.unit) l.tokens)

abbrev pub decreases-loop-rest : goal.decreases-loop-rest
decreases-loop-rest l = length l.rest
