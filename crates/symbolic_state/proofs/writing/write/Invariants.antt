use Rattle.std.proofs.Common.{◌≡◌, []}
use Rattle.terms.specs.Code.Rewriting.{put_nodes}
use Rattle.symbolic_state.specs.Code.Writing.{change_at, written_in}
use Rattle.symbolic_state.proofs.writing.write.Given as goal

-- what is left to be written leads to the whole
abbrev pub invariant-loop : goal.invariant-loop
invariant-loop l = written_in l.state l.out.items l.parts.items ≡ put_nodes (change_at l.state l.time) [] l.nodes
