use Rattle.std.proofs.Common.{◌≡◌, map, drop}
use Rattle.c_lang.specs.Trees.{statement_of, statements}
use Rattle.loop_invariants.specs.Code.Seeking as seeking
use Rattle.loop_invariants.specs.Code.Seeking.{names_in}
use Rattle.loop_invariants.proofs.loops.+seek.Given as goal

abbrev pub invariant-seek_in-loop-stmt : goal.invariant-seek_in-loop-stmt
invariant-seek_in-loop-stmt l = record {
  total : seeking.seek_in l.before (names_in l.visible) (statements (map statement_of l.stmts))
      ≡ seeking.seek_in l.left (names_in l.seen.items) (statements (map statement_of (drop l.stmt-index l.stmts)));
}
