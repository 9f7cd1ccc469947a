use Rattle.std.proofs.Common.{◌≡◌, ◌++◌, drop}
use Rattle.c_types.specs.Code.SeenScopes.{seen_scope, seen_block}
use Rattle.c_types.specs.Bodies.{body_of}
use Rattle.c_types.specs.Statements as spec
use Rattle.c_types.proofs.statements.+statement.Given as goal

abbrev pub invariant-sequence-loop-s : goal.invariant-sequence-loop-s
invariant-sequence-loop-s l = record {
  first : spec.refusals (seen_block l.block) (seen_scope l.scope) (body_of (drop l.s-index l.stmts))
      ≡ spec.refusals (seen_block l.block) (seen_scope l.initial.scope) (body_of l.stmts);
  whole : l.all ++ spec.resolved_list (seen_scope l.scope) (body_of (drop l.s-index l.stmts))
      ≡ spec.resolved_list (seen_scope l.initial.scope) (body_of l.stmts);
  scope : spec.scope_after_all (seen_scope l.scope) (body_of (drop l.s-index l.stmts))
      ≡ spec.scope_after_all (seen_scope l.initial.scope) (body_of l.stmts);
}
