use Rattle.std.proofs.Common.{◌≡◌, ◌++◌, drop, map}
use Rattle.c_lang.specs.Trees.{expression_of}
use Rattle.c_types.specs.Code.SeenScopes.{seen_scope}
use Rattle.c_types.specs.Scopes.{names_of}
use Rattle.c_types.specs.Calls.{resolved_args}
use Rattle.c_types.proofs.calls.resolve_args.Given as goal

abbrev pub invariant-loop-e : goal.invariant-loop-e
invariant-loop-e l =
    l.all ++ resolved_args (names_of (seen_scope l.scope)) l.left (map expression_of (drop l.e-index l.args))
    ≡ resolved_args (names_of (seen_scope l.scope)) l.params (map expression_of l.args)
