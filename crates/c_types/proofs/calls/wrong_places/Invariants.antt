use Rattle.std.proofs.Common.{◌≡◌, drop, map}
use Rattle.c_lang.specs.Trees.{expression_of}
use Rattle.c_types.specs.Code.SeenScopes.{seen_scope}
use Rattle.c_types.specs.Names.{smaller}
use Rattle.c_types.specs.Scopes.{names_of}
use Rattle.c_types.specs.Calls as spec
use Rattle.c_types.proofs.calls.wrong_places.Given as goal

abbrev pub invariant-loop-e : goal.invariant-loop-e
invariant-loop-e l =
    smaller l.number (spec.wrong_places (names_of (seen_scope l.scope)) l.left (map expression_of (drop l.e-index l.args)))
    ≡ spec.wrong_places (names_of (seen_scope l.scope)) l.params (map expression_of l.args)
