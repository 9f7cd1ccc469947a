-- What the readers' answers are, with the tokens behind their slices.
use Rattle.c_expressions.specs.declared.expressions.Found as found
use Rattle.c_expressions.specs.declared.right.Called as called
use Rattle.c_expressions.specs.declared.right.Side as side
use Rattle.c_expressions.specs.declared.right.Args as args
use Rattle.c_expressions.specs.declared.pointer.Pointer as pointer
use Rattle.c_expressions.specs.Code.ExpressionReading.{Found}
use Rattle.c_expressions.specs.Code.SideReading.{Args, Called, Side, Pointer}

abbrev pub seen : found.Found → Found
seen x = record { expr = x.expr; height = x.height; rest = x.rest.now }

abbrev pub seen_args : args.Args → Args
seen_args x = record { exprs = x.exprs; height = x.height }

abbrev pub seen_called : called.Called → Called
seen_called x = record { call = x.call; height = x.height; rest = x.rest.now }

abbrev pub seen_side : side.Side → Side
seen_side x = record { right = x.right; height = x.height; rest = x.rest.now }

abbrev pub seen_pointer : pointer.Pointer → Pointer
seen_pointer x = record { name = x.name.now; arity = x.arity; rest = x.rest.now }
