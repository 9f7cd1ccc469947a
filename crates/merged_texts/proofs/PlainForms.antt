-- A plain form has the positions of its program.
use Rattle.std.specs.Prelude.{List, [], ◌∷◌, map, All}
use Rattle.std.proofs.Common.{sym, subst}
use Rattle.std.proofs.lemmas.List.Elements.{All-nil, All-cons, All-head, All-tail}
use Rattle.c_lang.specs.Positions.{StatementsHavePositions, FuncHasPositions, ProgramHasPositions}
use Rattle.c_lang.specs.declared.program.Func.{Func}
use Rattle.c_lang.specs.declared.program.Program.{Program}
use Rattle.c_types.specs.Bodies.{body_of}
use Rattle.c_types.specs.Plain.{plain_statements, plain_func, built_func, plain}
use Rattle.c_lang.proofs.TreeLemmas.{statements_back}
use Rattle.written_laws.proofs.PlainPositions.{plain_have}

func_at : (f : Func) → FuncHasPositions f → FuncHasPositions (built_func (plain_func f))
func_at f h =
    let ss = body_of f.body in
    (h.0, subst StatementsHavePositions (sym (statements_back (plain_statements ss))) (subst (λ A. A) (sym (plain_have ss)) h.1))

funcs_at : (fs : List Func) → All FuncHasPositions fs → All FuncHasPositions (map built_func (map plain_func fs))
funcs_at [] h = All-nil FuncHasPositions
funcs_at (f ∷ fs) h =
    All-cons FuncHasPositions (built_func (plain_func f)) (map built_func (map plain_func fs)) (func_at f (All-head FuncHasPositions f fs h)) (funcs_at fs (All-tail FuncHasPositions f fs h))

pub plain_positions : (P : Program) → ProgramHasPositions P → ProgramHasPositions (plain P)
plain_positions P h = record { globals = h.globals; protos = h.protos; funcs = funcs_at P.funcs h.funcs }
