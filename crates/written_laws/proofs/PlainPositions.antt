-- Resolution changes no position.
use Rattle.std.specs.Prelude.{◌≡◌, List, [], ◌∷◌, map, All}
use Rattle.std.proofs.Common.{refl, sym, ap, subst}
use Rattle.std.proofs.lemmas.List.Elements.{All-nil, All-cons, All-head, All-tail}
use Rattle.c_lang.specs.Units.{IsPosition}
use Rattle.c_lang.specs.Positions.{StatementHasPositions, StatementsHavePositions, FuncHasPositions, ProgramHasPositions}
use Rattle.c_lang.specs.Trees.{Statement, Statements, skip, set, set_element, call, call_by, if_else, while_loop, break_loop, return_with, assert_that, input, output, point, choice, force, pick, none, more}
use Rattle.c_lang.specs.declared.program.GlobalVar.{GlobalVar}
use Rattle.c_lang.specs.declared.program.Proto.{Proto}
use Rattle.c_lang.specs.declared.program.Func.{Func}
use Rattle.c_lang.specs.declared.program.Program.{Program}
use Rattle.c_types.specs.Bodies.{body_of}
use Rattle.c_types.specs.Plain.{PlainFunc, PlainProgram, plain_statement, plain_statements, plain_func, plain_program}

mutual
  plain_has : (s : Statement) → StatementHasPositions (plain_statement s) ≡ StatementHasPositions s
  plain_has (if_else p e xs ys) = rw (plain_have xs, plain_have ys) refl
  plain_has (while_loop p e xs) = rw (plain_have xs) refl
  plain_has (pick p a b) = rw (plain_has a, plain_has b) refl
  plain_has (skip p) = refl
  plain_has (set p d e) = refl
  plain_has (set_element p a i e) = refl
  plain_has (call p d f es) = refl
  plain_has (call_by p d x es) = refl
  plain_has (break_loop p) = refl
  plain_has (return_with p e) = refl
  plain_has (assert_that p e) = refl
  plain_has (input p d) = refl
  plain_has (output p e) = refl
  plain_has (point p k) = refl
  plain_has (choice p d k) = refl
  plain_has (force p) = refl

  pub plain_have : (ss : Statements) → StatementsHavePositions (plain_statements ss) ≡ StatementsHavePositions ss
  plain_have none = refl
  plain_have (more s ss) = rw (plain_has s, plain_have ss) refl

same_func : (r f : Func) → plain_func r ≡ plain_func f → FuncHasPositions f → FuncHasPositions r
same_func r f e h =
    let there = subst (λ A. A) (sym (plain_have (body_of f.body))) h.1 in
    let moved = subst StatementsHavePositions (sym (ap (λ (q : PlainFunc). q.body) e)) there in
    (subst IsPosition (sym (ap (λ (q : PlainFunc). q.pos) e)) h.0, subst (λ A. A) (plain_have (body_of r.body)) moved)

same_funcs : (rs fs : List Func) → map plain_func rs ≡ map plain_func fs → All FuncHasPositions fs → All FuncHasPositions rs
same_funcs [] fs e h = All-nil FuncHasPositions
same_funcs (r ∷ rs) [] e h = absurd cc
same_funcs (r ∷ rs) (f ∷ fs) e h =
    let here : plain_func r ≡ plain_func f = cc in
    let rest : map plain_func rs ≡ map plain_func fs = cc in
    All-cons FuncHasPositions r rs (same_func r f here (All-head FuncHasPositions f fs h)) (same_funcs rs fs rest (All-tail FuncHasPositions f fs h))

-- a program has the positions of one with the same plain form
pub same_positions : (r p : Program) → plain_program r ≡ plain_program p → ProgramHasPositions p → ProgramHasPositions r
same_positions r p e h = record {
  globals = subst (All (λ (g : GlobalVar). IsPosition g.pos)) (sym (ap (λ (q : PlainProgram). q.globals) e)) h.globals;
  protos = subst (All (λ (q : Proto). IsPosition q.pos)) (sym (ap (λ (q : PlainProgram). q.protos) e)) h.protos;
  funcs = same_funcs r.funcs p.funcs (ap (λ (q : PlainProgram). q.funcs) e) h.funcs;
}
