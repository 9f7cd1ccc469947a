-- What is said throughout the bodies of a program is said throughout those of its resolved form, where
-- resolution changes nothing of what is said.
use Rattle.std.specs.Prelude.{◌≡◌, false, List, [], ◌∷◌, map, All}
use Rattle.std.proofs.Common.{refl, sym, ap, subst, ◌∙◌}
use Rattle.std.proofs.lemmas.List.Elements.{All-nil, All-cons, All-head, All-tail}
use Rattle.c_lang.specs.Names.{Bytes}
use Rattle.c_lang.specs.Trees.{Statement, Statements, skip, set, set_element, call, call_by, if_else, while_loop, break_loop, return_with, assert_that, input, output, point, choice, force, pick, none, more}
use Rattle.c_lang.specs.declared.stmt.Kind.{Kind}
use Rattle.c_lang.specs.declared.program.Func.{Func}
use Rattle.c_lang.specs.declared.program.Program.{Program}
use Rattle.c_types.specs.Plain.{PlainFunc, PlainProgram, plain_statement, plain_statements, plain_func, plain_program}
use Rattle.written_laws.specs.Walk.{Context, told, told_all, in_loop, in_pick, past, past_all, start_of, Throughout, ThroughoutAll, InBodies}
use Rattle.c_types.specs.Bodies.{body_of}

mutual
  told_plain : (names : List Bytes) (s : Statement) → told names (plain_statement s) ≡ told names s
  told_plain names (if_else p e xs ys) =
      ap (λ (ns : List Bytes). told_all ns (plain_statements ys)) (told_all_plain names xs) ∙ told_all_plain (told_all names xs) ys
  told_plain names (while_loop p e xs) = told_all_plain names xs
  told_plain names (skip p) = refl
  told_plain names (set p d e) = refl
  told_plain names (set_element p a i e) = refl
  told_plain names (call p d f es) = refl
  told_plain names (call_by p d x es) = refl
  told_plain names (break_loop p) = refl
  told_plain names (return_with p e) = refl
  told_plain names (assert_that p e) = refl
  told_plain names (input p d) = refl
  told_plain names (output p e) = refl
  told_plain names (point p k) = refl
  told_plain names (choice p d k) = refl
  told_plain names (force p) = refl
  told_plain names (pick p a b) = refl

  told_all_plain : (names : List Bytes) (ss : Statements) → told_all names (plain_statements ss) ≡ told_all names ss
  told_all_plain names none = refl
  told_all_plain names (more s ss) =
      ap (λ (ns : List Bytes). told_all ns (plain_statements ss)) (told_plain names s) ∙ told_all_plain (told names s) ss

abbrev at_names : Context → List Bytes → Context
at_names at names = record at { declared = names }

module _ (P : Context → Statement → Type 0) (forth : (at : Context) (s : Statement) → P at s → P at (plain_statement s)) (back : (at : Context) (s : Statement) → P at (plain_statement s) → P at s) where
  mutual
    to_plain : (at : Context) (s : Statement) → Throughout P at s → Throughout P at (plain_statement s)
    to_plain at (if_else p e xs ys) h =
        (forth at (if_else p e xs ys) h.0, to_plain_all at xs h.1, subst (λ (ns : List Bytes). ThroughoutAll P (at_names at ns) (plain_statements ys)) (sym (told_all_plain at.declared xs)) (to_plain_all (past_all at xs) ys h.2))
    to_plain at (while_loop p e xs) h = (forth at (while_loop p e xs) h.0, to_plain_all (in_loop at) xs h.1)
    to_plain at (pick p a b) h = (forth at (pick p a b) h.0, to_plain (in_pick at) a h.1, to_plain (in_pick at) b h.2)
    to_plain at (skip p) h = forth at (skip p) h
    to_plain at (set p d e) h = forth at (set p d e) h
    to_plain at (set_element p a i e) h = forth at (set_element p a i e) h
    to_plain at (call p d f es) h = forth at (call p d f es) h
    to_plain at (call_by p d x es) h = forth at (call_by p d x es) h
    to_plain at (break_loop p) h = forth at (break_loop p) h
    to_plain at (return_with p e) h = forth at (return_with p e) h
    to_plain at (assert_that p e) h = forth at (assert_that p e) h
    to_plain at (input p d) h = forth at (input p d) h
    to_plain at (output p e) h = forth at (output p e) h
    to_plain at (point p k) h = forth at (point p k) h
    to_plain at (choice p d k) h = forth at (choice p d k) h
    to_plain at (force p) h = forth at (force p) h

    to_plain_all : (at : Context) (ss : Statements) → ThroughoutAll P at ss → ThroughoutAll P at (plain_statements ss)
    to_plain_all at none h = tt
    to_plain_all at (more s ss) h =
        (to_plain at s h.0, subst (λ (ns : List Bytes). ThroughoutAll P (at_names at ns) (plain_statements ss)) (sym (told_plain at.declared s)) (to_plain_all (past at s) ss h.1))

  mutual
    of_plain : (at : Context) (s : Statement) → Throughout P at (plain_statement s) → Throughout P at s
    of_plain at (if_else p e xs ys) h =
        (back at (if_else p e xs ys) h.0, of_plain_all at xs h.1, of_plain_all (past_all at xs) ys (subst (λ (ns : List Bytes). ThroughoutAll P (at_names at ns) (plain_statements ys)) (told_all_plain at.declared xs) h.2))
    of_plain at (while_loop p e xs) h = (back at (while_loop p e xs) h.0, of_plain_all (in_loop at) xs h.1)
    of_plain at (pick p a b) h = (back at (pick p a b) h.0, of_plain (in_pick at) a h.1, of_plain (in_pick at) b h.2)
    of_plain at (skip p) h = back at (skip p) h
    of_plain at (set p d e) h = back at (set p d e) h
    of_plain at (set_element p a i e) h = back at (set_element p a i e) h
    of_plain at (call p d f es) h = back at (call p d f es) h
    of_plain at (call_by p d x es) h = back at (call_by p d x es) h
    of_plain at (break_loop p) h = back at (break_loop p) h
    of_plain at (return_with p e) h = back at (return_with p e) h
    of_plain at (assert_that p e) h = back at (assert_that p e) h
    of_plain at (input p d) h = back at (input p d) h
    of_plain at (output p e) h = back at (output p e) h
    of_plain at (point p k) h = back at (point p k) h
    of_plain at (choice p d k) h = back at (choice p d k) h
    of_plain at (force p) h = back at (force p) h

    of_plain_all : (at : Context) (ss : Statements) → ThroughoutAll P at (plain_statements ss) → ThroughoutAll P at ss
    of_plain_all at none h = tt
    of_plain_all at (more s ss) h =
        (of_plain at s h.0, of_plain_all (past at s) ss (subst (λ (ns : List Bytes). ThroughoutAll P (at_names at ns) (plain_statements ss)) (told_plain at.declared s) h.1))

  abbrev Body : Func → Type 0
  Body f = ThroughoutAll P (start_of f) (body_of f.body)

  abbrev start_at : List (Kind × Bytes) → Context
  start_at params = record { in_loop = false; in_pick = false; declared = map (λ (q : Kind × Bytes). q.1) params }

  pub same_func : (r f : Func) → plain_func r ≡ plain_func f → Body f → Body r
  same_func r f e h =
      let there = to_plain_all (start_of f) (body_of f.body) h in
      let bodies : plain_statements (body_of f.body) ≡ plain_statements (body_of r.body) = sym (ap (λ (q : PlainFunc). q.body) e) in
      let params : f.params ≡ r.params = sym (ap (λ (q : PlainFunc). q.params) e) in
      let moved = subst (λ (ss : Statements). ThroughoutAll P (start_of f) ss) bodies there in
      of_plain_all (start_of r) (body_of r.body) (subst (λ (qs : List (Kind × Bytes)). ThroughoutAll P (start_at qs) (plain_statements (body_of r.body))) params moved)

  same_funcs : (rs fs : List Func) → map plain_func rs ≡ map plain_func fs → All Body fs → All Body rs
  same_funcs [] fs e h = All-nil Body
  same_funcs (r ∷ rs) [] e h = absurd cc
  same_funcs (r ∷ rs) (f ∷ fs) e h =
      let here : plain_func r ≡ plain_func f = cc in
      let rest : map plain_func rs ≡ map plain_func fs = cc in
      All-cons Body r rs (same_func r f here (All-head Body f fs h)) (same_funcs rs fs rest (All-tail Body f fs h))

  pub same_bodies : (r p : Program) → plain_program r ≡ plain_program p → InBodies P p → InBodies P r
  same_bodies r p e h = same_funcs r.funcs p.funcs (ap (λ (q : PlainProgram). q.funcs) e) h
