-- What is said throughout a body says less, or two things together.
use Rattle.std.specs.Prelude.{◌≡◌, List, [], ◌∷◌, ◌++◌}
use Rattle.std.proofs.Common.{refl}
use Rattle.c_lang.specs.Names.{Bytes}
use Rattle.c_lang.specs.Trees.{Statement, Statements, skip, set, set_element, call, call_by, if_else, while_loop, break_loop, return_with, assert_that, input, output, point, choice, force, pick, none, more, statement_of}
use Rattle.c_lang.specs.declared.stmt.Stmt.{Stmt}
use Rattle.written_laws.specs.Walk.{Context, told, told_all, in_loop, in_pick, past, past_all, Throughout, ThroughoutAll}
use Rattle.c_types.specs.Bodies.{body_of}

module _ (P Q R : Context → Statement → Type 0) (joins : (at : Context) (s : Statement) → P at s → Q at s → R at s) where
  mutual
    both : (at : Context) (s : Statement) → Throughout P at s → Throughout Q at s → Throughout R at s
    both at (if_else p e a b) h k = (joins at (if_else p e a b) h.0 k.0, both_all at a h.1 k.1, both_all (past_all at a) b h.2 k.2)
    both at (while_loop p e a) h k = (joins at (while_loop p e a) h.0 k.0, both_all (in_loop at) a h.1 k.1)
    both at (pick p a b) h k = (joins at (pick p a b) h.0 k.0, both (in_pick at) a h.1 k.1, both (in_pick at) b h.2 k.2)
    both at (skip p) h k = joins at (skip p) h k
    both at (set p d e) h k = joins at (set p d e) h k
    both at (set_element p a i e) h k = joins at (set_element p a i e) h k
    both at (call p d f es) h k = joins at (call p d f es) h k
    both at (call_by p d x es) h k = joins at (call_by p d x es) h k
    both at (break_loop p) h k = joins at (break_loop p) h k
    both at (return_with p e) h k = joins at (return_with p e) h k
    both at (assert_that p e) h k = joins at (assert_that p e) h k
    both at (input p d) h k = joins at (input p d) h k
    both at (output p e) h k = joins at (output p e) h k
    both at (point p n) h k = joins at (point p n) h k
    both at (choice p d n) h k = joins at (choice p d n) h k
    both at (force p) h k = joins at (force p) h k

    pub both_all : (at : Context) (ss : Statements) → ThroughoutAll P at ss → ThroughoutAll Q at ss → ThroughoutAll R at ss
    both_all at none h k = tt
    both_all at (more s ss) h k = (both at s h.0 k.0, both_all (past at s) ss h.1 k.1)

pub weaker_all : (P R : Context → Statement → Type 0) → ((at : Context) (s : Statement) → P at s → R at s)
    → (at : Context) (ss : Statements) → ThroughoutAll P at ss → ThroughoutAll R at ss
weaker_all P R gives at ss h = both_all P P R (λ at s h k. gives at s h) at ss h h

-- ---- one body past the other

pub told_append : (names : List Bytes) (xs ys : List Stmt) → told_all names (body_of (xs ++ ys)) ≡ told_all (told_all names (body_of xs)) (body_of ys)
told_append names [] ys = refl
told_append names (x ∷ xs) ys = told_append (told names (statement_of x)) xs ys

pub throughout_append : (P : Context → Statement → Type 0) (at : Context) (xs ys : List Stmt)
    → ThroughoutAll P at (body_of xs) → ThroughoutAll P (past_all at (body_of xs)) (body_of ys) → ThroughoutAll P at (body_of (xs ++ ys))
throughout_append P at [] ys h k = k
throughout_append P at (x ∷ xs) ys h k = (h.0, throughout_append P (past at (statement_of x)) xs ys h.1 k)
