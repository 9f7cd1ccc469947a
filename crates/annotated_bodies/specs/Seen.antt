-- The code's annotated statements as plain data, on which definitions go by cases.
use Rattle.std.specs.Prelude.{List, [], ◌∷◌, map}
use Rattle.c_lang.specs.Trees.{Statement, Statements, statement_of}
use Rattle.c_lang.specs.Trees as tree
use Rattle.terms.specs.declared.sym.Sym.{Sym}
use Rattle.terms.specs.declared.fact.Fact.{Fact}
use Rattle.annotated_bodies.specs.declared.annotated.Annotated as code
use Rattle.annotated_bodies.specs.declared.annotated.Annotated.{fold-Annotated}
use Rattle.annotated_bodies.specs.declared.annotated.Annotated.TheOpen.{Annotated-F}
use Rattle.weakest_preconditions.specs.Annotated.{Annotated, aside, set, set_element, call, call_by, if_else, while_loop, break_loop, return_with, assert_that, input, output, choice, Body, none, more}

-- statements with what is noted of them
mutual
  pub data Noted : Type 0 where
    noted : Statement → (first second : Notes) → List Fact → (outcome fresh : List Sym) → Noted

  pub data Notes : Type 0 where
    end : Notes
    next : Noted → Notes → Notes

abbrev pub notes : List Noted → Notes
notes [] = end
notes (t ∷ ts) = next t (notes ts)

abbrev pub noted_step : Annotated-F Noted → Noted
noted_step a = noted (statement_of a.stmt.now) (notes a.first) (notes a.second) a.invariants a.outcome a.fresh

abbrev pub noted_of : code.Annotated → Noted
noted_of = fold-Annotated Noted noted_step

-- the annotated statements that they stand for
abbrev mutual
  pub annotated_by : Statement → (first second : Body) → List Fact → (outcome fresh : List Sym) → Annotated
  annotated_by (tree.set p d e) a b invariants outcome fresh = set p d e
  annotated_by (tree.set_element p x i e) a b invariants outcome fresh = set_element p x i e
  annotated_by (tree.call p d f es) a b invariants outcome fresh = call p d f es outcome fresh
  annotated_by (tree.call_by p d x es) a b invariants outcome fresh = call_by p d x es outcome fresh
  annotated_by (tree.if_else p e x y) a b invariants outcome fresh = if_else p e a b
  annotated_by (tree.while_loop p e x) a b invariants outcome fresh = while_loop p e a invariants fresh
  annotated_by (tree.break_loop p) a b invariants outcome fresh = break_loop p
  annotated_by (tree.return_with p e) a b invariants outcome fresh = return_with p e
  annotated_by (tree.assert_that p e) a b invariants outcome fresh = assert_that p e
  annotated_by (tree.input p d) a b invariants outcome fresh = input p d fresh
  annotated_by (tree.output p e) a b invariants outcome fresh = output p e
  annotated_by (tree.choice p d k) a b invariants outcome fresh = choice p d k fresh
  annotated_by (tree.skip p) a b invariants outcome fresh = aside (tree.skip p)
  annotated_by (tree.point p k) a b invariants outcome fresh = aside (tree.point p k)
  annotated_by (tree.force p) a b invariants outcome fresh = aside (tree.force p)
  annotated_by (tree.pick p x y) a b invariants outcome fresh = aside (tree.pick p x y)

abbrev mutual
  pub annotated_in : Noted → Annotated
  annotated_in (noted s a b invariants outcome fresh) = annotated_by s (body_in a) (body_in b) invariants outcome fresh

  pub body_in : Notes → Body
  body_in end = none
  body_in (next t ts) = more (annotated_in t) (body_in ts)

abbrev pub seen_annotated : code.Annotated → Annotated
seen_annotated a = annotated_in (noted_of a)

abbrev pub seen_body : List code.Annotated → Body
seen_body all = body_in (notes (map noted_of all))
