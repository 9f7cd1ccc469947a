-- Code of a client that may run before the swap: the functions that it names may be named then, as far as the force,
-- which stands in the outermost block alone.
use Rattle.std.proofs.Common.{◌≡◌, Bool, true, false, List, [], ◌∷◌, ◌++◌, map, Option, Some, None, refl, sym, subst}
use Rattle.c_lang.specs.Names.{Bytes}
use Rattle.c_lang.specs.Trees.{Expression, literal, variable, element, function, null, negation, logical_not, binary, Statement, Statements, skip, set, set_element, call, call_by, if_else, while_loop, break_loop, return_with, assert_that, input, output, point, choice, force, pick, none, more, statements, statement_step, statement_of}
use Rattle.c_lang.specs.declared.stmt.Stmt.{Stmt, map-Stmt}
use Rattle.c_lang.specs.declared.stmt.Stmt.TheOpen.{Stmt-F}
use Rattle.c_types.specs.Statements.{is_force}
use Rattle.plain_run.specs.Steps.{Item, Does, Mark, after_mark}

-- a statement by its outermost level
abbrev pub level_of : Stmt-F Stmt → Statement
level_of l = statement_step (map-Stmt Stmt Statement statement_of l)

-- `May` says which functions may be named
module _ (May : Bytes → Type 0) where
  abbrev pub FitsExpression : Expression → Type 0
  FitsExpression (literal z) = Unit {0}
  FitsExpression (variable x) = Unit {0}
  FitsExpression (element a i) = FitsExpression i
  FitsExpression (function f) = May f
  FitsExpression null = Unit {0}
  FitsExpression (negation a) = FitsExpression a
  FitsExpression (logical_not a) = FitsExpression a
  FitsExpression (binary o a b) = FitsExpression a × FitsExpression b

  abbrev pub FitExpressions : List Expression → Type 0
  FitExpressions [] = Unit {0}
  FitExpressions (e ∷ es) = FitsExpression e × FitExpressions es

  abbrev pub FitsReturn : Option Expression → Type 0
  FitsReturn None = Unit {0}
  FitsReturn (Some e) = FitsExpression e

  -- of a pick only the call before the swap is made
  abbrev mutual
    pub FitsStatement : Statement → Type 0
    FitsStatement (skip p) = Unit {0}
    FitsStatement (set p d e) = FitsExpression e
    FitsStatement (set_element p a i e) = FitsExpression i × FitsExpression e
    FitsStatement (call p d f es) = May f × FitExpressions es
    FitsStatement (call_by p d x es) = FitExpressions es
    FitsStatement (if_else p e xs ys) = FitsExpression e × FitStatements xs × FitStatements ys
    FitsStatement (while_loop p e xs) = FitsExpression e × FitStatements xs
    FitsStatement (break_loop p) = Unit {0}
    FitsStatement (return_with p e) = FitsReturn e
    FitsStatement (assert_that p e) = FitsExpression e
    FitsStatement (input p d) = Unit {0}
    FitsStatement (output p e) = FitsExpression e
    FitsStatement (point p k) = Unit {0}
    FitsStatement (choice p d k) = Unit {0}
    FitsStatement (force p) = ⊥
    FitsStatement (pick p a b) = FitsStatement b

    pub FitStatements : Statements → Type 0
    FitStatements none = Unit {0}
    FitStatements (more s ss) = FitsStatement s × FitStatements ss

  -- behind a force nothing is asked but that no loop goes on there
  abbrev pub FitsBy : Bool → Statement → List Item → Type 0 → Type 0
  FitsBy true s rest others = after_mark rest ≡ []
  FitsBy false s rest others = FitsStatement s × others

  -- what a frame has still to run
  abbrev pub FitItems : List Item → Type 0
  FitItems [] = Unit {0}
  FitItems (Does s ∷ rest) = FitsBy (is_force (statement_of s)) (statement_of s) rest (FitItems rest)
  FitItems (Mark s ∷ rest) = FitsStatement (statement_of s) × FitItems rest

  -- a statement before these items
  abbrev pub FitsBefore : List Item → Statement → Type 0
  FitsBefore rest s = FitsBy (is_force s) s rest (FitItems rest)

  no_force : (s : Statement) → FitsStatement s → is_force s ≡ false
  no_force (force p) h = absurd h
  no_force s h = refl

  pub fits_before : (rest : List Item) (s : Statement) → FitsStatement s → FitItems rest → FitsBefore rest s
  fits_before rest s h k = subst (λ (b : Bool). FitsBy b s rest (FitItems rest)) (sym (no_force s h)) (h, k)

  pub fits_body : (ss : List Stmt) (rest : List Item) → FitStatements (statements (map statement_of ss)) → FitItems rest → FitItems (map Does ss ++ rest)
  fits_body [] rest h k = k
  fits_body (s ∷ ss) rest h k = fits_before (map Does ss ++ rest) (statement_of s) h.0 (fits_body ss rest h.1 k)

  -- the body of a loop, which then goes on
  pub fits_loop : (ss : List Stmt) (t : Stmt) (rest : List Item) → FitStatements (statements (map statement_of ss)) → FitsStatement (statement_of t) → FitItems rest
      → FitItems ((map Does ss ++ Mark t ∷ []) ++ rest)
  fits_loop [] t rest h m k = (m, k)
  fits_loop (s ∷ ss) t rest h m k = fits_before ((map Does ss ++ Mark t ∷ []) ++ rest) (statement_of s) h.0 (fits_loop ss t rest h.1 m k)

  pub fits_after_mark : (is : List Item) → FitItems is → FitItems (after_mark is)
  fits_after_mark [] h = tt
  fits_after_mark (Does s ∷ is) h = by (is_force (statement_of s)) h (fits_after_mark is)
    where
      by : (b : Bool) → FitsBy b (statement_of s) is (FitItems is) → (FitItems is → FitItems (after_mark is)) → FitItems (after_mark is)
      by true e others = subst FitItems (sym e) tt
      by false e others = others e.1
  fits_after_mark (Mark s ∷ is) h = h.1

  -- no loop goes on in a body
  pub no_mark : (ss : List Stmt) → after_mark (map Does ss) ≡ []
  no_mark [] = refl
  no_mark (s ∷ ss) = no_mark ss
