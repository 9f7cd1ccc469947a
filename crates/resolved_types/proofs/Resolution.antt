-- Resolution of mirrors, which builds what resolution gives.
use Rattle.std.proofs.Common.{◌≡◌, ℤ, List, [], ◌∷◌, map, Option, Some, None, refl, ap, ap₂, ◌∙◌}
use Rattle.std.specs.Option.{option_map}
use Rattle.c_lang.specs.Names.{Bytes}
use Rattle.c_lang.specs.Trees.{Expression, literal, variable, element, function, null, negation, logical_not, binary, expr_of, Statement, Statements, skip, set, set_element, call, call_by, if_else, while_loop, break_loop, return_with, assert_that, input, output, point, choice, force, pick, none, more, stmt_of, stmts_of}
use Rattle.c_lang.specs.declared.expr.Expr.{Expr}
use Rattle.c_lang.specs.declared.expr.Expr.TheVariants as expr
use Rattle.c_lang.specs.declared.unit.Pos.{Pos}
use Rattle.c_lang.specs.declared.stmt.Dest.{Dest}
use Rattle.c_lang.specs.declared.stmt.Kind.{Kind}
use Rattle.c_lang.specs.declared.stmt.Kind.TheVariants.{Int, Fp}
use Rattle.c_lang.specs.declared.stmt.Stmt.{Stmt}
use Rattle.c_lang.specs.declared.stmt.Stmt.TheVariants as stmt
use Rattle.c_types.specs.Names.{Means, Cell, Array, Code, Refused, Names, Entries}
use Rattle.c_types.specs.Scopes.{Scope, names_of, Picks, in_pick}
use Rattle.c_types.specs.Bodies.{body_of}
use Rattle.c_types.specs.Expressions.{place_of, resolved_name, resolved_literal, resolved}
use Rattle.c_types.specs.Calls.{place_in, element_kind, first_place, other_places, resolved_args, resolved_call, places_of}
use Rattle.c_types.specs.Statements.{scope_after, entered, after_block, resolved_statement, resolved_list, resolved_picked, resolved_pick}
use Rattle.c_lang.proofs.TreeLemmas.{statements_back}

-- ---- expressions

abbrev pub name_tree : Bytes → Means → Expression
name_tree x (Code params gives value denied) = function x
name_tree x (Cell k) = variable x
name_tree x Array = variable x
name_tree x (Refused n) = variable x

abbrev pub literal_tree : Kind → ℤ → Expression
literal_tree Int z = literal z
literal_tree (Fp n) z = null

abbrev pub tree : Names → Kind → Expression → Expression
tree names place (literal z) = literal_tree place z
tree names place (variable x) = name_tree x (names x)
tree names place (element a i) = element a (tree names Int i)
tree names place (function f) = function f
tree names place null = null
tree names place (negation a) = negation (tree names Int a)
tree names place (logical_not a) = logical_not (tree names Int a)
tree names place (binary o a b) = binary o (tree names (place_of names o a b) a) (tree names (place_of names o a b) b)

name_built : (x : Bytes) (m : Means) → resolved_name x m ≡ expr_of (name_tree x m)
name_built x (Code params gives value denied) = refl
name_built x (Cell k) = refl
name_built x Array = refl
name_built x (Refused n) = refl

literal_built : (k : Kind) (z : ℤ) → resolved_literal k z ≡ expr_of (literal_tree k z)
literal_built Int z = refl
literal_built (Fp n) z = refl

pub tree_built : (names : Names) (place : Kind) (e : Expression) → resolved names place e ≡ expr_of (tree names place e)
tree_built names place (literal z) = literal_built place z
tree_built names place (variable x) = name_built x (names x)
tree_built names place (element a i) = ap (expr.Elem a) (tree_built names Int i)
tree_built names place (function f) = refl
tree_built names place null = refl
tree_built names place (negation a) = ap expr.Neg (tree_built names Int a)
tree_built names place (logical_not a) = ap expr.Not (tree_built names Int a)
tree_built names place (binary o a b) =
    ap₂ (expr.Bin o) (tree_built names (place_of names o a b) a) (tree_built names (place_of names o a b) b)

abbrev pub trees : Names → List Kind → List Expression → List Expression
trees names ks [] = []
trees names ks (e ∷ es) = tree names (first_place names ks e) e ∷ trees names (other_places ks) es

trees_built : (names : Names) (ks : List Kind) (es : List Expression) → resolved_args names ks es ≡ map expr_of (trees names ks es)
trees_built names ks [] = refl
trees_built names ks (e ∷ es) =
    ap₂ (λ (x : Expr) (xs : List Expr). x ∷ xs) (tree_built names (first_place names ks e) e) (trees_built names (other_places ks) es)

option_built : (names : Names) (o : Option Expression) → option_map (resolved names Int) o ≡ option_map expr_of (option_map (tree names Int) o)
option_built names None = refl
option_built names (Some e) = ap Some (tree_built names Int e)

-- ---- statements

abbrev pub call_tree : Scope → Means → Pos → Dest → Bytes → List Expression → Statement
call_tree s (Cell k) p d f es = call_by p d f (trees (names_of s) [] es)
call_tree s (Code params gives value denied) p d f es = call p d f (trees (names_of s) params es)
call_tree s Array p d f es = call p d f (trees (names_of s) [] es)
call_tree s (Refused n) p d f es = call p d f (trees (names_of s) [] es)

call_built : (s : Scope) (m : Means) (p : Pos) (d : Dest) (f : Bytes) (es : List Expression) → resolved_call s m p d f es ≡ stmt_of (call_tree s m p d f es)
call_built s (Cell k) p d f es = ap (stmt.CallBy p d f) (trees_built (names_of s) [] es)
call_built s (Code params gives value denied) p d f es = ap (stmt.Call p d f) (trees_built (names_of s) params es)
call_built s Array p d f es = ap (stmt.Call p d f) (trees_built (names_of s) [] es)
call_built s (Refused n) p d f es = ap (stmt.Call p d f) (trees_built (names_of s) [] es)

abbrev pub picked_tree : Pos → Scope → Entries → Statement → Statement
picked_tree at s o (call p d f es) = call p d f (trees (names_of (in_pick s o)) (places_of (names_of (in_pick s o) f)) es)
picked_tree at s o t = skip at

abbrev pub pick_tree : Pos → Scope → Option Picks → Statement → Statement → Statement
pick_tree p s None a b = skip p
pick_tree p s (Some names) a b = pick p (picked_tree p s names.after a) (picked_tree p s names.before b)

abbrev mutual
  pub statement_tree : Scope → Statement → Statement
  statement_tree s (skip p) = skip p
  statement_tree s (set p d e) = set p d (tree (names_of s) (place_in s d e) e)
  statement_tree s (set_element p a i e) =
      set_element p a (tree (names_of s) Int i) (tree (names_of s) (element_kind (names_of s) (names_of s a) e) e)
  statement_tree s (call p d f es) = call_tree s (names_of s f) p d f es
  statement_tree s (call_by p d x es) = call_by p d x (trees (names_of s) [] es)
  statement_tree s (if_else p e xs ys) =
      if_else p (tree (names_of s) Int e) (list_tree (entered s xs) xs) (list_tree (entered (after_block s xs) ys) ys)
  statement_tree s (while_loop p e xs) = while_loop p (tree (names_of s) Int e) (list_tree (entered s xs) xs)
  statement_tree s (break_loop p) = break_loop p
  statement_tree s (return_with p e) = return_with p (option_map (tree (names_of s) Int) e)
  statement_tree s (assert_that p e) = assert_that p (tree (names_of s) Int e)
  statement_tree s (input p d) = input p d
  statement_tree s (output p e) = output p (tree (names_of s) Int e)
  statement_tree s (point p k) = point p k
  statement_tree s (choice p d k) = choice p d k
  statement_tree s (force p) = force p
  statement_tree s (pick p a b) = pick_tree p s s.picks a b

  pub list_tree : Scope → Statements → Statements
  list_tree s none = none
  list_tree s (more t ts) = more (statement_tree s t) (list_tree (scope_after s t) ts)

picked_built : (at : Pos) (s : Scope) (o : Entries) (t : Statement) → resolved_picked at s o t ≡ stmt_of (picked_tree at s o t)
picked_built at s o (call p d f es) =
    ap (stmt.Call p d f) (trees_built (names_of (in_pick s o)) (places_of (names_of (in_pick s o) f)) es)
picked_built at s o (skip p) = refl
picked_built at s o (set p d e) = refl
picked_built at s o (set_element p a i e) = refl
picked_built at s o (call_by p d x es) = refl
picked_built at s o (if_else p e xs ys) = refl
picked_built at s o (while_loop p e xs) = refl
picked_built at s o (break_loop p) = refl
picked_built at s o (return_with p e) = refl
picked_built at s o (assert_that p e) = refl
picked_built at s o (input p d) = refl
picked_built at s o (output p e) = refl
picked_built at s o (point p k) = refl
picked_built at s o (choice p d k) = refl
picked_built at s o (force p) = refl
picked_built at s o (pick p x y) = refl

pick_built : (p : Pos) (s : Scope) (o : Option Picks) (a b : Statement) → resolved_pick p s o a b ≡ stmt_of (pick_tree p s o a b)
pick_built p s None a b = refl
pick_built p s (Some names) a b = ap₂ (stmt.Pick p) (picked_built p s names.after a) (picked_built p s names.before b)

mutual
  statement_built : (s : Scope) (t : Statement) → resolved_statement s t ≡ stmt_of (statement_tree s t)
  statement_built s (skip p) = refl
  statement_built s (set p d e) = ap (stmt.Set p d) (tree_built (names_of s) (place_in s d e) e)
  statement_built s (set_element p a i e) =
      ap₂ (stmt.SetElem p a) (tree_built (names_of s) Int i) (tree_built (names_of s) (element_kind (names_of s) (names_of s a) e) e)
  statement_built s (call p d f es) = call_built s (names_of s f) p d f es
  statement_built s (call_by p d x es) = ap (stmt.CallBy p d x) (trees_built (names_of s) [] es)
  statement_built s (if_else p e xs ys) =
      let c = tree_built (names_of s) Int e in
      let yes_is = list_built (entered s xs) xs in
      let no_is = list_built (entered (after_block s xs) ys) ys in
      (λ i. stmt.If p (c i) (yes_is i) (no_is i))
  statement_built s (while_loop p e xs) = ap₂ (stmt.While p) (tree_built (names_of s) Int e) (list_built (entered s xs) xs)
  statement_built s (break_loop p) = refl
  statement_built s (return_with p e) = ap (stmt.Return p) (option_built (names_of s) e)
  statement_built s (assert_that p e) = ap (stmt.Assert p) (tree_built (names_of s) Int e)
  statement_built s (input p d) = refl
  statement_built s (output p e) = ap (stmt.Output p) (tree_built (names_of s) Int e)
  statement_built s (point p k) = refl
  statement_built s (choice p d k) = refl
  statement_built s (force p) = refl
  statement_built s (pick p a b) = pick_built p s s.picks a b

  pub list_built : (s : Scope) (ts : Statements) → resolved_list s ts ≡ stmts_of (list_tree s ts)
  list_built s none = refl
  list_built s (more t ts) = ap₂ (λ (x : Stmt) (xs : List Stmt). x ∷ xs) (statement_built s t) (list_built (scope_after s t) ts)

pub body_resolved : (s : Scope) (ts : Statements) → body_of (resolved_list s ts) ≡ list_tree s ts
body_resolved s ts = ap body_of (list_built s ts) ∙ statements_back (list_tree s ts)
