-- What is typed is typed and in resolved form after resolution, in the same scopes.
use Rattle.std.proofs.Common.{◌≡◌, ℕ, zero, suc, ℤ, pos, negsuc, Bool, true, false, List, [], ◌∷◌, Option, Some, None, refl, sym, ap, ap₂, ◌∙◌, subst}
use Rattle.std.specs.Prelude.{⊤, if◌then◌else◌}
use Rattle.std.specs.Option.{option_or, option_map}
use Rattle.c_lang.specs.Names.{Bytes}
use Rattle.c_lang.specs.Trees.{Expression, literal, variable, element, function, null, negation, logical_not, binary, Statement, Statements, skip, set, set_element, call, call_by, if_else, while_loop, break_loop, return_with, assert_that, input, output, point, choice, force, pick, none, more}
use Rattle.c_lang.specs.declared.expr.Op.{Op}
use Rattle.c_lang.specs.declared.unit.Pos.{Pos}
use Rattle.c_lang.specs.declared.stmt.Dest.{Dest}
use Rattle.c_lang.specs.declared.stmt.Kind.{Kind}
use Rattle.c_lang.specs.declared.stmt.Kind.TheVariants.{Int, Fp}
use Rattle.c_types.specs.Names.{Means, Cell, Array, Code, Refused, Names, Entries}
use Rattle.c_types.specs.Scopes.{Scope, Block, names_of, kind_of_dest, Picks, in_pick}
use Rattle.c_types.specs.Expressions.{kind_of, kind_of_name, or_int, own_kind, compares_kinds, place_of}
use Rattle.c_types.specs.Calls.{place_in, ints, places_of, picked}
use Rattle.c_types.specs.Statements.{dest_of, scope_after, block_in, entered, after_block}
use Rattle.c_types.specs.Typing.{IsValue, IsFunction, IsLiteral, IsTyped, AreArguments, IsCall, IsCallBy, IsReturn, IsPicked, IsPick, IsTypedStatement, AreTyped}
use Rattle.c_types.proofs.StatementsTyped.{array_kind}
use Rattle.resolved_types.proofs.Resolution.{name_tree, literal_tree, tree, trees, call_tree, statement_tree, list_tree, picked_tree, pick_tree}
use Rattle.written_laws.proofs.StatementFits.{DeclaresNothing}
use Rattle.resolved_types.proofs.ResolvedTyping.{IsVariable, IsResolved, AreResolvedArguments, IsResolvedCall, IsResolvedCallBy, IsResolvedReturn, IsResolvedPicked, IsResolvedPick, IsResolvedStatement, AreResolved}
use Rattle.resolved_types.proofs.SameScopes.{DeclaresSame, DeclareSame, declare_nothing, declare_more, declares_if, declares_while, same_after, same_entered, same_after_block}
use Rattle.c_types.specs.Functions.{IsPlain}
use Rattle.c_types.proofs.FunctionLaws.{plain_after, no_pick}
use Rattle.c_types.proofs.PlainLaws.{element_int}

-- ---- kinds

kind_name : (names : Names) (x : Bytes) (m : Means) → names x ≡ m → kind_of names (name_tree x m) ≡ kind_of_name m
kind_name names x (Cell k) is = ap kind_of_name is
kind_name names x Array is = ap kind_of_name is
kind_name names x (Code params gives value denied) is = ap kind_of_name is
kind_name names x (Refused n) is = ap kind_of_name is

kind_literal : (names : Names) (k : Kind) (z : ℤ) → IsLiteral k z → kind_of names (literal_tree k z) ≡ kind_of names (literal z)
kind_literal names Int z h = refl
kind_literal names (Fp n) z h = rw h refl

pub kind_tree : (names : Names) (k : Kind) (e : Expression) → IsTyped names k e → kind_of names (tree names k e) ≡ kind_of names e
kind_tree names k (literal z) h = kind_literal names k z h
kind_tree names k (variable x) h = kind_name names x (names x) refl
kind_tree names k (element a i) h = refl
kind_tree names k (function f) h = refl
kind_tree names k null h = refl
kind_tree names k (negation a) h = refl
kind_tree names k (logical_not a) h = refl
kind_tree names k (binary o a b) h = refl

-- the place of two sides by their kinds
abbrev pub place_by : Op → Option Kind → Option Kind → Kind
place_by o x y = if compares_kinds o then or_int (option_or x y) else Int

-- ---- expressions

name_resolved : (names : Names) (k : Kind) (x : Bytes) (m : Means) → names x ≡ m → IsValue k m → IsResolved names k (name_tree x m)
name_resolved names k x (Cell j) is h = subst (IsVariable k) (sym is) h
name_resolved names k x Array is h = absurd h
name_resolved names k x (Code params gives (Some n) denied) is h = subst (IsFunction k) (sym is) h
name_resolved names k x (Code params gives None denied) is h = absurd h
name_resolved names k x (Refused n) is h = absurd h

literal_resolved : (names : Names) (k : Kind) (z : ℤ) → IsLiteral k z → IsResolved names k (literal_tree k z)
literal_resolved names Int z h = tt
literal_resolved names (Fp n) z h = tt

pub expression_resolved : (names : Names) (k : Kind) (e : Expression) → IsTyped names k e → IsResolved names k (tree names k e)
expression_resolved names k (literal z) h = literal_resolved names k z h
expression_resolved names k (variable x) h = name_resolved names k x (names x) refl h
expression_resolved names k (element a i) h = (h.0, h.1, expression_resolved names Int i h.2)
expression_resolved names k (function f) h = h
expression_resolved names k null h = h
expression_resolved names k (negation a) h = (h.0, expression_resolved names Int a h.1)
expression_resolved names k (logical_not a) h = (h.0, expression_resolved names Int a h.1)
expression_resolved names k (binary o a b) h =
    let j = place_of names o a b in
    let same : place_of names o (tree names j a) (tree names j b) ≡ j = ap₂ (place_by o) (kind_tree names j a h.1) (kind_tree names j b h.2) in (
      h.0,
      subst (λ (l : Kind). IsResolved names l (tree names j a)) (sym same) (expression_resolved names j a h.1),
      subst (λ (l : Kind). IsResolved names l (tree names j b)) (sym same) (expression_resolved names j b h.2),
    )

-- ---- arguments

value_int : (m : Means) → IsValue Int m → or_int (kind_of_name m) ≡ Int
value_int (Cell k) h = sym h
value_int Array h = absurd h
value_int (Code params gives (Some n) denied) h = sym h
value_int (Code params gives None denied) h = absurd h
value_int (Refused n) h = absurd h

pub function_int : (m : Means) → IsFunction Int m → or_int (kind_of_name m) ≡ Int
function_int (Code params gives (Some n) denied) h = sym h
function_int (Code params gives None denied) h = absurd h
function_int (Cell k) h = absurd h
function_int Array h = absurd h
function_int (Refused n) h = absurd h

-- an int has the kind int
own_int : (names : Names) (e : Expression) → IsTyped names Int e → own_kind names e ≡ Int
own_int names (literal (pos zero)) h = refl
own_int names (literal (pos (suc n))) h = refl
own_int names (literal (negsuc n)) h = refl
own_int names (variable x) h = value_int (names x) h
own_int names (element a i) h = element_int (names a)
own_int names (function f) h = function_int (names f) h
own_int names null h = absurd h
own_int names (negation a) h = refl
own_int names (logical_not a) h = refl
own_int names (binary o a b) h = refl

arguments_resolved : (names : Names) (ks : List Kind) (es : List Expression) → AreArguments names ks es → AreResolvedArguments names ks (trees names ks es)
arguments_resolved names [] [] h = tt
arguments_resolved names [] (e ∷ es) h = absurd h
arguments_resolved names (k ∷ ks) [] h = absurd h
arguments_resolved names (k ∷ ks) (e ∷ es) h = (expression_resolved names k e h.0, arguments_resolved names ks es h.1)

ints_resolved : (names : Names) (n : ℕ) (es : List Expression) → AreArguments names (ints n) es → AreResolvedArguments names (ints n) (trees names [] es)
ints_resolved names zero [] h = tt
ints_resolved names zero (e ∷ es) h = absurd h
ints_resolved names (suc n) [] h = absurd h
ints_resolved names (suc n) (e ∷ es) h =
    (subst (λ (k : Kind). IsResolved names Int (tree names k e)) (sym (own_int names e h.0)) (expression_resolved names Int e h.0), ints_resolved names n es h.1)

-- ---- scopes

call_declares : (s : Scope) (m : Means) (p : Pos) (d : Dest) (f : Bytes) (es : List Expression) → DeclaresSame (call_tree s m p d f es) (call p d f es)
call_declares s (Cell k) p d f es = record { force = refl; dest = refl; told = λ e. refl }
call_declares s (Code params gives value denied) p d f es = record { force = refl; dest = refl; told = λ e. refl }
call_declares s Array p d f es = record { force = refl; dest = refl; told = λ e. refl }
call_declares s (Refused n) p d f es = record { force = refl; dest = refl; told = λ e. refl }

pick_declares : (p : Pos) (s : Scope) (o : Option Picks) (a b : Statement) → DeclaresSame (pick_tree p s o a b) (pick p a b)
pick_declares p s None a b = record { force = refl; dest = refl; told = λ e. refl }
pick_declares p s (Some names) a b = record { force = refl; dest = refl; told = λ e. refl }

mutual
  tree_declares : (s : Scope) (t : Statement) → DeclaresSame (statement_tree s t) t
  tree_declares s (skip p) = record { force = refl; dest = refl; told = λ e. refl }
  tree_declares s (set p d e) = record { force = refl; dest = refl; told = λ e. refl }
  tree_declares s (set_element p a i e) = record { force = refl; dest = refl; told = λ e. refl }
  tree_declares s (call p d f es) = call_declares s (names_of s f) p d f es
  tree_declares s (call_by p d x es) = record { force = refl; dest = refl; told = λ e. refl }
  tree_declares s (if_else p c xs ys) =
      declares_if p p (tree (names_of s) Int c) c (list_tree (entered s xs) xs) (list_tree (entered (after_block s xs) ys) ys) xs ys
      (trees_declare (entered s xs) xs) (trees_declare (entered (after_block s xs) ys) ys)
  tree_declares s (while_loop p c xs) = declares_while p p (tree (names_of s) Int c) c (list_tree (entered s xs) xs) xs (trees_declare (entered s xs) xs)
  tree_declares s (break_loop p) = record { force = refl; dest = refl; told = λ e. refl }
  tree_declares s (return_with p e) = record { force = refl; dest = refl; told = λ e. refl }
  tree_declares s (assert_that p e) = record { force = refl; dest = refl; told = λ e. refl }
  tree_declares s (input p d) = record { force = refl; dest = refl; told = λ e. refl }
  tree_declares s (output p e) = record { force = refl; dest = refl; told = λ e. refl }
  tree_declares s (point p k) = record { force = refl; dest = refl; told = λ e. refl }
  tree_declares s (choice p d k) = record { force = refl; dest = refl; told = λ e. refl }
  tree_declares s (force p) = record { force = refl; dest = refl; told = λ e. refl }
  tree_declares s (pick p a b) = pick_declares p s s.picks a b

  pub trees_declare : (s : Scope) (ts : Statements) → DeclareSame (list_tree s ts) ts
  trees_declare s none = declare_nothing
  trees_declare s (more t ts) =
      declare_more (statement_tree s t) t (list_tree (scope_after s t) ts) ts (tree_declares s t) (trees_declare (scope_after s t) ts)

-- ---- statements

call_resolved : (b : Block) (s : Scope) (m : Means) (p : Pos) (d : Dest) (f : Bytes) (es : List Expression) → names_of s f ≡ m
    → IsTypedStatement b s (call p d f es) → IsCall s m d es → IsResolvedStatement b s (call_tree s m p d f es)
call_resolved b s (Cell Int) p d f es is h k = absurd k
call_resolved b s (Cell (Fp n)) p d f es is h k =
    (h.0, subst (λ (m : Means). IsResolvedCallBy s m d (trees (names_of s) [] es)) (sym is) (k.0, k.1, ints_resolved (names_of s) n es k.2))
call_resolved b s (Code params gives value denied) p d f es is h k =
    (h.0, subst (λ (m : Means). IsResolvedCall s m d (trees (names_of s) params es)) (sym is) (k.0, k.1, arguments_resolved (names_of s) params es k.2))
call_resolved b s Array p d f es is h k = absurd k
call_resolved b s (Refused n) p d f es is h k = absurd k

call_by_resolved : (s : Scope) (m : Means) (d : Dest) (es : List Expression) → IsCallBy s m d es → IsResolvedCallBy s m d (trees (names_of s) [] es)
call_by_resolved s (Cell Int) d es h = absurd h
call_by_resolved s (Cell (Fp n)) d es h = (h.0, h.1, ints_resolved (names_of s) n es h.2)
call_by_resolved s (Code params gives value denied) d es h = absurd h
call_by_resolved s Array d es h = absurd h
call_by_resolved s (Refused n) d es h = absurd h

return_resolved : (names : Names) (gives : Bool) (e : Option Expression) → IsReturn names gives e → IsResolvedReturn names gives (option_map (tree names Int) e)
return_resolved names true None h = absurd h
return_resolved names false None h = tt
return_resolved names true (Some e) h = expression_resolved names Int e h
return_resolved names false (Some e) h = absurd h

-- ---- picks

-- the calls of all picks declare nothing, as texts have them
abbrev mutual
  pub PicksDeclareNothing : Statement → Type 0
  PicksDeclareNothing (if_else p e xs ys) = AllPicksDeclareNothing xs × AllPicksDeclareNothing ys
  PicksDeclareNothing (while_loop p e xs) = AllPicksDeclareNothing xs
  PicksDeclareNothing (pick p a b) = DeclaresNothing (dest_of a) × DeclaresNothing (dest_of b)
  PicksDeclareNothing s = ⊤

  pub AllPicksDeclareNothing : Statements → Type 0
  AllPicksDeclareNothing none = ⊤
  AllPicksDeclareNothing (more s ss) = PicksDeclareNothing s × AllPicksDeclareNothing ss

-- in a scope where no pick may stand
mutual
  plain_picks : (b : Block) (s : Scope) (t : Statement) → IsPlain s → IsTypedStatement b s t → PicksDeclareNothing t
  plain_picks b s (if_else p e xs ys) plain h =
      (plain_all_picks (block_in s) (entered s xs) xs (refl, plain.1) h.1, plain_all_picks (block_in s) (entered (after_block s xs) ys) ys (refl, plain.1) h.2)
  plain_picks b s (while_loop p e xs) plain h = plain_all_picks (block_in s) (entered s xs) xs (refl, plain.1) h.1
  plain_picks b s (pick p x y) plain h = absurd (no_pick b s x y plain h)
  plain_picks b s _ plain h = tt

  pub plain_all_picks : (b : Block) (s : Scope) (ts : Statements) → IsPlain s → AreTyped b s ts → AllPicksDeclareNothing ts
  plain_all_picks b s none plain h = tt
  plain_all_picks b s (more t ts) plain h = (plain_picks b s t plain h.0, plain_all_picks b (scope_after s t) ts (plain_after s t plain) h.1)

by_picked : (s : Scope) (m : Means) (d : Dest) (es : List Expression) → IsCall s (picked m) d es → IsResolvedCall s (picked m) d (trees (names_of s) (places_of m) es)
by_picked s (Code params gives value None) d es h = (h.0, h.1, arguments_resolved (names_of s) params es h.2)
by_picked s (Code params gives value (Some n)) d es h = absurd h
by_picked s (Cell Int) d es h = absurd h
by_picked s (Cell (Fp n)) d es h = absurd h
by_picked s Array d es h = absurd h
by_picked s (Refused n) d es h = absurd h

picked_resolved : (at : Pos) (b : Block) (s : Scope) (o : Entries) (t : Statement) → DeclaresNothing (dest_of t) → IsPicked b s o t
    → IsResolvedPicked b s o (picked_tree at s o t)
picked_resolved at b s o (call p d f es) quiet h = (quiet, h.0, by_picked (in_pick s o) (names_of (in_pick s o) f) d es h.1)
picked_resolved at b s o _ quiet h = absurd h

pick_resolved : (b : Block) (s : Scope) (p : Pos) (o : Option Picks) (x y : Statement) → s.picks ≡ o → PicksDeclareNothing (pick p x y) → IsPick b s o x y
    → IsResolvedStatement b s (pick_tree p s o x y)
pick_resolved b s p None x y is quiet h = absurd h
pick_resolved b s p (Some names) x y is quiet h =
    subst (λ (o : Option Picks). IsResolvedPick b s o (picked_tree p s names.after x) (picked_tree p s names.before y)) (sym is)
    (picked_resolved p b s names.after x quiet.0 h.0, picked_resolved p b s names.before y quiet.1 h.1)

-- ---- all statements

mutual
  pub statement_resolved : (b : Block) (s : Scope) (t : Statement) → PicksDeclareNothing t → IsTypedStatement b s t → IsResolvedStatement b s (statement_tree s t)
  statement_resolved b s (skip p) quiet h = tt
  statement_resolved b s (set p d e) quiet h =
      let k = place_in s d e in
      let same : place_in s d (tree (names_of s) k e) ≡ k = ap (λ (o : Option Kind). or_int (option_or (kind_of_dest s d) o)) (kind_tree (names_of s) k e h.1) in
      (h.0, subst (λ (l : Kind). IsResolved (names_of s) l (tree (names_of s) k e)) (sym same) (expression_resolved (names_of s) k e h.1))
  statement_resolved b s (set_element p a i e) quiet h = (
    h.0,
    expression_resolved (names_of s) Int i h.1,
    subst (λ (k : Kind). IsResolved (names_of s) Int (tree (names_of s) k e)) (sym (array_kind (names_of s) (names_of s a) e h.0)) (expression_resolved (names_of s) Int e h.2),
  )
  statement_resolved b s (call p d f es) quiet h = call_resolved b s (names_of s f) p d f es refl h h.1
  statement_resolved b s (call_by p d x es) quiet h = (h.0, call_by_resolved s (names_of s x) d es h.1)
  statement_resolved b s (if_else p c xs ys) quiet h =
      let vs = list_tree (entered s xs) xs in
      let first : DeclareSame vs xs = trees_declare (entered s xs) xs in
      let ws = list_tree (entered (after_block s xs) ys) ys in
      let second : DeclareSame ws ys = trees_declare (entered (after_block s xs) ys) ys in (
        expression_resolved (names_of s) Int c h.0,
        subst (λ (t : Scope). AreResolved (block_in s) t vs) (sym (same_entered vs xs first s)) (list_resolved (block_in s) (entered s xs) xs quiet.0 h.1),
        subst (λ (t : Scope). AreResolved (block_in s) t ws) (sym (ap (λ (t : Scope). entered t ws) (same_after_block vs xs first s) ∙ same_entered ws ys second (after_block s xs)))
            (list_resolved (block_in s) (entered (after_block s xs) ys) ys quiet.1 h.2),
      )
  statement_resolved b s (while_loop p c xs) quiet h =
      let vs = list_tree (entered s xs) xs in
      let first : DeclareSame vs xs = trees_declare (entered s xs) xs in (
        expression_resolved (names_of s) Int c h.0,
        subst (λ (t : Scope). AreResolved (block_in s) t vs) (sym (same_entered vs xs first s)) (list_resolved (block_in s) (entered s xs) xs quiet h.1),
      )
  statement_resolved b s (break_loop p) quiet h = tt
  statement_resolved b s (return_with p e) quiet h = return_resolved (names_of s) s.gives e h
  statement_resolved b s (assert_that p e) quiet h = expression_resolved (names_of s) Int e h
  statement_resolved b s (input p d) quiet h = h
  statement_resolved b s (output p e) quiet h = (h.0, expression_resolved (names_of s) Int e h.1)
  statement_resolved b s (point p k) quiet h = h
  statement_resolved b s (choice p d k) quiet h = h
  statement_resolved b s (force p) quiet h = h
  statement_resolved b s (pick p x y) quiet h = pick_resolved b s p s.picks x y refl quiet h

  pub list_resolved : (b : Block) (s : Scope) (ts : Statements) → AllPicksDeclareNothing ts → AreTyped b s ts → AreResolved b s (list_tree s ts)
  list_resolved b s none quiet h = tt
  list_resolved b s (more t ts) quiet h = (
    statement_resolved b s t quiet.0 h.0,
    subst (λ (u : Scope). AreResolved b u (list_tree (scope_after s t) ts)) (sym (same_after (statement_tree s t) t s (tree_declares s t)))
        (list_resolved b (scope_after s t) ts quiet.1 h.1),
  )
