-- What is typed and in resolved form is the resolution of its plain form, which is typed in the same scopes.
use Rattle.std.proofs.Common.{◌≡◌, ℕ, zero, suc, ℤ, pos, negsuc, Bool, true, false, List, [], ◌∷◌, map, Option, Some, None, refl, sym, ap, ap₂, ◌∙◌, subst}
use Rattle.std.specs.Option.{option_or, option_map}
use Rattle.c_lang.specs.Names.{Bytes}
use Rattle.c_lang.specs.Trees.{Expression, literal, variable, element, function, null, negation, logical_not, binary, Statement, Statements, skip, set, set_element, call, call_by, if_else, while_loop, break_loop, return_with, assert_that, input, output, point, choice, force, pick, none, more}
use Rattle.c_lang.specs.declared.unit.Pos.{Pos}
use Rattle.c_lang.specs.declared.stmt.Dest.{Dest}
use Rattle.c_lang.specs.declared.stmt.Kind.{Kind}
use Rattle.c_lang.specs.declared.stmt.Kind.TheVariants.{Int, Fp}
use Rattle.c_types.specs.Names.{Means, Cell, Array, Code, Refused, Names, Entries}
use Rattle.c_types.specs.Scopes.{Picks, Scope, Block, in_pick, names_of, kind_of_dest}
use Rattle.c_types.specs.Expressions.{kind_of, kind_of_name, or_int, own_kind, place_of}
use Rattle.c_types.specs.Calls.{place_in, element_kind, ints, places_of, picked}
use Rattle.c_types.specs.Statements.{scope_after, block_in, entered, after_block}
use Rattle.c_types.specs.Typing.{IsValue, IsFunction, IsLiteral, IsPointer, IsTyped, AreArguments, IsCall, IsReturn, IsPicked, IsPick, IsTypedStatement, AreTyped}
use Rattle.c_types.specs.Plain.{plain_expression, plain_statement, plain_statements}
use Rattle.c_types.proofs.StatementsTyped.{array_kind}
use Rattle.resolved_types.proofs.Resolution.{name_tree, literal_tree, tree, trees, call_tree, picked_tree, pick_tree, statement_tree, list_tree}
use Rattle.resolved_types.proofs.ResolvedTyping.{IsInt, IsVariable, IsResolved, AreResolvedArguments, IsResolvedCall, IsResolvedCallBy, IsResolvedReturn, IsResolvedPicked, IsResolvedPick, IsResolvedStatement, AreResolved}
use Rattle.resolved_types.proofs.ResolvedSources.{place_by, function_int}
use Rattle.resolved_types.proofs.SameScopes.{DeclaresSame, DeclareSame, declare_nothing, declare_more, declares_if, declares_while, same_after, same_entered, same_after_block}
use Rattle.c_types.proofs.PlainLaws.{element_int}

-- ---- expressions

kind_plain : (names : Names) (e : Expression) → kind_of names (plain_expression e) ≡ kind_of names e
kind_plain names (literal z) = refl
kind_plain names (variable x) = refl
kind_plain names (element a i) = refl
kind_plain names (function f) = refl
kind_plain names null = refl
kind_plain names (negation a) = refl
kind_plain names (logical_not a) = refl
kind_plain names (binary o a b) = refl

-- an expression that is typed in this place, and what its resolution is
record IsPlainOf (names : Names) (k : Kind) (e whole : Expression) : Type 0 where
  typed : IsTyped names k e
  tree : tree names k e ≡ whole

plain_variable : (k : Kind) (x : Bytes) (m : Means) → IsVariable k m → IsValue k m × (name_tree x m ≡ variable x)
plain_variable k x (Cell j) h = (h, refl)
plain_variable k x Array h = absurd h
plain_variable k x (Code params gives value denied) h = absurd h
plain_variable k x (Refused n) h = absurd h

plain_function : (k : Kind) (x : Bytes) (m : Means) → IsFunction k m → IsValue k m × (name_tree x m ≡ function x)
plain_function k x (Cell j) h = absurd h
plain_function k x Array h = absurd h
plain_function k x (Code params gives (Some n) denied) h = (h, refl)
plain_function k x (Code params gives None denied) h = absurd h
plain_function k x (Refused n) h = absurd h

plain_literal : (k : Kind) (z : ℤ) → IsInt k → IsLiteral k z × (literal_tree k z ≡ literal z)
plain_literal Int z h = (tt, refl)
plain_literal (Fp n) z h = absurd h

plain_null : (k : Kind) → IsPointer k → IsLiteral k (pos 0) × (literal_tree k (pos 0) ≡ null)
plain_null Int h = absurd h
plain_null (Fp n) h = (refl, refl)

plain_of : (names : Names) (k : Kind) (e : Expression) → IsResolved names k e → IsPlainOf names k (plain_expression e) e
plain_of names k (literal z) h = let q = plain_literal k z h in record { typed = q.0; tree = q.1 }
plain_of names k (variable x) h = let q = plain_variable k x (names x) h in record { typed = q.0; tree = q.1 }
plain_of names k (element a i) h =
    let q = plain_of names Int i h.2 in record { typed = (h.0, h.1, q.typed); tree = ap (element a) q.tree }
plain_of names k (function f) h = let q = plain_function k f (names f) h in record { typed = q.0; tree = q.1 }
plain_of names k null h = let q = plain_null k h in record { typed = q.0; tree = q.1 }
plain_of names k (negation a) h = let q = plain_of names Int a h.1 in record { typed = (h.0, q.typed); tree = ap negation q.tree }
plain_of names k (logical_not a) h = let q = plain_of names Int a h.1 in record { typed = (h.0, q.typed); tree = ap logical_not q.tree }
plain_of names k (binary o a b) h =
    let j = place_of names o a b in
    let same : j ≡ place_of names o (plain_expression a) (plain_expression b) = ap₂ (place_by o) (sym (kind_plain names a)) (sym (kind_plain names b)) in
    let q = subst (λ (l : Kind). IsPlainOf names l (plain_expression a) a) same (plain_of names j a h.1) in
    let r = subst (λ (l : Kind). IsPlainOf names l (plain_expression b) b) same (plain_of names j b h.2) in
    record { typed = (h.0, q.typed, r.typed); tree = ap₂ (binary o) q.tree r.tree }

-- ---- arguments

variable_int : (m : Means) → IsVariable Int m → or_int (kind_of_name m) ≡ Int
variable_int (Cell k) h = sym h
variable_int Array h = absurd h
variable_int (Code params gives value denied) h = absurd h
variable_int (Refused n) h = absurd h

-- an int has the kind int
own_int : (names : Names) (e : Expression) → IsResolved names Int e → own_kind names (plain_expression e) ≡ Int
own_int names (literal (pos zero)) h = refl
own_int names (literal (pos (suc n))) h = refl
own_int names (literal (negsuc n)) h = refl
own_int names (variable x) h = variable_int (names x) h
own_int names (element a i) h = element_int (names a)
own_int names (function f) h = function_int (names f) h
own_int names null h = absurd h
own_int names (negation a) h = refl
own_int names (logical_not a) h = refl
own_int names (binary o a b) h = refl

abbrev cons : Expression → List Expression → List Expression
cons x xs = x ∷ xs

plain_arguments : (names : Names) (ks : List Kind) (es : List Expression) → AreResolvedArguments names ks es
    → AreArguments names ks (map plain_expression es) × (trees names ks (map plain_expression es) ≡ es)
plain_arguments names [] [] h = (tt, refl)
plain_arguments names [] (e ∷ es) h = absurd h
plain_arguments names (k ∷ ks) [] h = absurd h
plain_arguments names (k ∷ ks) (e ∷ es) h =
    let q = plain_of names k e h.0 in
    let r = plain_arguments names ks es h.1 in
    ((q.typed, r.0), ap₂ cons q.tree r.1)

plain_ints : (names : Names) (n : ℕ) (es : List Expression) → AreResolvedArguments names (ints n) es
    → AreArguments names (ints n) (map plain_expression es) × (trees names [] (map plain_expression es) ≡ es)
plain_ints names zero [] h = (tt, refl)
plain_ints names zero (e ∷ es) h = absurd h
plain_ints names (suc n) [] h = absurd h
plain_ints names (suc n) (e ∷ es) h =
    let q = plain_of names Int e h.0 in
    let r = plain_ints names n es h.1 in
    ((q.typed, r.0), ap₂ cons (ap (λ (k : Kind). tree names k (plain_expression e)) (own_int names e h.0) ∙ q.tree) r.1)

-- ---- statements

-- a statement that is typed in this scope, and what its resolution is
record IsPlainStatement (b : Block) (s : Scope) (t whole : Statement) : Type 0 where
  typed : IsTypedStatement b s t
  tree : statement_tree s t ≡ whole

pub record ArePlain (b : Block) (s : Scope) (ts whole : Statements) : Type 0 where
  pub typed : AreTyped b s ts
  pub tree : list_tree s ts ≡ whole

mutual
  plain_declares : (t : Statement) → DeclaresSame (plain_statement t) t
  plain_declares (skip p) = record { force = refl; dest = refl; told = λ e. refl }
  plain_declares (set p d e) = record { force = refl; dest = refl; told = λ e. refl }
  plain_declares (set_element p a i e) = record { force = refl; dest = refl; told = λ e. refl }
  plain_declares (call p d f es) = record { force = refl; dest = refl; told = λ e. refl }
  plain_declares (call_by p d x es) = record { force = refl; dest = refl; told = λ e. refl }
  plain_declares (if_else p c xs ys) =
      declares_if p p (plain_expression c) c (plain_statements xs) (plain_statements ys) xs ys (plain_declare xs) (plain_declare ys)
  plain_declares (while_loop p c xs) = declares_while p p (plain_expression c) c (plain_statements xs) xs (plain_declare xs)
  plain_declares (break_loop p) = record { force = refl; dest = refl; told = λ e. refl }
  plain_declares (return_with p e) = record { force = refl; dest = refl; told = λ e. refl }
  plain_declares (assert_that p e) = record { force = refl; dest = refl; told = λ e. refl }
  plain_declares (input p d) = record { force = refl; dest = refl; told = λ e. refl }
  plain_declares (output p e) = record { force = refl; dest = refl; told = λ e. refl }
  plain_declares (point p k) = record { force = refl; dest = refl; told = λ e. refl }
  plain_declares (choice p d k) = record { force = refl; dest = refl; told = λ e. refl }
  plain_declares (force p) = record { force = refl; dest = refl; told = λ e. refl }
  plain_declares (pick p a b) = record { force = refl; dest = refl; told = λ e. refl }

  pub plain_declare : (ts : Statements) → DeclareSame (plain_statements ts) ts
  plain_declare none = declare_nothing
  plain_declare (more t ts) = declare_more (plain_statement t) t (plain_statements ts) ts (plain_declares t) (plain_declare ts)

call_plain : (s : Scope) (m : Means) (p : Pos) (d : Dest) (f : Bytes) (es : List Expression) → IsResolvedCall s m d es
    → IsCall s m d (map plain_expression es) × (call_tree s m p d f (map plain_expression es) ≡ call p d f es)
call_plain s (Code params gives value denied) p d f es h =
    let q = plain_arguments (names_of s) params es h.2 in ((h.0, h.1, q.0), ap (call p d f) q.1)
call_plain s (Cell k) p d f es h = absurd h
call_plain s Array p d f es h = absurd h
call_plain s (Refused n) p d f es h = absurd h

call_by_plain : (s : Scope) (m : Means) (p : Pos) (d : Dest) (x : Bytes) (es : List Expression) → IsResolvedCallBy s m d es
    → IsCall s m d (map plain_expression es) × (call_tree s m p d x (map plain_expression es) ≡ call_by p d x es)
call_by_plain s (Cell Int) p d x es h = absurd h
call_by_plain s (Cell (Fp n)) p d x es h =
    let q = plain_ints (names_of s) n es h.2 in ((h.0, h.1, q.0), ap (call_by p d x) q.1)
call_by_plain s (Code params gives value denied) p d x es h = absurd h
call_by_plain s Array p d x es h = absurd h
call_by_plain s (Refused n) p d x es h = absurd h

return_plain : (names : Names) (gives : Bool) (p : Pos) (e : Option Expression) → IsResolvedReturn names gives e
    → IsReturn names gives (option_map plain_expression e) × (option_map (tree names Int) (option_map plain_expression e) ≡ e)
return_plain names true p None h = absurd h
return_plain names false p None h = (tt, refl)
return_plain names true p (Some e) h = let q = plain_of names Int e h in (q.typed, ap Some q.tree)
return_plain names false p (Some e) h = absurd h

-- ---- picks

by_picked : (s : Scope) (m : Means) (d : Dest) (es : List Expression) → IsResolvedCall s (picked m) d es
    → IsCall s (picked m) d (map plain_expression es) × (trees (names_of s) (places_of m) (map plain_expression es) ≡ es)
by_picked s (Code params gives value None) d es h = let q = plain_arguments (names_of s) params es h.2 in ((h.0, h.1, q.0), q.1)
by_picked s (Code params gives value (Some n)) d es h = absurd h
by_picked s (Cell Int) d es h = absurd h
by_picked s (Cell (Fp n)) d es h = absurd h
by_picked s Array d es h = absurd h
by_picked s (Refused n) d es h = absurd h

picked_plain : (at : Pos) (b : Block) (s : Scope) (o : Entries) (t : Statement) → IsResolvedPicked b s o t
    → IsPicked b s o (plain_statement t) × (picked_tree at s o (plain_statement t) ≡ t)
picked_plain at b s o (call p d f es) h =
    let q = by_picked (in_pick s o) (names_of (in_pick s o) f) d es h.2 in ((h.1, q.0), ap (call p d f) q.1)
picked_plain at b s o _ h = absurd h

pick_plain : (b : Block) (s : Scope) (p : Pos) (o : Option Picks) (x y : Statement) → IsResolvedPick b s o x y
    → IsPick b s o (plain_statement x) (plain_statement y) × (pick_tree p s o (plain_statement x) (plain_statement y) ≡ pick p x y)
pick_plain b s p None x y h = absurd h
pick_plain b s p (Some names) x y h =
    let q = picked_plain p b s names.after x h.0 in
    let r = picked_plain p b s names.before y h.1 in
    ((q.0, r.0), ap₂ (pick p) q.1 r.1)

-- ---- all statements

mutual
  statement_plain : (b : Block) (s : Scope) (t : Statement) → IsResolvedStatement b s t → IsPlainStatement b s (plain_statement t) t
  statement_plain b s (skip p) h = record { typed = tt; tree = refl }
  statement_plain b s (set p d e) h =
      let same : place_in s d e ≡ place_in s d (plain_expression e) = ap (λ (o : Option Kind). or_int (option_or (kind_of_dest s d) o)) (sym (kind_plain (names_of s) e)) in
      let q = subst (λ (k : Kind). IsPlainOf (names_of s) k (plain_expression e) e) same (plain_of (names_of s) (place_in s d e) e h.1) in
      record { typed = (h.0, q.typed); tree = ap (set p d) q.tree }
  statement_plain b s (set_element p a i e) h =
      let q = plain_of (names_of s) Int i h.1 in
      let r = plain_of (names_of s) Int e h.2 in
      let k : element_kind (names_of s) (names_of s a) (plain_expression e) ≡ Int = array_kind (names_of s) (names_of s a) (plain_expression e) h.0 in
      record {
        typed = (h.0, q.typed, r.typed);
        tree = ap₂ (set_element p a) q.tree (ap (λ (j : Kind). tree (names_of s) j (plain_expression e)) k ∙ r.tree);
      }
  statement_plain b s (call p d f es) h = let q = call_plain s (names_of s f) p d f es h.1 in record { typed = (h.0, q.0); tree = q.1 }
  statement_plain b s (call_by p d x es) h = let q = call_by_plain s (names_of s x) p d x es h.1 in record { typed = (h.0, q.0); tree = q.1 }
  statement_plain b s (if_else p c xs ys) h =
      let q = plain_of (names_of s) Int c h.0 in
      let vs = plain_statements xs in
      let ws = plain_statements ys in
      let first = subst (λ (u : Scope). ArePlain (block_in s) u vs xs) (sym (same_entered vs xs (plain_declare xs) s)) (list_plain (block_in s) (entered s xs) xs h.1) in
      let second = subst (λ (u : Scope). ArePlain (block_in s) u ws ys)
      (sym (ap (λ (u : Scope). entered u ws) (same_after_block vs xs (plain_declare xs) s) ∙ same_entered ws ys (plain_declare ys) (after_block s xs)))
      (list_plain (block_in s) (entered (after_block s xs) ys) ys h.2) in
      record { typed = (q.typed, first.typed, second.typed); tree = λ i. if_else p (q.tree i) (first.tree i) (second.tree i) }
  statement_plain b s (while_loop p c xs) h =
      let q = plain_of (names_of s) Int c h.0 in
      let vs = plain_statements xs in
      let first = subst (λ (u : Scope). ArePlain (block_in s) u vs xs) (sym (same_entered vs xs (plain_declare xs) s)) (list_plain (block_in s) (entered s xs) xs h.1) in
      record { typed = (q.typed, first.typed); tree = ap₂ (while_loop p) q.tree first.tree }
  statement_plain b s (break_loop p) h = record { typed = tt; tree = refl }
  statement_plain b s (return_with p e) h = let q = return_plain (names_of s) s.gives p e h in record { typed = q.0; tree = ap (return_with p) q.1 }
  statement_plain b s (assert_that p e) h = let q = plain_of (names_of s) Int e h in record { typed = q.typed; tree = ap (assert_that p) q.tree }
  statement_plain b s (input p d) h = record { typed = h; tree = refl }
  statement_plain b s (output p e) h = let q = plain_of (names_of s) Int e h.1 in record { typed = (h.0, q.typed); tree = ap (output p) q.tree }
  statement_plain b s (point p k) h = record { typed = h; tree = refl }
  statement_plain b s (choice p d k) h = record { typed = h; tree = refl }
  statement_plain b s (force p) h = record { typed = h; tree = refl }
  statement_plain b s (pick p x y) h = let q = pick_plain b s p s.picks x y h in record { typed = q.0; tree = q.1 }

  pub list_plain : (b : Block) (s : Scope) (ts : Statements) → AreResolved b s ts → ArePlain b s (plain_statements ts) ts
  list_plain b s none h = record { typed = tt; tree = refl }
  list_plain b s (more t ts) h =
      let q = statement_plain b s t h.0 in
      let r = subst (λ (u : Scope). ArePlain b u (plain_statements ts) ts) (sym (same_after (plain_statement t) t s (plain_declares t))) (list_plain b (scope_after s t) ts h.1) in
      record { typed = (q.typed, r.typed); tree = ap₂ more q.tree r.tree }
