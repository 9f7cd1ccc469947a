-- Resolution changes nothing of what a typed program is without it.
use Rattle.std.proofs.Common.{◌≡◌, ◌∙◌, ℕ, zero, suc, ℤ, pos, negsuc, Bool, true, false, List, [], ◌∷◌, map, Option, Some, None, refl, sym, ap, ap₂}
use Rattle.std.specs.Option.{option_map}
use Rattle.c_lang.specs.Names.{Bytes}
use Rattle.c_lang.specs.Trees.{Expression, literal, variable, element, function, null, negation, logical_not, binary, expression_of, Statement, Statements, statement_of, skip, set, set_element, call, call_by, if_else, while_loop, break_loop, return_with, assert_that, input, output, point, choice, force, pick, none, more}
use Rattle.c_lang.specs.declared.expr.Expr.{Expr}
use Rattle.c_lang.specs.declared.unit.Unit.{Unit}
use Rattle.c_lang.specs.declared.unit.Pos.{Pos}
use Rattle.c_lang.specs.declared.stmt.Dest.{Dest}
use Rattle.c_lang.specs.declared.stmt.Kind.{Kind}
use Rattle.c_lang.specs.declared.stmt.Stmt.TheVariants as stmt
use Rattle.c_lang.specs.declared.stmt.Kind.TheVariants.{Int, Fp}
use Rattle.c_lang.specs.declared.program.Func.{Func}
use Rattle.c_lang.specs.declared.program.Program.{Program}
use Rattle.c_lang.proofs.TreeLemmas.{expression_of-Lit, expression_of-Var, expression_of-Elem, expression_of-FunRef, expression_of-Null, expression_of-Neg, expression_of-Not, expression_of-Bin, statement_of-Skip, statement_of-Set, statement_of-SetElem, statement_of-Call, statement_of-CallBy, statement_of-If, statement_of-While, statement_of-Break, statement_of-Return, statement_of-Assert, statement_of-Input, statement_of-Output, statement_of-Point, statement_of-Choice, statement_of-Force, statement_of-Pick}
use Rattle.c_types.specs.Names.{Means, Cell, Array, Code, Refused, Names, Entries}
use Rattle.c_types.specs.Scopes.{Scope, Block, names_of, Picks, in_pick}
use Rattle.c_types.specs.Bodies.{body_of}
use Rattle.c_types.specs.Expressions.{own_kind, place_of, resolved_name, resolved_literal, resolved, or_int, kind_of_element}
use Rattle.c_types.specs.Calls.{place_in, element_kind, ints, resolved_args, resolved_call, picked, places_of}
use Rattle.c_types.specs.Statements.{scope_after, block_in, entered, after_block, resolved_statement, resolved_list, begun, resolved_picked, resolved_pick}
use Rattle.c_types.specs.Functions.{resolved_func, scope_of, with_params, resolved_from}
use Rattle.c_types.specs.Programs.{with_func, with_globals, outside_of, resolved_funcs, resolved_program}
use Rattle.c_types.specs.Typing.{IsValue, IsFunction, IsLiteral, IsTyped, AreArguments, IsCall, IsCallBy, IsReturn, IsTypedStatement, AreTyped, IsPicked, IsPick}
use Rattle.c_types.specs.Types.{IsTypedFunc, AreTypedFuncs, Types, IsTypedFrom}
use Rattle.c_types.specs.Plain.{plain_expression, plain_statement, plain_statements, plain_func, plain_program}
use Rattle.c_types.proofs.StatementsTyped.{array_kind}

-- ---- expressions

plain_name : (x : Bytes) (m : Means) → plain_expression (expression_of (resolved_name x m)) ≡ variable x
plain_name x (Code params gives value denied) = ap plain_expression (expression_of-FunRef x)
plain_name x (Cell k) = ap plain_expression (expression_of-Var x)
plain_name x Array = ap plain_expression (expression_of-Var x)
plain_name x (Refused n) = ap plain_expression (expression_of-Var x)

plain_literal : (p : Kind) (z : ℤ) → IsLiteral p z → plain_expression (expression_of (resolved_literal p z)) ≡ literal z
plain_literal Int z h = ap plain_expression (expression_of-Lit z)
plain_literal (Fp n) z h = ap plain_expression expression_of-Null ∙ ap literal (sym h)

plain_resolved : (names : Names) (p : Kind) (e : Expression) → IsTyped names p e
    → plain_expression (expression_of (resolved names p e)) ≡ plain_expression e
plain_resolved names p (literal z) h = plain_literal p z h
plain_resolved names p (variable x) h = plain_name x (names x)
plain_resolved names p (element a i) h =
    ap plain_expression (expression_of-Elem a (resolved names Int i)) ∙ ap (element a) (plain_resolved names Int i h.2)
plain_resolved names p (function f) h = ap plain_expression (expression_of-FunRef f)
plain_resolved names p null h = ap plain_expression expression_of-Null
plain_resolved names p (negation a) h =
    ap plain_expression (expression_of-Neg (resolved names Int a)) ∙ ap negation (plain_resolved names Int a h.1)
plain_resolved names p (logical_not a) h =
    ap plain_expression (expression_of-Not (resolved names Int a)) ∙ ap logical_not (plain_resolved names Int a h.1)
plain_resolved names p (binary o a b) h =
    let k = place_of names o a b in
    ap plain_expression (expression_of-Bin o (resolved names k a) (resolved names k b))
    ∙ ap₂ (binary o) (plain_resolved names k a h.1) (plain_resolved names k b h.2)

-- ---- arguments

value_int : (m : Means) (x : Bytes) (names : Names) → names x ≡ m → IsValue Int m → own_kind names (variable x) ≡ Int
value_int (Cell k) x names is h = rw is (sym h)
value_int Array x names is h = absurd h
value_int (Code params gives (Some n) denied) x names is h = absurd cc
value_int (Code params gives None denied) x names is h = absurd h
value_int (Refused n) x names is h = absurd h

function_int : (m : Means) (f : Bytes) (names : Names) → names f ≡ m → IsFunction Int m → own_kind names (function f) ≡ Int
function_int (Code params gives (Some n) denied) f names is h = absurd cc
function_int (Code params gives None denied) f names is h = absurd h
function_int (Cell k) f names is h = absurd h
function_int Array f names is h = absurd h
function_int (Refused n) f names is h = absurd h

pub element_int : (m : Means) → or_int (kind_of_element m) ≡ Int
element_int Array = refl
element_int (Cell k) = refl
element_int (Code params gives value denied) = refl
element_int (Refused n) = refl

-- an int has the kind int
own_int : (names : Names) (e : Expression) → IsTyped names Int e → own_kind names e ≡ Int
own_int names (literal (pos zero)) h = refl
own_int names (literal (pos (suc n))) h = refl
own_int names (literal (negsuc n)) h = refl
own_int names (variable x) h = value_int (names x) x names refl h
own_int names (element a i) h = element_int (names a)
own_int names (function f) h = function_int (names f) f names refl h
own_int names null h = absurd h
own_int names (negation a) h = refl
own_int names (logical_not a) h = refl
own_int names (binary o a b) h = refl

abbrev plain_exprs : List Expr → List Expression
plain_exprs es = map plain_expression (map expression_of es)

plain_args : (names : Names) (ks : List Kind) (es : List Expression) → AreArguments names ks es
    → plain_exprs (resolved_args names ks es) ≡ map plain_expression es
plain_args names [] [] h = refl
plain_args names [] (e ∷ es) h = absurd h
plain_args names (k ∷ ks) [] h = absurd h
plain_args names (k ∷ ks) (e ∷ es) h = ap₂ (λ x xs. x ∷ xs) (plain_resolved names k e h.0) (plain_args names ks es h.1)

plain_ints : (names : Names) (n : ℕ) (es : List Expression) → AreArguments names (ints n) es
    → plain_exprs (resolved_args names [] es) ≡ map plain_expression es
plain_ints names zero [] h = refl
plain_ints names zero (e ∷ es) h = absurd h
plain_ints names (suc n) [] h = absurd h
plain_ints names (suc n) (e ∷ es) h =
    ap₂ (λ x xs. x ∷ xs) (rw (own_int names e h.0) (plain_resolved names Int e h.0)) (plain_ints names n es h.1)

-- ---- statements

plain_call : (s : Scope) (m : Means) (p : Pos) (d : Dest) (f : Bytes) (es : List Expression) → IsCall s m d es
    → plain_statement (statement_of (resolved_call s m p d f es)) ≡ call p d f (map plain_expression es)
plain_call s (Code params gives value denied) p d f es h =
    ap plain_statement (statement_of-Call p d f (resolved_args (names_of s) params es)) ∙ ap (call p d f) (plain_args (names_of s) params es h.2)
plain_call s (Cell Int) p d f es h = absurd h
plain_call s (Cell (Fp n)) p d f es h =
    ap plain_statement (statement_of-CallBy p d f (resolved_args (names_of s) [] es)) ∙ ap (call p d f) (plain_ints (names_of s) n es h.2)
plain_call s Array p d f es h = absurd h
plain_call s (Refused n) p d f es h = absurd h

plain_call_by : (s : Scope) (m : Means) (p : Pos) (d : Dest) (x : Bytes) (es : List Expression) → IsCallBy s m d es
    → plain_statement (statement_of (resolved_statement s (call_by p d x es))) ≡ call p d x (map plain_expression es)
plain_call_by s (Cell Int) p d x es h = absurd h
plain_call_by s (Cell (Fp n)) p d x es h =
    ap plain_statement (statement_of-CallBy p d x (resolved_args (names_of s) [] es)) ∙ ap (call p d x) (plain_ints (names_of s) n es h.2)
plain_call_by s (Code params gives value denied) p d x es h = absurd h
plain_call_by s Array p d x es h = absurd h
plain_call_by s (Refused n) p d x es h = absurd h

plain_picked_call : (s : Scope) (m : Means) (p : Pos) (d : Dest) (f : Bytes) (es : List Expression) → IsCall s (picked m) d es
    → plain_statement (statement_of (stmt.Call p d f (resolved_args (names_of s) (places_of m) es))) ≡ call p d f (map plain_expression es)
plain_picked_call s (Code params gives value None) p d f es h =
    ap plain_statement (statement_of-Call p d f (resolved_args (names_of s) params es)) ∙ ap (call p d f) (plain_args (names_of s) params es h.2)
plain_picked_call s (Code params gives value (Some n)) p d f es h = absurd h
plain_picked_call s (Cell Int) p d f es h = absurd h
plain_picked_call s (Cell (Fp n)) p d f es h = absurd h
plain_picked_call s Array p d f es h = absurd h
plain_picked_call s (Refused n) p d f es h = absurd h

plain_picked : (at : Pos) (b : Block) (s : Scope) (o : Entries) (t : Statement) → IsPicked b s o t
    → plain_statement (statement_of (resolved_picked at s o t)) ≡ plain_statement t
plain_picked at b s o (call p d f es) h = plain_picked_call (in_pick s o) (names_of (in_pick s o) f) p d f es h.1
plain_picked at b s o (skip p) h = absurd h
plain_picked at b s o (set p d e) h = absurd h
plain_picked at b s o (set_element p a i e) h = absurd h
plain_picked at b s o (call_by p d x es) h = absurd h
plain_picked at b s o (if_else p e xs ys) h = absurd h
plain_picked at b s o (while_loop p e xs) h = absurd h
plain_picked at b s o (break_loop p) h = absurd h
plain_picked at b s o (return_with p e) h = absurd h
plain_picked at b s o (assert_that p e) h = absurd h
plain_picked at b s o (input p d) h = absurd h
plain_picked at b s o (output p e) h = absurd h
plain_picked at b s o (point p k) h = absurd h
plain_picked at b s o (choice p d k) h = absurd h
plain_picked at b s o (force p) h = absurd h
plain_picked at b s o (pick p x y) h = absurd h

plain_pick : (p : Pos) (b : Block) (s : Scope) (o : Option Picks) (x y : Statement) → IsPick b s o x y
    → plain_statement (statement_of (resolved_pick p s o x y)) ≡ pick p (plain_statement x) (plain_statement y)
plain_pick p b s None x y h = absurd h
plain_pick p b s (Some names) x y h =
    ap plain_statement (statement_of-Pick p (resolved_picked p s names.after x) (resolved_picked p s names.before y))
    ∙ ap₂ (pick p) (plain_picked p b s names.after x h.0) (plain_picked p b s names.before y h.1)

plain_return : (names : Names) (gives : Bool) (p : Pos) (e : Option Expression) → IsReturn names gives e
    → option_map plain_expression (option_map expression_of (option_map (resolved names Int) e)) ≡ option_map plain_expression e
plain_return names gives p None h = refl
plain_return names true p (Some e) h = ap Some (plain_resolved names Int e h)
plain_return names false p (Some e) h = absurd h

mutual
  plain_statement_resolved : (b : Block) (s : Scope) (t : Statement) → IsTypedStatement b s t
      → plain_statement (statement_of (resolved_statement s t)) ≡ plain_statement t
  plain_statement_resolved b s (skip p) h = ap plain_statement (statement_of-Skip p)
  plain_statement_resolved b s (set p d e) h =
      ap plain_statement (statement_of-Set p d (resolved (names_of s) (place_in s d e) e))
      ∙ ap (set p d) (plain_resolved (names_of s) (place_in s d e) e h.1)
  plain_statement_resolved b s (set_element p a i e) h =
      let k = element_kind (names_of s) (names_of s a) e in
      let one : plain_expression (expression_of (resolved (names_of s) k e)) ≡ plain_expression e =
      rw (array_kind (names_of s) (names_of s a) e h.0) (plain_resolved (names_of s) Int e h.2) in
      ap plain_statement (statement_of-SetElem p a (resolved (names_of s) Int i) (resolved (names_of s) k e))
      ∙ ap₂ (set_element p a) (plain_resolved (names_of s) Int i h.1) one
  plain_statement_resolved b s (call p d f es) h = plain_call s (names_of s f) p d f es h.1
  plain_statement_resolved b s (call_by p d x es) h = plain_call_by s (names_of s x) p d x es h.1
  plain_statement_resolved b s (if_else p e xs ys) h =
      let c = plain_resolved (names_of s) Int e h.0 in
      let yes = plain_list_resolved (block_in s) (entered s xs) xs h.1 in
      let no = plain_list_resolved (block_in s) (entered (after_block s xs) ys) ys h.2 in
      ap plain_statement (statement_of-If p (resolved (names_of s) Int e) (resolved_list (entered s xs) xs) (resolved_list (entered (after_block s xs) ys) ys))
      ∙ (λ i. if_else p (c i) (yes i) (no i))
  plain_statement_resolved b s (while_loop p e xs) h =
      let c = plain_resolved (names_of s) Int e h.0 in
      let inner = plain_list_resolved (block_in s) (entered s xs) xs h.1 in
      ap plain_statement (statement_of-While p (resolved (names_of s) Int e) (resolved_list (entered s xs) xs))
      ∙ (λ i. while_loop p (c i) (inner i))
  plain_statement_resolved b s (break_loop p) h = ap plain_statement (statement_of-Break p)
  plain_statement_resolved b s (return_with p e) h =
      ap plain_statement (statement_of-Return p (option_map (resolved (names_of s) Int) e)) ∙ ap (return_with p) (plain_return (names_of s) s.gives p e h)
  plain_statement_resolved b s (assert_that p e) h =
      ap plain_statement (statement_of-Assert p (resolved (names_of s) Int e)) ∙ ap (assert_that p) (plain_resolved (names_of s) Int e h)
  plain_statement_resolved b s (input p d) h = ap plain_statement (statement_of-Input p d)
  plain_statement_resolved b s (output p e) h =
      ap plain_statement (statement_of-Output p (resolved (names_of s) Int e)) ∙ ap (output p) (plain_resolved (names_of s) Int e h.1)
  plain_statement_resolved b s (point p k) h = ap plain_statement (statement_of-Point p k)
  plain_statement_resolved b s (choice p d k) h = ap plain_statement (statement_of-Choice p d k)
  plain_statement_resolved b s (force p) h = ap plain_statement (statement_of-Force p)
  plain_statement_resolved b s (pick p x y) h = plain_pick p b s s.picks x y h

  plain_list_resolved : (b : Block) (s : Scope) (ts : Statements) → AreTyped b s ts
      → plain_statements (body_of (resolved_list s ts)) ≡ plain_statements ts
  plain_list_resolved b s none h = refl
  plain_list_resolved b s (more t ts) h =
      ap₂ more (plain_statement_resolved b s t h.0) (plain_list_resolved b (scope_after s t) ts h.1)

-- ---- functions and programs

pub plain_from_resolved : (start : Scope) (f : Func) → IsTypedFrom start f → plain_func (resolved_from start f) ≡ plain_func f
plain_from_resolved start f h =
    let s = with_params start f.params in
    let same = plain_list_resolved (block_in s) (begun s (body_of f.body)) (body_of f.body) h.body in
    (λ i. record { name = f.name; params = f.params; gives = f.gives; body = same i; pos = f.pos })

pub plain_func_resolved : (outside : Entries) (xform : Bool) (f : Func) → IsTypedFunc outside xform f
    → plain_func (resolved_func outside xform f) ≡ plain_func f
plain_func_resolved outside xform f h = plain_from_resolved (scope_of outside xform f.gives) f h

plain_funcs_resolved : (outside : Entries) (xform : Bool) (seen : Entries) (fs : List Func) → AreTypedFuncs outside xform seen fs
    → map plain_func (resolved_funcs outside xform fs) ≡ map plain_func fs
plain_funcs_resolved outside xform seen [] h = refl
plain_funcs_resolved outside xform seen (f ∷ fs) h =
    ap₂ (λ x xs. x ∷ xs) (plain_func_resolved outside xform f h.1) (plain_funcs_resolved outside xform (with_func seen f) fs h.2)

pub plain_resolved_program : (u : Unit) (p : Program) → Types u p → plain_program (resolved_program p) ≡ plain_program p
plain_resolved_program u p h =
    let same = plain_funcs_resolved (outside_of p.globals p.funcs) false (with_globals [] p.globals) p.funcs h.funcs in
    (λ i. record { globals = p.globals; protos = p.protos; funcs = same i })
