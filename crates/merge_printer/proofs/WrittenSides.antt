-- Right sides of a text, and where they go, are read again as what they became.
use Rattle.std.specs.Prelude.{⊤, ◌≡◌, ◌≤◌, ℕ, ◌+◌, Bool, true, false, cond, [], ◌∷◌, ◌++◌, map, nat_abs}
use Rattle.std.proofs.Common.{refl, sym, ap, subst}
use Rattle.c_lang.specs.Names.{Bytes}
use Rattle.c_lang.specs.Trees.{expression_of, set, call, input, choice}
use Rattle.c_lang.specs.declared.unit.Pos.{Pos}
use Rattle.c_lang.specs.declared.expr.Expr.{Expr}
use Rattle.c_lang.specs.declared.stmt.Kind.TheVariants as kind
use Rattle.c_lang.specs.declared.stmt.Dest.{Dest}
use Rattle.c_lang.specs.declared.stmt.Dest.TheVariants.{Nowhere, Into, Fresh}
use Rattle.c_lang.proofs.TreeLemmas.{expression_of-Var, statement_of-Set, statement_of-Call, statement_of-Input, statement_of-Choice}
use Rattle.c_grammar.specs.Words.{keyword_number}
use Rattle.c_grammar.specs.Tokens.{mark, round_close}
use Rattle.c_grammar.specs.declared.right.Call.{Call}
use Rattle.c_grammar.specs.declared.right.Call.TheVariants as c
use Rattle.c_grammar.specs.declared.right.Right.{Right}
use Rattle.c_grammar.specs.declared.right.Right.TheVariants as right
use Rattle.c_grammar.specs.Scopes.{Scope, is_declared, one_more, temporary}
use Rattle.c_grammar.specs.Statements.{CallTree, function, SideTree, value, called, argument_tokens, call_tokens, side_tokens, call_of, right_of, call_to, right_to, stored, set_stmts, set_scope}
use Rattle.c_grammar.specs.Statements as tree
use Rattle.merge_printer.proofs.Words.{IsName, numbered_word}
use Rattle.merge_printer.proofs.Fitting.{DestFits, TargetFits, declared_by, scope_behind_all, GoesAtOnce, MayGo}
use Rattle.merge_printer.proofs.GivenTokens.{TokensFit, fit_append}
use Rattle.merge_printer.proofs.WrittenExpressions.{ExprFits, ExprsFit, tree_fits, arguments_fit}
use Rattle.merge_printer.proofs.ReadScopes.{Covers, covers_more, mirror, Reads, none_read, one_read, both_read}

-- ---- calls and right sides that a text can have

abbrev pub CallFits : Call → Type 0
CallFits (c.Function f es) = IsName f × ExprsFit es
CallFits c.Input = ⊤
CallFits (c.Choice k) = k ≤ 2147483647

abbrev pub RightFits : Right → Type 0
RightFits (right.Value a) = ExprFits a
RightFits (right.Call a) = CallFits a

pub call_fits : (t : CallTree) → TokensFit (call_tokens t) → CallFits (call_of t)
call_fits (function f) h = (h.0, arguments_fit f.arguments (fit_append (argument_tokens f.arguments) (mark round_close f.closes ∷ []) h.1.1).0)
call_fits (tree.input at o cl) h = tt
call_fits (tree.choice at o n k cl) h = let number = h.1.1.0 in subst (λ (m : ℕ). m ≤ 2147483647) (sym (ap nat_abs number.1)) number.2

pub side_fits : (t : SideTree) → TokensFit (side_tokens t) → RightFits (right_of t)
side_fits (value t) h = tree_fits t h
side_fits (called t) h = call_fits t h

-- ---- where they go

module _ (in_loop : Bool) (now after : Scope) where
  pub call_read : (p : Pos) (d : Dest) (a : Call) → CallFits a → DestFits d → GoesAtOnce now d → Covers after (declared_by d now) → Reads in_loop (call_to p d a ∷ []) now after
  call_read p d (c.Function f es) h fits goes covers = one_read (call p d f (map expression_of es)) (statement_of-Call p d f es) (fits, h.0, h.1) goes covers
  call_read p d c.Input h fits goes covers = one_read (input p d) (statement_of-Input p d) fits goes covers
  call_read p d (c.Choice k) h fits goes covers = one_read (choice p d k) (statement_of-Choice p d k) (fits, h) goes covers

  pub value_read : (p : Pos) (d : Dest) (a : Expr) → ExprFits a → TargetFits d → Covers after (declared_by d now) → Reads in_loop (right_to p d (right.Value a) ∷ []) now after
  value_read p d a h fits covers = one_read (set p d (expression_of a)) (statement_of-Set p d a) (fits, h) tt covers

target_is_dest : (d : Dest) → TargetFits d → DestFits d
target_is_dest Nowhere h = absurd h
target_is_dest (Into x) h = h
target_is_dest (Fresh k x) h = h

pub right_read : (in_loop : Bool) (now after : Scope) (p : Pos) (d : Dest) (r : Right) → RightFits r → TargetFits d → MayGo now d r → Covers after (declared_by d now) → Reads in_loop (right_to p d r ∷ []) now after
right_read in_loop now after p d (right.Value a) h fits goes covers = value_read in_loop now after p d a h fits covers
right_read in_loop now after p d (right.Call a) h fits goes covers = call_read in_loop now after p d a h (target_is_dest d fits) goes covers

-- ---- temporaries

temporary_fits : (n : ℕ) → IsName (temporary n)
unfolding temporary keyword_number
temporary_fits n = (numbered_word n, refl)

-- the statements before, and the value that is left
pub record StoredReads (in_loop : Bool) (p : Pos) (sc now : Scope) (r : Right) : Type 0 where
  pub before : Reads in_loop (stored p sc r).before now (stored p sc r).scope
  pub value_fits : ExprFits (stored p sc r).value

pub stored_read : (in_loop : Bool) (p : Pos) (sc now : Scope) (r : Right) → RightFits r → Covers sc now → StoredReads in_loop p sc now r
stored_read in_loop p sc now (right.Value a) h covers = record { before = none_read in_loop now sc covers; value_fits = h }
stored_read in_loop p sc now (right.Call a) h covers =
    let x = temporary (sc.count + 1) in
    let is_name = temporary_fits (sc.count + 1) in
    record {
      before = call_read in_loop now (one_more sc) p (Fresh kind.Int x) a h (tt, is_name) tt (covers_more sc now x covers);
      value_fits = rw (expression_of-Var x) is_name;
    }

-- ---- a right side to a name

pub set_read : (in_loop : Bool) (p : Pos) (x : Bytes) (sc now : Scope) (r : Right) → IsName x → RightFits r → Covers sc now → Reads in_loop (set_stmts p x sc r) now (set_scope p x sc r)
set_read in_loop p x sc now r name h covers = by_test (is_declared sc x) refl
  where
    by_test : (b : Bool) → is_declared sc x ≡ b
        → Reads in_loop (cond b (right_to p (Into x) r ∷ []) ((stored p sc r).before ++ (tree.right_to p (Into x) (right.Value (stored p sc r).value) ∷ []))) now (cond b sc (stored p sc r).scope)
    by_test true test = right_read in_loop now sc p (Into x) r h name (goes r) covers
      where
        goes : (r : Right) → MayGo now (Into x) r
        goes (right.Value a) = tt
        goes (right.Call a) = covers x test
    by_test false test =
        let s = stored_read in_loop p sc now r h covers in
        let mid = scope_behind_all (mirror (stored p sc r).before) now in
        both_read (stored p sc r).before (right_to p (Into x) (right.Value (stored p sc r).value) ∷ []) now (stored p sc r).scope (stored p sc r).scope s.before
        (value_read in_loop mid (stored p sc r).scope p (Into x) (stored p sc r).value s.value_fits name s.before.covers)
