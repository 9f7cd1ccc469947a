-- Statements that a merged text can have, and what they declare.
use Rattle.std.specs.Prelude.{⊤, ◌≡◌, ◌≤◌, ℕ, Bool, true, [], Some, None}
use Rattle.std.proofs.Common.{refl}
use Rattle.std.proofs.lemmas.Bool.{le-ltb}
use Rattle.c_lang.specs.Trees.{Statement, Statements, skip, set, set_element, call, call_by, if_else, while_loop, break_loop, return_with, assert_that, input, output, point, choice, force, pick, none, more}
use Rattle.c_lang.specs.declared.stmt.Kind.{Kind}
use Rattle.c_lang.specs.declared.stmt.Kind.TheVariants as kind
use Rattle.c_lang.specs.declared.stmt.Dest.{Dest}
use Rattle.c_lang.specs.declared.stmt.Dest.TheVariants.{Nowhere, Into, Fresh}
use Rattle.c_lang.specs.declared.unit.Pos.{Pos}
use Rattle.c_grammar.specs.declared.right.Right.{Right}
use Rattle.c_grammar.specs.declared.right.Right.TheVariants as right
use Rattle.c_grammar.specs.Scopes.{Scope, is_declared, declare, arity_refusals}
use Rattle.merge_printer.proofs.Words.{IsName}
use Rattle.merge_printer.proofs.ExpressionLaw.{ExpressionFits}
use Rattle.merge_printer.proofs.SideLaw.{ExpressionsFit}

abbrev pub KindFits : Kind → Type 0
KindFits kind.Int = ⊤
KindFits (kind.Fp n) = n ≤ 32

pub no_arity_refusals : (p : Pos) (n : ℕ) → n ≤ 32 → arity_refusals p n ≡ []
no_arity_refusals p n le = rw (le-ltb _ _ le) refl

abbrev pub DestFits : Dest → Type 0
DestFits Nowhere = ⊤
DestFits (Into x) = IsName x
DestFits (Fresh k x) = KindFits k × IsName x

-- what an assignment goes to
abbrev pub TargetFits : Dest → Type 0
TargetFits Nowhere = ⊥
TargetFits d = DestFits d

abbrev mutual
  pub StatementFits : Bool → Statement → Type 0
  StatementFits in_loop (skip p) = ⊤
  StatementFits in_loop (set p d e) = TargetFits d × ExpressionFits e
  StatementFits in_loop (set_element p a i e) = IsName a × ExpressionFits i × ExpressionFits e
  StatementFits in_loop (call p d f es) = DestFits d × IsName f × ExpressionsFit es
  StatementFits in_loop (call_by p d x es) = ⊥
  StatementFits in_loop (if_else p e a b) = ExpressionFits e × StatementsFit in_loop a × StatementsFit in_loop b
  StatementFits in_loop (while_loop p e a) = ExpressionFits e × StatementsFit true a
  StatementFits in_loop (break_loop p) = in_loop ≡ true
  StatementFits in_loop (return_with p None) = ⊤
  StatementFits in_loop (return_with p (Some e)) = ExpressionFits e
  StatementFits in_loop (assert_that p e) = ExpressionFits e
  StatementFits in_loop (input p d) = DestFits d
  StatementFits in_loop (output p e) = ExpressionFits e
  StatementFits in_loop (point p k) = ⊥
  StatementFits in_loop (choice p d k) = DestFits d × (k ≤ 2147483647)
  StatementFits in_loop (force p) = ⊥
  StatementFits in_loop (pick p a b) = ⊥

  pub StatementsFit : Bool → Statements → Type 0
  StatementsFit in_loop none = ⊤
  StatementsFit in_loop (more s ss) = StatementFits in_loop s × StatementsFit in_loop ss

-- ---- what is declared behind a statement

abbrev pub declared_by : Dest → Scope → Scope
declared_by Nowhere sc = sc
declared_by (Into x) sc = sc
declared_by (Fresh k x) sc = declare sc x

abbrev mutual
  pub scope_behind : Statement → Scope → Scope
  scope_behind (set p d e) sc = declared_by d sc
  scope_behind (call p d f es) sc = declared_by d sc
  scope_behind (if_else p e a b) sc = scope_behind_all b (scope_behind_all a sc)
  scope_behind (while_loop p e a) sc = scope_behind_all a sc
  scope_behind (input p d) sc = declared_by d sc
  scope_behind (choice p d k) sc = declared_by d sc
  scope_behind (skip p) sc = sc
  scope_behind (set_element p a i e) sc = sc
  scope_behind (call_by p d x es) sc = sc
  scope_behind (break_loop p) sc = sc
  scope_behind (return_with p e) sc = sc
  scope_behind (assert_that p e) sc = sc
  scope_behind (output p e) sc = sc
  scope_behind (point p k) sc = sc
  scope_behind (force p) sc = sc
  scope_behind (pick p a b) sc = sc

  pub scope_behind_all : Statements → Scope → Scope
  scope_behind_all none sc = sc
  scope_behind_all (more s ss) sc = scope_behind_all ss (scope_behind s sc)

-- ---- a call's result goes at once to a name that is declared

abbrev pub GoesAtOnce : Scope → Dest → Type 0
GoesAtOnce sc (Into x) = is_declared sc x ≡ true
GoesAtOnce sc Nowhere = ⊤
GoesAtOnce sc (Fresh k x) = ⊤

-- a value, or a call whose result goes there at once
abbrev pub MayGo : Scope → Dest → Right → Type 0
MayGo sc d (right.Value a) = ⊤
MayGo sc d (right.Call a) = GoesAtOnce sc d

abbrev mutual
  pub Keeps : Scope → Statement → Type 0
  Keeps sc (call p d f es) = GoesAtOnce sc d
  Keeps sc (if_else p e a b) = KeepsAll sc a × KeepsAll (scope_behind_all a sc) b
  Keeps sc (while_loop p e a) = KeepsAll sc a
  Keeps sc (input p d) = GoesAtOnce sc d
  Keeps sc (choice p d k) = GoesAtOnce sc d
  Keeps sc (skip p) = ⊤
  Keeps sc (set p d e) = ⊤
  Keeps sc (set_element p a i e) = ⊤
  Keeps sc (call_by p d x es) = ⊤
  Keeps sc (break_loop p) = ⊤
  Keeps sc (return_with p e) = ⊤
  Keeps sc (assert_that p e) = ⊤
  Keeps sc (output p e) = ⊤
  Keeps sc (point p k) = ⊤
  Keeps sc (force p) = ⊤
  Keeps sc (pick p a b) = ⊤

  pub KeepsAll : Scope → Statements → Type 0
  KeepsAll sc none = ⊤
  KeepsAll sc (more s ss) = Keeps sc s × KeepsAll (scope_behind s sc) ss
