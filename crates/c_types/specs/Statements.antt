-- The typing of statements: the first refusal of a list, and its resolved form.
use Rattle.std.specs.Prelude.{ℕ, Bool, true, false, if◌then◌else◌, List, [], ◌∷◌, length, Option, Some, None, Result, unwrap_or}
use Rattle.std.specs.Option.{option_map}
use Rattle.c_lang.specs.Refusals as refused
use Rattle.c_lang.specs.Trees.{Statement, Statements, skip, set, set_element, call, call_by, if_else, while_loop, break_loop, return_with, assert_that, input, output, point, choice, force, pick, none, more}
use Rattle.c_lang.specs.declared.unit.Pos.{Pos}
use Rattle.c_lang.specs.declared.refusal.Refusal.{Refusal}
use Rattle.c_lang.specs.declared.refusal.Fail.{Fail}
use Rattle.c_lang.specs.declared.stmt.Dest.{Dest}
use Rattle.c_lang.specs.declared.stmt.Dest.TheVariants.{Nowhere}
use Rattle.c_lang.specs.declared.stmt.Kind.TheVariants.{Int}
use Rattle.c_lang.specs.declared.stmt.Stmt.{Stmt}
use Rattle.c_lang.specs.declared.stmt.Stmt.TheVariants as stmt
use Rattle.c_types.specs.Scopes.{Picks, Scope, Block, in_pick, names_of, with_dest, wrong_dest, wrong_effect}
use Rattle.c_types.specs.Names.{Entries, smaller}
use Rattle.c_types.specs.Expressions.{wrong, resolved}
use Rattle.c_types.specs.Checks.{at_place, first, Checked}
use Rattle.c_types.specs.Calls.{place_in, element_kind, wrong_element, wrong_use, wrong_call, wrong_call_by, places_of, picked, resolved_args, resolved_call, wrong_return}

-- ---- what is in scope behind a statement

abbrev pub dest_of : Statement → Dest
dest_of (set p d e) = d
dest_of (call p d f es) = d
dest_of (call_by p d x es) = d
dest_of (input p d) = d
dest_of (choice p d k) = d
dest_of s = Nowhere

abbrev pub is_force : Statement → Bool
is_force (force p) = true
is_force s = false

-- behind `dsu_force();`, where one may stand, other names are visible, and no other one may stand
abbrev pub outside_after : Entries → Option Entries → Statement → Entries
outside_after outside forced s = if is_force s then unwrap_or forced outside else outside

abbrev pub forced_after : Option Entries → Statement → Option Entries
forced_after forced s = if is_force s then None else forced

abbrev pub outside_after_all : Entries → Option Entries → Statements → Entries
outside_after_all outside forced none = outside
outside_after_all outside forced (more s ss) = outside_after_all (outside_after outside forced s) (forced_after forced s) ss

abbrev pub forced_after_all : Option Entries → Statements → Option Entries
forced_after_all forced none = forced
forced_after_all forced (more s ss) = forced_after_all (forced_after forced s) ss

-- the locals that these statements declare themselves
abbrev pub with_locals : Entries → Statements → Entries
with_locals entries none = entries
with_locals entries (more s ss) = with_locals (with_dest entries (dest_of s)) ss

-- the locals of the blocks that have ended behind a statement, each block's where it ends
abbrev mutual
  pub told_by : Entries → Statement → Entries
  told_by entries (if_else p e xs ys) = with_locals (told_by_all (with_locals (told_by_all entries xs) xs) ys) ys
  told_by entries (while_loop p e xs) = with_locals (told_by_all entries xs) xs
  told_by entries s = entries

  pub told_by_all : Entries → Statements → Entries
  told_by_all entries none = entries
  told_by_all entries (more s ss) = told_by_all (told_by entries s) ss

abbrev pub scope_after : Scope → Statement → Scope
scope_after scope s = record scope {
  outside = outside_after scope.outside scope.forced s;
  forced = forced_after scope.forced s;
  locals = with_dest scope.locals (dest_of s);
  told = told_by scope.told s;
}

abbrev pub scope_after_all : Scope → Statements → Scope
scope_after_all scope ss = record scope {
  outside = outside_after_all scope.outside scope.forced ss;
  forced = forced_after_all scope.forced ss;
  locals = with_locals scope.locals ss;
  told = told_by_all scope.told ss;
}

-- ---- blocks

abbrev pub block_in : Scope → Block
block_in scope = record { base = length scope.locals; mark = length scope.ahead }

-- within a block, the blocks in it see all locals that it declares
abbrev pub begun : Scope → Statements → Scope
begun scope ss = record scope { ahead = with_locals scope.ahead ss }

-- `dsu_force();` stands in the outermost block alone
abbrev pub entered : Scope → Statements → Scope
entered scope ss = record scope { ahead = with_locals scope.ahead ss; forced = None }

abbrev pub after_block : Scope → Statements → Scope
after_block scope ss = record scope { told = with_locals (told_by_all scope.told ss) ss }

-- behind a function's body, which may have had its force
abbrev pub after_body : Scope → Statements → Scope
after_body scope ss = record scope {
  outside = outside_after_all scope.outside scope.forced ss;
  forced = forced_after_all scope.forced ss;
  told = with_locals (told_by_all scope.told ss) ss;
}

-- ---- statements of clients

abbrev pub wrong_force : Option Entries → Option ℕ
wrong_force None = Some refused.client_call
wrong_force (Some others) = None

-- one of the two calls of a pick at this place, which sees these names
abbrev pub refusal_of_picked : Pos → Block → Scope → Entries → Statement → Option Refusal
refusal_of_picked at block scope outside (call p d f es) =
    let inside = in_pick scope outside in
    at_place (smaller (wrong_dest block inside d) (wrong_call inside (picked (names_of inside f)) d es)) p
refusal_of_picked at block scope outside s = at_place (Some refused.client_call) at

abbrev pub refusal_of_pick : Pos → Block → Scope → Option Picks → Statement → Statement → Option Refusal
refusal_of_pick p block scope None a b = at_place (Some refused.client_call) p
refusal_of_pick p block scope (Some names) a b =
    first (refusal_of_picked p block scope names.after a) (refusal_of_picked p block scope names.before b)

abbrev pub resolved_picked : Pos → Scope → Entries → Statement → Stmt
resolved_picked at scope outside (call p d f es) =
    let inside = in_pick scope outside in
    stmt.Call p d f (resolved_args (names_of inside) (places_of (names_of inside f)) es)
resolved_picked at scope outside s = stmt.Skip at

abbrev pub resolved_pick : Pos → Scope → Option Picks → Statement → Statement → Stmt
resolved_pick p scope None a b = stmt.Skip p
resolved_pick p scope (Some names) a b = stmt.Pick p (resolved_picked p scope names.after a) (resolved_picked p scope names.before b)

-- ---- the first refusal

-- an answer or a choice is an int
abbrev pub wrong_answer : Block → Scope → Dest → Option ℕ
wrong_answer block scope d = smaller (wrong_dest block scope d) (smaller (wrong_effect scope) (wrong_use scope true d))

abbrev mutual
  pub refusal : Block → Scope → Statement → Option Refusal
  refusal block scope (skip p) = None
  refusal block scope (set p d e) =
      at_place (smaller (wrong_dest block scope d) (wrong (names_of scope) (place_in scope d e) e)) p
  refusal block scope (set_element p a i e) = at_place (wrong_element (names_of scope) a i e) p
  refusal block scope (call p d f es) =
      at_place (smaller (wrong_dest block scope d) (wrong_call scope (names_of scope f) d es)) p
  refusal block scope (call_by p d x es) =
      at_place (smaller (wrong_dest block scope d) (wrong_call_by scope (names_of scope x) d es)) p
  refusal block scope (if_else p e xs ys) =
      first (at_place (wrong (names_of scope) Int e) p)
      (first (refusals (block_in scope) (entered scope xs) xs)
      (refusals (block_in scope) (entered (after_block scope xs) ys) ys))
  refusal block scope (while_loop p e xs) =
      first (at_place (wrong (names_of scope) Int e) p) (refusals (block_in scope) (entered scope xs) xs)
  refusal block scope (break_loop p) = None
  refusal block scope (return_with p e) = at_place (wrong_return (names_of scope) scope.gives e) p
  refusal block scope (assert_that p e) = at_place (wrong (names_of scope) Int e) p
  refusal block scope (input p d) = at_place (wrong_answer block scope d) p
  refusal block scope (output p e) = at_place (smaller (wrong_effect scope) (wrong (names_of scope) Int e)) p
  refusal block scope (point p k) = at_place (wrong_effect scope) p
  refusal block scope (choice p d k) = at_place (wrong_answer block scope d) p
  refusal block scope (force p) = at_place (wrong_force scope.forced) p
  refusal block scope (pick p a b) = refusal_of_pick p block scope scope.picks a b

  -- of the statements of this block, whose locals begin at `base` and whose ahead names at `mark`
  pub refusals : Block → Scope → Statements → Option Refusal
  refusals block scope none = None
  refusals block scope (more s ss) = first (refusal block scope s) (refusals block (scope_after scope s) ss)

-- of a block that begins here
abbrev pub refusal_in : Scope → Statements → Option Refusal
refusal_in scope ss = refusals (block_in scope) (entered scope ss) ss

-- of a function's body
abbrev pub refusal_of_body : Scope → Statements → Option Refusal
refusal_of_body scope ss = refusals (block_in scope) (begun scope ss) ss

-- ---- the resolved form

abbrev mutual
  pub resolved_statement : Scope → Statement → Stmt
  resolved_statement scope (skip p) = stmt.Skip p
  resolved_statement scope (set p d e) = stmt.Set p d (resolved (names_of scope) (place_in scope d e) e)
  resolved_statement scope (set_element p a i e) =
      stmt.SetElem p a (resolved (names_of scope) Int i)
      (resolved (names_of scope) (element_kind (names_of scope) (names_of scope a) e) e)
  resolved_statement scope (call p d f es) = resolved_call scope (names_of scope f) p d f es
  resolved_statement scope (call_by p d x es) = stmt.CallBy p d x (resolved_args (names_of scope) [] es)
  resolved_statement scope (if_else p e xs ys) =
      stmt.If p (resolved (names_of scope) Int e) (resolved_list (entered scope xs) xs)
      (resolved_list (entered (after_block scope xs) ys) ys)
  resolved_statement scope (while_loop p e xs) =
      stmt.While p (resolved (names_of scope) Int e) (resolved_list (entered scope xs) xs)
  resolved_statement scope (break_loop p) = stmt.Break p
  resolved_statement scope (return_with p e) = stmt.Return p (option_map (resolved (names_of scope) Int) e)
  resolved_statement scope (assert_that p e) = stmt.Assert p (resolved (names_of scope) Int e)
  resolved_statement scope (input p d) = stmt.Input p d
  resolved_statement scope (output p e) = stmt.Output p (resolved (names_of scope) Int e)
  resolved_statement scope (point p k) = stmt.Point p k
  resolved_statement scope (choice p d k) = stmt.Choice p d k
  resolved_statement scope (force p) = stmt.Force p
  resolved_statement scope (pick p a b) = resolved_pick p scope scope.picks a b

  pub resolved_list : Scope → Statements → List Stmt
  resolved_list scope none = []
  resolved_list scope (more s ss) = resolved_statement scope s ∷ resolved_list (scope_after scope s) ss

abbrev pub resolved_block : Scope → Statements → List Stmt
resolved_block scope ss = resolved_list (entered scope ss) ss

abbrev pub resolved_body : Scope → Statements → List Stmt
resolved_body scope ss = resolved_list (begun scope ss) ss

-- ---- what a check answers

abbrev pub IsStatement : Block → Scope → Statement → Result Stmt Fail → Type 0
IsStatement block scope s result = Checked result (refusal block scope s) (resolved_statement scope s)

abbrev pub IsSequence : Block → Scope → Statements → Result (List Stmt) Fail → Type 0
IsSequence block scope ss result = Checked result (refusals block scope ss) (resolved_list scope ss)

abbrev pub IsBlock : Scope → Statements → Result (List Stmt) Fail → Type 0
IsBlock scope ss result = Checked result (refusal_in scope ss) (resolved_block scope ss)

abbrev pub IsBody : Scope → Statements → Result (List Stmt) Fail → Type 0
IsBody scope ss result = Checked result (refusal_of_body scope ss) (resolved_body scope ss)
