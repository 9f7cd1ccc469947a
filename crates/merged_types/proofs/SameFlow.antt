-- Resolution, plain forms and merging keep where a list of statements can end.
use Rattle.std.proofs.Common.{◌≡◌, ℕ, Bool, true, false, not, ◌&&◌, ◌||◌, Option, Some, None, refl, ap₂}
use Rattle.std.specs.Prelude.{if◌then◌else◌}
use Rattle.c_lang.specs.Names.{Bytes}
use Rattle.c_lang.specs.Trees.{Expression, literal, variable, element, function, null, negation, logical_not, binary, Statement, Statements, skip, set, set_element, call, call_by, if_else, while_loop, break_loop, return_with, assert_that, input, output, point, choice, force, pick, none, more}
use Rattle.c_lang.specs.declared.unit.Pos.{Pos}
use Rattle.c_lang.specs.declared.stmt.Dest.{Dest}
use Rattle.c_lang.specs.declared.stmt.Kind.TheVariants.{Int}
use Rattle.c_types.specs.Names.{Means, Cell, Array, Code, Refused, Entries}
use Rattle.c_types.specs.Scopes.{Scope, Picks, Block, names_of}
use Rattle.c_types.specs.Endings.{is_forever, breaks, any_breaks, ends, can_end}
use Rattle.c_types.specs.Statements.{scope_after, block_in, entered, after_block}
use Rattle.c_types.specs.Plain.{plain_expression, plain_statement, plain_statements}
use Rattle.version_names.specs.Parts.{Parts}
use Rattle.version_names.specs.Provenance.{Provenance, may_update}
use Rattle.client_specs.specs.declared.region.Region.{Region}
use Rattle.client_specs.specs.declared.region.Region.TheVariants.{After, Before}
use Rattle.client_specs.specs.Spelled.{region_after, spelled_expression, spelled_statement, spelled_statements}
use Rattle.merged_program.specs.Expressions.{renamed}
use Rattle.merged_program.specs.Statements.{asking, merged_statement, merged_statements}
use Rattle.resolved_types.proofs.Resolution.{name_tree, tree, call_tree, pick_tree, statement_tree, list_tree}
use Rattle.resolved_types.proofs.ResolvedTyping.{IsResolvedPicked, IsResolvedPick, picked_has, IsResolvedStatement, AreResolved}

record FlowsSame (a b : Statement) : Type 0 where
  breaks : breaks a ≡ breaks b
  ends : ends a ≡ ends b

pub record FlowSame (xs ys : Statements) : Type 0 where
  pub breaks : any_breaks xs ≡ any_breaks ys
  pub ends : can_end xs ≡ can_end ys

flow_more : (a b : Statement) (xs ys : Statements) → FlowsSame a b → FlowSame xs ys → FlowSame (more a xs) (more b ys)
flow_more a b xs ys h k = record { breaks = ap₂ ◌||◌ h.breaks k.breaks; ends = ap₂ ◌&&◌ h.ends k.ends }

flows_if : (p q : Pos) (c d : Expression) (xs ys vs ws : Statements) → FlowSame xs vs → FlowSame ys ws → FlowsSame (if_else p c xs ys) (if_else q d vs ws)
flows_if p q c d xs ys vs ws h k = record { breaks = ap₂ ◌||◌ h.breaks k.breaks; ends = ap₂ ◌||◌ h.ends k.ends }

flows_while : (p q : Pos) (c d : Expression) (xs vs : Statements) → is_forever c ≡ is_forever d → FlowSame xs vs → FlowsSame (while_loop p c xs) (while_loop q d vs)
flows_while p q c d xs vs e h = record { breaks = refl; ends = ap₂ (λ (x y : Bool). not (x && not y)) e h.breaks }

-- ---- resolution

forever_name : (x : Bytes) (m : Means) → is_forever (name_tree x m) ≡ false
forever_name x (Cell k) = refl
forever_name x Array = refl
forever_name x (Code params gives value denied) = refl
forever_name x (Refused n) = refl

forever_tree : (s : Scope) (e : Expression) → is_forever (tree (names_of s) Int e) ≡ is_forever e
forever_tree s (literal z) = refl
forever_tree s (variable x) = forever_name x (names_of s x)
forever_tree s (element a i) = refl
forever_tree s (function f) = refl
forever_tree s null = refl
forever_tree s (negation e) = refl
forever_tree s (logical_not e) = refl
forever_tree s (binary o a b) = refl

flow_call : (s : Scope) (m : Means) (p : Pos) (d : Dest) (f : Bytes) (es : _) → FlowsSame (call_tree s m p d f es) (call p d f es)
flow_call s (Cell k) p d f es = record { breaks = refl; ends = refl }
flow_call s Array p d f es = record { breaks = refl; ends = refl }
flow_call s (Code params gives value denied) p d f es = record { breaks = refl; ends = refl }
flow_call s (Refused n) p d f es = record { breaks = refl; ends = refl }

flow_pick : (p : Pos) (s : Scope) (o : Option Picks) (a b : Statement) → FlowsSame (pick_tree p s o a b) (pick p a b)
flow_pick p s None a b = record { breaks = refl; ends = refl }
flow_pick p s (Some names) a b = record { breaks = refl; ends = refl }

mutual
  flow_tree : (s : Scope) (t : Statement) → FlowsSame (statement_tree s t) t
  flow_tree s (skip p) = record { breaks = refl; ends = refl }
  flow_tree s (set p d e) = record { breaks = refl; ends = refl }
  flow_tree s (set_element p a i e) = record { breaks = refl; ends = refl }
  flow_tree s (call p d f es) = flow_call s (names_of s f) p d f es
  flow_tree s (call_by p d x es) = record { breaks = refl; ends = refl }
  flow_tree s (if_else p c xs ys) =
      flows_if p p (tree (names_of s) Int c) c (list_tree (entered s xs) xs) (list_tree (entered (after_block s xs) ys) ys) xs ys
      (flow_list_tree (entered s xs) xs) (flow_list_tree (entered (after_block s xs) ys) ys)
  flow_tree s (while_loop p c xs) =
      flows_while p p (tree (names_of s) Int c) c (list_tree (entered s xs) xs) xs (forever_tree s c) (flow_list_tree (entered s xs) xs)
  flow_tree s (break_loop p) = record { breaks = refl; ends = refl }
  flow_tree s (return_with p e) = record { breaks = refl; ends = refl }
  flow_tree s (assert_that p e) = record { breaks = refl; ends = refl }
  flow_tree s (input p d) = record { breaks = refl; ends = refl }
  flow_tree s (output p e) = record { breaks = refl; ends = refl }
  flow_tree s (point p k) = record { breaks = refl; ends = refl }
  flow_tree s (choice p d k) = record { breaks = refl; ends = refl }
  flow_tree s (force p) = record { breaks = refl; ends = refl }
  flow_tree s (pick p a b) = flow_pick p s s.picks a b

  pub flow_list_tree : (s : Scope) (ts : Statements) → FlowSame (list_tree s ts) ts
  flow_list_tree s none = record { breaks = refl; ends = refl }
  flow_list_tree s (more t ts) = flow_more (statement_tree s t) t (list_tree (scope_after s t) ts) ts (flow_tree s t) (flow_list_tree (scope_after s t) ts)

-- ---- plain forms

forever_plain : (e : Expression) → is_forever (plain_expression e) ≡ is_forever e
forever_plain (literal z) = refl
forever_plain (variable x) = refl
forever_plain (element a i) = refl
forever_plain (function f) = refl
forever_plain null = refl
forever_plain (negation e) = refl
forever_plain (logical_not e) = refl
forever_plain (binary o a b) = refl

mutual
  flow_plain : (t : Statement) → FlowsSame (plain_statement t) t
  flow_plain (skip p) = record { breaks = refl; ends = refl }
  flow_plain (set p d e) = record { breaks = refl; ends = refl }
  flow_plain (set_element p a i e) = record { breaks = refl; ends = refl }
  flow_plain (call p d f es) = record { breaks = refl; ends = refl }
  flow_plain (call_by p d x es) = record { breaks = refl; ends = refl }
  flow_plain (if_else p c xs ys) =
      flows_if p p (plain_expression c) c (plain_statements xs) (plain_statements ys) xs ys (flow_plain_list xs) (flow_plain_list ys)
  flow_plain (while_loop p c xs) = flows_while p p (plain_expression c) c (plain_statements xs) xs (forever_plain c) (flow_plain_list xs)
  flow_plain (break_loop p) = record { breaks = refl; ends = refl }
  flow_plain (return_with p e) = record { breaks = refl; ends = refl }
  flow_plain (assert_that p e) = record { breaks = refl; ends = refl }
  flow_plain (input p d) = record { breaks = refl; ends = refl }
  flow_plain (output p e) = record { breaks = refl; ends = refl }
  flow_plain (point p k) = record { breaks = refl; ends = refl }
  flow_plain (choice p d k) = record { breaks = refl; ends = refl }
  flow_plain (force p) = record { breaks = refl; ends = refl }
  flow_plain (pick p a b) = record { breaks = refl; ends = refl }

  pub flow_plain_list : (ts : Statements) → FlowSame (plain_statements ts) ts
  flow_plain_list none = record { breaks = refl; ends = refl }
  flow_plain_list (more t ts) = flow_more (plain_statement t) t (plain_statements ts) ts (flow_plain t) (flow_plain_list ts)

-- ---- merging, of code in which a name means what it does in its region

module _ (permits : ℕ → Bool) (ρs κs : Provenance → Bytes → Bytes) (o : Provenance) (parts : Parts) where
  forever_renamed : (r : Region) (e : Expression) → is_forever (renamed (ρs o) (κs o) (spelled_expression parts r e)) ≡ is_forever e
  forever_renamed r (literal z) = refl
  forever_renamed r (variable x) = refl
  forever_renamed r (element a i) = refl
  forever_renamed r (function f) = refl
  forever_renamed r null = refl
  forever_renamed r (negation e) = refl
  forever_renamed r (logical_not e) = refl
  forever_renamed r (binary o a b) = refl

  abbrev merged : Region → Statement → Statement
  merged r t = merged_statement permits ρs κs o (spelled_statement parts r t)

  abbrev all_merged : Region → Statements → Statements
  all_merged r ts = merged_statements permits ρs κs o (spelled_statements parts r ts)

  flow_point : (y : Bool) (p : Pos) (k : ℕ) → FlowsSame (if y then asking p k else skip p) (point p k)
  flow_point true p k = record { breaks = refl; ends = refl }
  flow_point false p k = record { breaks = refl; ends = refl }

  flow_picked : (r : Region) (p : Pos) (b : Block) (s : Scope) (outside : Entries) (t : Statement) → IsResolvedPicked b s outside t
      → FlowSame (more (merged r t) none) (more (skip p) none)
  flow_picked r p =
      picked_has (λ (t : Statement). FlowSame (more (merged r t) none) (more (skip p) none))
      (λ q f es. record { breaks = refl; ends = refl }) (λ q x f es. record { breaks = refl; ends = refl })

  flow_merged_pick : (r : Region) (b : Block) (s : Scope) (p : Pos) (picks : Option Picks) (x y : Statement) → IsResolvedPick b s picks x y
      → FlowsSame (merged r (pick p x y)) (pick p x y)
  flow_merged_pick r b s p None x y h = absurd h
  flow_merged_pick r b s p (Some names) x y h =
      let first = flow_picked After p b s names.after x h.0 in
      let second = flow_picked Before p b s names.before y h.1 in
      record { breaks = ap₂ ◌||◌ first.breaks second.breaks; ends = ap₂ ◌||◌ first.ends second.ends }

  mutual
    flow_merged : (r : Region) (b : Block) (s : Scope) (t : Statement) → IsResolvedStatement b s t → FlowsSame (merged r t) t
    flow_merged r b s (skip p) h = record { breaks = refl; ends = refl }
    flow_merged r b s (set p d e) h = record { breaks = refl; ends = refl }
    flow_merged r b s (set_element p a i e) h = record { breaks = refl; ends = refl }
    flow_merged r b s (call p d f es) h = record { breaks = refl; ends = refl }
    flow_merged r b s (call_by p d x es) h = record { breaks = refl; ends = refl }
    flow_merged r b s (if_else p c xs ys) h =
        flows_if p p (renamed (ρs o) (κs o) (spelled_expression parts r c)) c (all_merged r xs) (all_merged r ys) xs ys
        (flow_merged_list r (block_in s) (entered s xs) xs h.1) (flow_merged_list r (block_in s) (entered (after_block s xs) ys) ys h.2)
    flow_merged r b s (while_loop p c xs) h =
        flows_while p p (renamed (ρs o) (κs o) (spelled_expression parts r c)) c (all_merged r xs) xs (forever_renamed r c)
        (flow_merged_list r (block_in s) (entered s xs) xs h.1)
    flow_merged r b s (break_loop p) h = record { breaks = refl; ends = refl }
    flow_merged r b s (return_with p e) h = record { breaks = refl; ends = refl }
    flow_merged r b s (assert_that p e) h = record { breaks = refl; ends = refl }
    flow_merged r b s (input p d) h = record { breaks = refl; ends = refl }
    flow_merged r b s (output p e) h = record { breaks = refl; ends = refl }
    flow_merged r b s (point p k) h = flow_point (may_update o && permits k) p k
    flow_merged r b s (choice p d k) h = record { breaks = refl; ends = refl }
    flow_merged r b s (force p) h = record { breaks = refl; ends = refl }
    flow_merged r b s (pick p x y) h = flow_merged_pick r b s p s.picks x y h

    pub flow_merged_list : (r : Region) (b : Block) (s : Scope) (ts : Statements) → AreResolved b s ts → FlowSame (all_merged r ts) ts
    flow_merged_list r b s none h = record { breaks = refl; ends = refl }
    flow_merged_list r b s (more t ts) h =
        flow_more (merged r t) t (all_merged (region_after r t) ts) ts (flow_merged r b s t h.0) (flow_merged_list (region_after r t) b (scope_after s t) ts h.1)
