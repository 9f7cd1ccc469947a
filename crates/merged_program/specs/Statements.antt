-- The statements of a merged program: names are those of the merged program, and points, forces and picks are
-- tests of the flag.
use Rattle.std.specs.Prelude.{ℕ, pos, Bool, true, false, map, ◌&&◌, if◌then◌else◌, List, [], Some, codes}
use Rattle.c_lang.specs.Names.{Bytes}
use Rattle.c_lang.specs.Trees.{Expression, literal, variable, binary, Statement, Statements, skip, set, set_element, call, call_by, if_else, while_loop, break_loop, return_with, assert_that, input, output, point, choice, force, pick, none, more}
use Rattle.c_lang.specs.declared.expr.Op.{Op}
use Rattle.c_lang.specs.declared.expr.Op.TheVariants.{Eq, Ne}
use Rattle.c_lang.specs.declared.unit.Pos.{Pos}
use Rattle.c_lang.specs.declared.stmt.Kind.{Kind}
use Rattle.c_lang.specs.declared.stmt.Kind.TheVariants.{Int}
use Rattle.c_lang.specs.declared.stmt.Dest.{Dest}
use Rattle.c_lang.specs.declared.stmt.Dest.TheVariants.{Nowhere, Into, Fresh}
use Rattle.version_names.specs.Merged.{merged_name}
use Rattle.version_names.specs.Provenance.{Provenance, may_update}
use Rattle.version_names.specs.declared.part.Origin.TheVariants.{Xform}
use Rattle.merged_program.specs.Names.{now_name, choice_name, result_name}
use Rattle.merged_program.specs.Expressions.{renamed_dest, renamed, all_renamed, renamed_option}

-- the variable compared with 0
abbrev pub with_zero : Op → Bytes → Expression
with_zero op x = binary op (variable x) (literal (pos 0))

abbrev pub is_zero : Bytes → Expression
is_zero x = with_zero Eq x

abbrev pub is_set : Bytes → Expression
is_set x = with_zero Ne x

-- the flag is set, and the transformer runs
abbrev pub swap : Pos → Statements
swap p = more (set p (Into now_name) (literal (pos 1))) (more (call p Nowhere (merged_name Xform (codes "dsu_transform")) []) none)

-- where the answer says so, the update happens
abbrev pub answered : Pos → Statement
answered p = if_else p (is_set choice_name) (swap p) none

abbrev pub question : Pos → ℕ → Statements
question p k = more (choice p (Fresh Int choice_name) k) (more (answered p) none)

-- a point asks where the update hasn't happened
abbrev pub asking : Pos → ℕ → Statement
asking p k = if_else p (is_zero now_name) (question p k) none

-- a force updates where the update hasn't happened
abbrev pub forcing : Pos → Statement
forcing p = if_else p (is_zero now_name) (swap p) none

-- the values of these parameters
abbrev pub values_of : List (Kind × Bytes) → List Expression
values_of ps = map (λ q. variable q.1) ps

-- a call with the values of these parameters
abbrev pub call_with : Pos → Dest → Bytes → List (Kind × Bytes) → Statement
call_with p d f ps = call p d f (values_of ps)

-- a call whose result is handed on, where it has one
abbrev pub hand : Pos → Bool → Bytes → List (Kind × Bytes) → Statements
hand p true f ps =
    more (call_with p (Fresh Int result_name) f ps) (more (return_with p (Some (variable result_name))) none)
hand p false f ps = more (call_with p Nowhere f ps) none

-- the current version's function is called
abbrev pub wrapping : Pos → Bool → Bytes → Bytes → List (Kind × Bytes) → Statement
wrapping p gives new old ps = if_else p (is_set now_name) (hand p gives new ps) (hand p gives old ps)

abbrev pub return_zero : Pos → Statement
return_zero p = return_with p (Some (literal (pos 0)))

-- `permits` says which points may update, ρ and κ what variables and functions are called, by the origin of
-- the code in which they stand
module _ (permits : ℕ → Bool) (ρ κ : Provenance → Bytes → Bytes) where
  abbrev mutual
    pub merged_statement : Provenance → Statement → Statement
    merged_statement o (skip p) = skip p
    merged_statement o (set p d e) = set p (renamed_dest (ρ o) d) (renamed (ρ o) (κ o) e)
    merged_statement o (set_element p a i e) = set_element p (ρ o a) (renamed (ρ o) (κ o) i) (renamed (ρ o) (κ o) e)
    merged_statement o (call p d f es) = call p (renamed_dest (ρ o) d) (κ o f) (all_renamed (ρ o) (κ o) es)
    merged_statement o (call_by p d x es) = call_by p (renamed_dest (ρ o) d) (ρ o x) (all_renamed (ρ o) (κ o) es)
    merged_statement o (if_else p e xs ys) = if_else p (renamed (ρ o) (κ o) e) (merged_statements o xs) (merged_statements o ys)
    merged_statement o (while_loop p e xs) = while_loop p (renamed (ρ o) (κ o) e) (merged_statements o xs)
    merged_statement o (break_loop p) = break_loop p
    merged_statement o (return_with p e) = return_with p (renamed_option (ρ o) (κ o) e)
    merged_statement o (assert_that p e) = assert_that p (renamed (ρ o) (κ o) e)
    merged_statement o (input p d) = input p (renamed_dest (ρ o) d)
    merged_statement o (output p e) = output p (renamed (ρ o) (κ o) e)
    merged_statement o (point p k) = if may_update o && permits k then asking p k else skip p
    merged_statement o (choice p d k) = choice p (renamed_dest (ρ o) d) k
    merged_statement o (force p) = forcing p
    merged_statement o (pick p a b) = if_else p (is_set now_name) (more (merged_statement o a) none) (more (merged_statement o b) none)

    pub merged_statements : Provenance → Statements → Statements
    merged_statements o none = none
    merged_statements o (more s ss) = more (merged_statement o s) (merged_statements o ss)
