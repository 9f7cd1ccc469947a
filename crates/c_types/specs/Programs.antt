-- The typing of programs: globals, prototypes, then functions, each in source order.
use Rattle.std.specs.Prelude.{ℕ, ◌-◌, nat_lt, Bool, true, false, ◌&&◌, ◌||◌, if◌then◌else◌, List, [], ◌∷◌, length, Option, Some, None, Result}
use Rattle.std.specs.Option.{is_some}
use Rattle.c_lang.specs.Refusals as refused
use Rattle.c_lang.specs.Names.{Bytes}
use Rattle.c_lang.specs.Limits.{cell_limit, element_limit}
use Rattle.c_lang.specs.Kinds.{same_kinds, same_result}
use Rattle.c_lang.specs.declared.unit.Unit.{Unit}
use Rattle.c_lang.specs.declared.unit.Pos.{Pos}
use Rattle.c_lang.specs.declared.refusal.Refusal.{Refusal}
use Rattle.c_lang.specs.declared.refusal.Fail.{Fail}
use Rattle.c_lang.specs.declared.stmt.Kind.TheVariants.{Int, Fp}
use Rattle.c_lang.specs.declared.program.Shape.{Shape}
use Rattle.c_lang.specs.declared.program.Shape.TheVariants as shape
use Rattle.c_lang.specs.declared.program.GlobalVar.{GlobalVar}
use Rattle.c_lang.specs.declared.program.Proto.{Proto}
use Rattle.c_lang.specs.declared.program.Func.{Func}
use Rattle.c_lang.specs.declared.program.Program.{Program}
use Rattle.c_types.specs.Names.{Means, Cell, Array, Code, Refused, Entries, found, meant, added, smaller}
use Rattle.c_types.specs.Expressions.{wrong_function}
use Rattle.c_types.specs.Scopes.{wrong_kind}
use Rattle.c_types.specs.Checks.{at_place, first, Checked}
use Rattle.c_types.specs.Functions.{means_of_func, wrong_params_count, is_main, refusal_of_func, resolved_func}

-- ---- what is visible in the whole unit

abbrev pub means_of_shape : Shape → Means
means_of_shape (shape.Int z) = Cell Int
means_of_shape (shape.Arr zs) = Array
means_of_shape (shape.Fp n f) = Cell (Fp n)

abbrev pub with_global : Entries → GlobalVar → Entries
with_global entries g = added entries g.name (means_of_shape g.shape)

abbrev pub with_globals : Entries → List GlobalVar → Entries
with_globals entries [] = entries
with_globals entries (g ∷ gs) = with_globals (with_global entries g) gs

abbrev pub with_func : Entries → Func → Entries
with_func entries f = added entries f.name (means_of_func f)

abbrev pub with_funcs : Entries → List Func → Entries
with_funcs entries [] = entries
with_funcs entries (f ∷ fs) = with_funcs (with_func entries f) fs

abbrev pub outside_of : List GlobalVar → List Func → Entries
outside_of gs fs = with_funcs (with_globals [] gs) fs

-- ---- globals

-- 7 where a declaration before has the name; `seen` is what those make visible
abbrev pub wrong_again : Entries → Bytes → Option ℕ
wrong_again seen x = if is_some (found seen x) then Some refused.duplicate else None

-- a pointer's initial value is a function's name
abbrev pub wrong_initial : Entries → Shape → Option ℕ
wrong_initial outside (shape.Int z) = None
wrong_initial outside (shape.Arr zs) = None
wrong_initial outside (shape.Fp n None) = None
wrong_initial outside (shape.Fp n (Some f)) = wrong_function (Fp n) (meant (found outside f))

-- the first array that has no elements here is refused by the first entry of `early`
abbrev pub early_number : List Refusal → ℕ
early_number [] = refused.past_limit
early_number (r ∷ rs) = r.number

abbrev pub wrong_shape : List Refusal → Shape → Option ℕ
wrong_shape early (shape.Int z) = None
wrong_shape early (shape.Arr []) = Some (early_number early)
wrong_shape early (shape.Arr (z ∷ zs)) = if nat_lt element_limit (length (z ∷ zs)) then Some refused.past_limit else None
wrong_shape early (shape.Fp n f) = wrong_kind (Fp n)

abbrev pub cells_of : Shape → ℕ
cells_of (shape.Int z) = 1
cells_of (shape.Arr zs) = length zs
cells_of (shape.Fp n f) = 1

-- 27 for more cells than there is room for
abbrev pub wrong_cells : ℕ → ℕ → Option ℕ
wrong_cells room cells = if nat_lt room cells then Some refused.past_limit else None

abbrev pub wrong_global : List Refusal → Entries → Entries → ℕ → GlobalVar → Option ℕ
wrong_global early outside seen room g =
    smaller (wrong_again seen g.name)
    (smaller (wrong_initial outside g.shape) (smaller (wrong_shape early g.shape) (wrong_cells room (cells_of g.shape))))

abbrev pub refusal_of_globals : List Refusal → Entries → Entries → ℕ → List GlobalVar → Option Refusal
refusal_of_globals early outside seen room [] = None
refusal_of_globals early outside seen room (g ∷ gs) =
    first (at_place (wrong_global early outside seen room g) g.pos)
    (refusal_of_globals early outside (with_global seen g) (room - cells_of g.shape) gs)

-- ---- prototypes

abbrev pub wrong_match : Option Means → Proto → Option ℕ
wrong_match (Some (Code params gives value denied)) p =
    if same_kinds params p.params && same_result gives p.gives then None else Some refused.wrong_kind
wrong_match (Some (Cell k)) p = Some refused.unknown
wrong_match (Some Array) p = Some refused.unknown
wrong_match (Some (Refused n)) p = Some refused.unknown
wrong_match None p = Some refused.unknown

abbrev pub wrong_proto : Entries → Proto → Option ℕ
wrong_proto functions p = smaller (wrong_match (found functions p.name) p) (wrong_params_count p.params)

abbrev pub refusal_of_protos : Entries → List Proto → Option Refusal
refusal_of_protos functions [] = None
refusal_of_protos functions (p ∷ ps) = first (at_place (wrong_proto functions p) p.pos) (refusal_of_protos functions ps)

-- ---- functions

abbrev pub refusal_of_funcs : Entries → Bool → Entries → List Func → Option Refusal
refusal_of_funcs outside xform seen [] = None
refusal_of_funcs outside xform seen (f ∷ fs) =
    first (refusal_of_func (wrong_again seen f.name) outside xform f)
    (refusal_of_funcs outside xform (with_func seen f) fs)

abbrev pub resolved_funcs : Entries → Bool → List Func → List Func
resolved_funcs outside xform [] = []
resolved_funcs outside xform (f ∷ fs) = resolved_func outside xform f ∷ resolved_funcs outside xform fs

-- what a check answers
abbrev pub AreFuncs : Entries → Bool → Entries → List Func → Result (List Func) Fail → Type 0
AreFuncs outside xform seen fs result = Checked result (refusal_of_funcs outside xform seen fs) (resolved_funcs outside xform fs)

abbrev pub is_empty : {X : Type 0} → List X → Bool
is_empty [] = true
is_empty (x ∷ xs) = false

abbrev pub is_start : Func → Bool
is_start f = is_main f.name && f.gives && is_empty f.params

abbrev pub has_main : List Func → Bool
has_main [] = false
has_main (f ∷ fs) = is_start f || has_main fs

-- 13 where there is no `int main(void)`
abbrev pub wrong_main : List Func → Option ℕ
wrong_main fs = if has_main fs then None else Some refused.no_start

-- ---- the whole program

-- what no declaration of the program has
abbrev pub first_early : List Refusal → Option Refusal
first_early [] = None
first_early (r ∷ rs) = Some r

abbrev pub first_line : Unit → Pos
first_line u = record { unit = u; line = 1 }

abbrev pub refusal_of_declarations : Unit → Entries → Entries → Program → Option Refusal
refusal_of_declarations u outside seen p =
    first (refusal_of_globals p.early outside seen (cell_limit u) p.globals) (refusal_of_protos (with_funcs [] p.funcs) p.protos)

abbrev pub refusal_of_whole : Unit → Program → Option Refusal
refusal_of_whole u p = first (at_place (wrong_main p.funcs) (first_line u)) (first_early p.early)

abbrev pub first_refusal : Unit → Program → Option Refusal
first_refusal u p =
    first (refusal_of_declarations u (outside_of p.globals p.funcs) [] p)
    (first (refusal_of_funcs (outside_of p.globals p.funcs) false (with_globals [] p.globals) p.funcs) (refusal_of_whole u p))

abbrev pub resolved_program : Program → Program
resolved_program p =
    record p { funcs = resolved_funcs (outside_of p.globals p.funcs) false p.funcs; early = [] }
