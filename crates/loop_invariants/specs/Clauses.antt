-- What may stand in a clause of hints.
use Rattle.std.specs.Prelude.{ℕ, zero, suc, ◌==◌, ℤ, pos, Bool, true, false, not, ◌&&◌, ◌||◌, List, [], ◌∷◌, ◌++◌, length, Option, Some, None, int_le}
use Rattle.std.specs.Option.{is_some, option_map}
use Rattle.std.specs.List.{list_any}
use Rattle.std.specs.Str.{bytes_eq}
use Rattle.c_lang.specs.Names.{Bytes}
use Rattle.c_lang.specs.Programs.{global_named, func_named}
use Rattle.c_lang.specs.declared.program.Shape.{Shape}
use Rattle.c_lang.specs.declared.program.Shape.TheVariants as shape
use Rattle.c_lang.specs.declared.program.GlobalVar.{GlobalVar}
use Rattle.c_lang.specs.declared.program.Func.{Func}
use Rattle.c_lang.specs.declared.program.Program.{Program}
use Rattle.terms.specs.declared.sym.Sym.{Sym}
use Rattle.terms.specs.declared.fact.Fact.{Fact}
use Rattle.terms.specs.declared.fact.Fact.TheVariants as fact
use Rattle.terms.specs.Symbols.{same_sym}
use Rattle.terms.specs.Trees.{TermTree, number, name, plus, minus, times, read, ArrayTree, array, stored, FormTree, at_most, equal, denied, both, either}
use Rattle.loop_invariants.specs.EntryNames.{parameter_text, entry_text, result_base, bound}
use Rattle.loop_invariants.specs.SetNames.{is_among}
use Rattle.loop_invariants.specs.Loops.{visible_at}

-- ---- the names

abbrev pub holds_array : Shape → Bool
holds_array (shape.Int z) = false
holds_array (shape.Arr zs) = true
holds_array (shape.Fp n f) = false

-- where a clause stands: the parameters and locals of which it may speak, how many parameters the function has,
-- whether it may speak of the result, and of globals at entry
pub record Place : Type 0 where
  pub locals : List Bytes
  pub parameters : ℕ
  pub result : Bool
  pub entry : Bool

abbrev pub is_array : Option GlobalVar → Bool
is_array None = false
is_array (Some g) = holds_array g.shape

abbrev pub is_scalar : Option GlobalVar → Bool
is_scalar None = false
is_scalar (Some g) = not (holds_array g.shape)

-- the texts of the entry values of n parameters
abbrev pub parameter_texts : ℕ → List Bytes
parameter_texts zero = []
parameter_texts (suc n) = parameter_texts n ++ (parameter_text (suc n) ∷ [])

-- the value at entry of a global of which `is` holds
abbrev pub is_entry_of : (Option GlobalVar → Bool) → List GlobalVar → Bytes → Bool
is_entry_of is globals x = list_any (λ g. is (global_named globals g.name) && bytes_eq (entry_text g.name) x) globals

abbrev pub number_may_stand : Program → Place → Bytes → Bool
number_may_stand p at x = is_scalar (global_named p.globals x) || (is_among x at.locals
    || (is_among x (parameter_texts at.parameters) || ((at.result && bytes_eq result_base x)
    || (at.entry && is_entry_of is_scalar p.globals x))))

abbrev pub array_may_stand : Program → Place → Bytes → Bool
array_may_stand p at x = is_array (global_named p.globals x) || (at.entry && is_entry_of is_array p.globals x)

-- the names that may stand for a number, and those that may be indexed; in formulas they have the count 0
pub record Names : Type 0 where
  pub number : Bytes → Bool
  pub array : Bytes → Bool

abbrev pub names_at : Program → Place → Names
names_at p at = record { number = number_may_stand p at; array = array_may_stand p at }

abbrev pub with_bound : Names → Names
with_bound names = record names { number = λ x. bytes_eq bound.base x || names.number x }

-- ---- formulas

abbrev pub is_literal : ℤ → Bool
is_literal z = int_le (pos 0) z && int_le z (pos 2147483647)

abbrev pub is_plain : (Bytes → Bool) → Sym → Bool
is_plain is x = (x.count == 0) && is x.base

-- sums, differences and products of literals, names and elements, with at most n operators on each path
abbrev mutual
  pub may_be_term : Names → ℕ → TermTree → Bool
  may_be_term names n (number z) = is_literal z
  may_be_term names n (name x) = is_plain names.number x
  may_be_term names (suc n) (plus t u) = may_be_term names n t && may_be_term names n u
  may_be_term names (suc n) (minus t u) = may_be_term names n t && may_be_term names n u
  may_be_term names (suc n) (times t u) = may_be_term names n t && may_be_term names n u
  may_be_term names (suc n) (read a i) = may_be_array names a && may_be_term names n i
  may_be_term names n t = false

  pub may_be_array : Names → ArrayTree → Bool
  may_be_array names (array x) = is_plain names.array x
  may_be_array names (stored a i t) = false

-- comparisons of such terms, and what is made of them
abbrev pub may_be_form : Names → ℕ → FormTree → Bool
may_be_form names (suc n) (at_most t u) = may_be_term names n t && may_be_term names n u
may_be_form names (suc n) (equal t u) = may_be_term names n t && may_be_term names n u
may_be_form names (suc n) (denied f) = may_be_form names n f
may_be_form names (suc n) (both f g) = may_be_form names n f && may_be_form names n g
may_be_form names (suc n) (either f g) = may_be_form names n f && may_be_form names n g
may_be_form names n f = false

abbrev pub operator_limit : ℕ
operator_limit = 64

-- a form, or a bounded quantifier of the one bound name
abbrev pub may_be_fact : Names → Fact → Bool
may_be_fact names (fact.Plain f) = may_be_form names operator_limit f
may_be_fact names (fact.All x lo hi f) = same_sym x bound && (may_be_term names operator_limit lo
    && (may_be_term names operator_limit hi && may_be_form (with_bound names) operator_limit f))

-- ---- the places

abbrev pub at_needs : Func → Place
at_needs f = record { locals = []; parameters = length f.params; result = false; entry = false }

abbrev pub at_promises : Func → Place
at_promises f = record { locals = []; parameters = length f.params; result = f.gives; entry = true }

-- at a loop where these parameters and locals are visible
abbrev pub at_loop : Func → List Bytes → Place
at_loop f visible = record { locals = visible; parameters = length f.params; result = false; entry = true }

abbrev pub loop_place_in : Option Func → ℕ → Option Place
loop_place_in None k = None
loop_place_in (Some f) k = option_map (at_loop f) (visible_at f k)

-- at the loop of this number, if there is a function of this name that has it
abbrev pub loop_place : Program → Bytes → ℕ → Option Place
loop_place p func k = loop_place_in (func_named p.funcs func) k

abbrev pub may_stand : Program → Place → Fact → Bool
may_stand p at f = may_be_fact (names_at p at) f

-- whether a `forall` may give its number this name in the text: no global has it, and no parameter or local of which
-- the clause may speak
abbrev pub may_bind : Program → Place → Bytes → Bool
may_bind p at x = not (is_some (global_named p.globals x)) && not (is_among x at.locals)

-- a place in a program
pub record Site : Type 0 where
  pub program : Program
  pub place : Place

abbrev pub site : Program → Place → Site
site p at = record { program = p; place = at }
