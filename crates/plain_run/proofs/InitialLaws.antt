-- Tables of the globals, filled from the last one.
use Rattle.std.proofs.Common.{◌≡◌, List, ◌∷◌, Vec, Global, ℤ, Result, Ok, Err, IfOk, refl, ◌∙◌}
use Rattle.std.specs.Borrow.{Bor}
use Rattle.indexmap.specs.IndexMap.{insert_entry}
use Rattle.c_lang.specs.Names.{Bytes}
use Rattle.c_lang.specs.Programs.{global_named, initial_value, initial_elements, shape_value, shape_elements}
use Rattle.c_lang.specs.declared.program.GlobalVar.{GlobalVar}
use Rattle.plain_run.specs.declared.value.Value.{Value}
use Rattle.plain_run.specs.Code.Names.{Entries, Arrays, plain_function, value_or_zero, elements_or_none, seen_values, seen_arrays}
use Rattle.plain_run.specs.Values.{seen_value}
use Rattle.plain_run.proofs.TableLaws.{same_name, IsFilled-more}

abbrev pub HasValues : Entries (Bor Bytes) → List GlobalVar → Type 0
HasValues entries globals = (x : Bytes) → seen_values plain_function entries x ≡ initial_value (λ f. f) (global_named globals x)

abbrev pub HasArrays : Arrays → List GlobalVar → Type 0
HasArrays entries globals = (x : Bytes) → seen_arrays entries x ≡ initial_elements (global_named globals x)

pub HasValues-more : (old new : Entries (Bor Bytes)) (k : Bor Bytes) (v : Value (Bor Bytes)) (g : GlobalVar) (globals : List GlobalVar)
    → new ≡ insert_entry same_name old k v → k.now ≡ g.name → seen_value plain_function v ≡ shape_value (λ f. f) g.shape → HasValues old globals → HasValues new (g ∷ globals)
HasValues-more old new k v g globals is name value has =
    IsFilled-more (λ (d : GlobalVar). d.name) global_named (value_or_zero plain_function) (initial_value (λ f. f)) old new k v g globals (λ x. refl) is name value has

pub HasArrays-more : (old new : Arrays) (k : Bor Bytes) (elements : Vec ℤ Global) (g : GlobalVar) (globals : List GlobalVar)
    → new ≡ insert_entry same_name old k elements → k.now ≡ g.name → elements.items ≡ shape_elements g.shape → HasArrays old globals → HasArrays new (g ∷ globals)
HasArrays-more old new k elements g globals is name value has =
    IsFilled-more (λ (d : GlobalVar). d.name) global_named elements_or_none initial_elements old new k elements g globals (λ x. refl) is name value has

-- what holds of a value for each n holds of it for one
pub at_one : {T E X N : Type 0} (r : Result T E) (f : T → X) (y : N → X) (n : N) (z : X) → IfOk r (λ t. (m : N) → f t ≡ y m) → y n ≡ z → IfOk r (λ t. f t ≡ z)
at_one (Ok t) f y n z holds is = holds n ∙ is
at_one (Err e) f y n z holds is = tt
