-- An element is written in a table of arrays.
use Rattle.std.proofs.Common.{◌≡◌, ℤ, Bool, true, false, if◌then◌else◌, Vec, Global, Some, None, refl, sym, ap, ◌∙◌}
use Rattle.std.specs.Map.{set_value}
use Rattle.std.specs.Str.{bytes_eq}
use Rattle.std.specs.Borrow.{Bor}
use Rattle.indexmap.specs.IndexMap.{insert_entry}
use Rattle.c_lang.specs.Names.{Bytes}
use Rattle.c_lang.specs.declared.program.Program.{Program}
use Rattle.plain_run.specs.Environments.{SetsElement}
use Rattle.plain_run.specs.PlainEnvironments.{store_with}
use Rattle.plain_run.specs.PlainRun.{plain_access}
use Rattle.plain_run.specs.Steps.{updated, elements_with}
use Rattle.plain_run.specs.Code.Names.{Entries, Arrays, found, plain_function, value_or_zero, elements_or_none, seen_values, seen_arrays}
use Rattle.plain_run.specs.Values.{seen_value}
use Rattle.plain_run.specs.declared.value.Value.{Value}
use Rattle.plain_run.proofs.StoreLaws.{all_names}
use Rattle.plain_run.proofs.TableLaws.{at_test, found-set, from_true, same_name, seen-insert}

-- a global is written
pub puts : (P : Program) (old new : Entries (Bor Bytes)) (arrays : Arrays) (k : Bor Bytes) (v : Value (Bor Bytes)) → new ≡ insert_entry same_name old k v
    → store_with new arrays ≡ (plain_access P).put tt k.now (seen_value plain_function v) (store_with old arrays)
puts P old new arrays k v is =
    ap (λ values. record { values = values; arrays = seen_arrays arrays })
    (all_names _ _ (λ x. ap (λ entries. seen_values plain_function entries x) is ∙ seen-insert (value_or_zero plain_function) old k v x))

module _ (old new : Arrays) (a : Bytes) (elements elements' : Vec ℤ Global) (there : found old a ≡ Some elements) (is : new ≡ set_value (λ n. bytes_eq a n.now) old elements') where
  array_there : seen_arrays old a ≡ elements.items
  array_there = ap elements_or_none there

  seen_arrays-set : seen_arrays new ≡ updated (seen_arrays old) a elements'.items
  seen_arrays-set = all_names _ _ (λ x. ap (λ entries. seen_arrays entries x) is ∙ ap elements_or_none (found-set old a elements' elements x there)
      ∙ at_test elements_or_none (bytes_eq a x) elements' (found old x))

  as_before : (x : Bytes) (b : Bool) → bytes_eq a x ≡ b → elements'.items ≡ elements.items → (if b then elements'.items else seen_arrays old x) ≡ seen_arrays old x
  as_before x true p same = same ∙ sym array_there ∙ ap (seen_arrays old) (from_true a x p)
  as_before x false p same = refl

  pub sets_element : (P : Program) (values : Entries (Bor Bytes)) (at z : ℤ) (written : Bool) → elements_with elements.items at z ≡ (if written then Some elements'.items else None)
      → (written ≡ false → elements'.items ≡ elements.items) → SetsElement (plain_access P) tt (store_with values old) a at z written (store_with values new)
  sets_element P values at z true within outside =
      (elements'.items, ap (λ r. elements_with r at z) array_there ∙ within, ap (λ arrays. record { values = seen_values plain_function values; arrays = arrays }) seen_arrays-set)
  sets_element P values at z false within outside = (
    ap (λ r. elements_with r at z) array_there ∙ within,
    ap (λ arrays. record { values = seen_values plain_function values; arrays = arrays }) (seen_arrays-set ∙ all_names _ _ (λ x. as_before x (bytes_eq a x) refl (outside refl))),
  )
