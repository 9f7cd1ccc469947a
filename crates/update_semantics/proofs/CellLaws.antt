-- The tables of cells, as they are filled and written.
use Rattle.std.proofs.Common.{◌≡◌, ℤ, Bool, true, false, if◌then◌else◌, List, ◌∷◌, Vec, Global, Some, None, refl, sym, ap, ◌∙◌}
use Rattle.std.specs.Borrow.{Bor}
use Rattle.std.specs.Map.{set_value}
use Rattle.std.specs.Str.{bytes_eq}
use Rattle.indexmap.specs.IndexMap.{insert_entry}
use Rattle.c_lang.specs.Names.{Bytes}
use Rattle.c_lang.specs.Programs.{global_named, initial_value, shape_value}
use Rattle.c_lang.specs.declared.program.GlobalVar.{GlobalVar}
use Rattle.plain_run.specs.Code.Names.{Arrays, found, value_or_zero, elements_or_none, seen_values, seen_arrays}
use Rattle.plain_run.specs.Steps.{updated, elements_with}
use Rattle.plain_run.proofs.StoreLaws.{all_names}
use Rattle.plain_run.proofs.TableLaws.{same_name, seen-insert, at_test, found-set, from_true, IsFilled-more}
use Rattle.version_names.specs.declared.part.Version.{Version}
use Rattle.update_semantics.specs.Code.Cells.{Values, origin_of, HasValuesOf, SetsIn}
use Rattle.update_semantics.specs.Linked.{function_at}
use Rattle.plain_run.specs.Values.{seen_value}
use Rattle.update_semantics.specs.UpdatingRun.{function_meaning}
use Rattle.update_semantics.specs.Worlds.{World, world_of}
use Rattle.update_semantics.specs.declared.linked.Function.{Function}
use Rattle.plain_run.specs.declared.value.Value.{Value}

pub HasValues-more : (w : World) (u : Version) (old new : Values) (k : Bor Bytes) (v : Value Function) (g : GlobalVar) (globals : List GlobalVar)
    → new ≡ insert_entry same_name old k v → k.now ≡ g.name
    → seen_value function_at v ≡ shape_value (function_meaning (world_of w) (origin_of u)) g.shape
    → HasValuesOf w u old globals → HasValuesOf w u new (g ∷ globals)
HasValues-more w u old new k v g globals is name value has =
    IsFilled-more (λ (d : GlobalVar). d.name) global_named (value_or_zero function_at) (initial_value (function_meaning (world_of w) (origin_of u)))
    old new k v g globals (λ x. refl) is name value has

pub values-insert : (old new : Values) (k : Bor Bytes) (v : Value Function) → new ≡ insert_entry same_name old k v
    → seen_values function_at new ≡ updated (seen_values function_at old) k.now (seen_value function_at v)
values-insert old new k v is = all_names _ _ (λ x. ap (λ entries. seen_values function_at entries x) is ∙ seen-insert (value_or_zero function_at) old k v x)

module _ (old new : Arrays) (a : Bytes) (elements elements' : Vec ℤ Global) (there : found old a ≡ Some elements) (is : new ≡ set_value (λ n. bytes_eq a n.now) old elements') where
  array_there : seen_arrays old a ≡ elements.items
  array_there = ap elements_or_none there

  arrays-set : seen_arrays new ≡ updated (seen_arrays old) a elements'.items
  arrays-set = all_names _ _ (λ x. ap (λ entries. seen_arrays entries x) is ∙ ap elements_or_none (found-set old a elements' elements x there)
      ∙ at_test elements_or_none (bytes_eq a x) elements' (found old x))

  as_before : (x : Bytes) (b : Bool) → bytes_eq a x ≡ b → elements'.items ≡ elements.items → (if b then elements'.items else seen_arrays old x) ≡ seen_arrays old x
  as_before x true p same = same ∙ sym array_there ∙ ap (seen_arrays old) (from_true a x p)
  as_before x false p same = refl

  pub sets_in : (at z : ℤ) (written : Bool) → elements_with elements.items at z ≡ (if written then Some elements'.items else None)
      → (written ≡ false → elements'.items ≡ elements.items) → SetsIn (seen_arrays old) a at z written (seen_arrays new)
  sets_in at z true within outside = (elements'.items, ap (λ r. elements_with r at z) array_there ∙ within, arrays-set)
  sets_in at z false within outside =
      (ap (λ r. elements_with r at z) array_there ∙ within, arrays-set ∙ all_names _ _ (λ x. as_before x (bytes_eq a x) refl (outside refl)))
