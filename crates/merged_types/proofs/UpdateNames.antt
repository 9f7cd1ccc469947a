-- What the merged program has for updates and wrappers, and names that nothing in it has.
use Rattle.std.proofs.Common.{◌≡◌, ◌<◌, ◌^◌, ℕ, Bool, true, false, not, List, [], ◌∷◌, ◌++◌, map, Option, Some, None, refl, sym, ap, ap₂, ◌∙◌, subst, arith, codes}
use Rattle.std.specs.Prelude.{if◌then◌else◌}
use Rattle.std.specs.Option.{option_map, option_or}
use Rattle.std.specs.List.{filter}
use Rattle.std.specs.Fmt.{decimal}
use Rattle.std.specs.Str.{bytes_eq}
use Rattle.std.specs.Str.Parse.{IsNumeral}
use Rattle.std.proofs.lemmas.Fmt.{decimal_is_IsNumeral, decimal_injective}
use Rattle.c_lang.specs.Names.{Bytes}
use Rattle.c_lang.specs.Programs.{func_named}
use Rattle.c_lang.specs.declared.stmt.Kind.{Kind}
use Rattle.c_lang.specs.declared.program.Func.{Func}
use Rattle.c_types.specs.Names.{Code, found}
use Rattle.c_types.specs.Functions.{kinds_of, arity_as_value, means_of_func}
use Rattle.c_types.specs.Programs.{is_empty}
use Rattle.c_types.proofs.Combined.{both_true}
use Rattle.version_names.specs.Merged.{merged_name}
use Rattle.version_names.specs.Home.{Linked}
use Rattle.version_names.specs.Home as home
use Rattle.version_names.specs.Provenance as origin
use Rattle.version_names.specs.declared.part.Origin.{Origin}
use Rattle.version_names.specs.declared.part.Origin.TheVariants as prefix
use Rattle.client_specs.specs.Kept.{ClientProgram}
use Rattle.update_semantics.specs.UpdatingRun.{World, client_funcs}
use Rattle.merged_program.specs.Names.{now_name, choice_name, result_name, parameter_name, cell_name, kept_name}
use Rattle.merged_program.specs.Programs.{merged_globals, merged_param, wrapper, old_func, new_func, xform_func, client_func, is_wrapped, merged_main, merged_funcs}
use Rattle.state_xform.specs.Transformers.{is_start}
use Rattle.merged_program.proofs.MergedNames.{to_false, same_names, kept-own}
use Rattle.merged_program.proofs.Lookups.{or_none, no_func_named, funcs_append}
use Rattle.merged_program.proofs.MergedTables.{no_cell, no_xform_cell}
use Rattle.merged_program.proofs.MainLaws.{empty_is}
use Rattle.merged_types.proofs.UnitNames.{either_means, found_outside}
use Rattle.merged_types.proofs.CarriedScopes.{HasUpdate}
use Rattle.merged_types.proofs.VersionNames.{merged_outside, code_found}

-- ---- parameters' names

pub parameters_apart : (m n : ℕ) → m < n → n < 2 ^ 64 → bytes_eq (parameter_name n) (parameter_name m) ≡ false
parameters_apart m n before small = to_false (bytes_eq (decimal n) (decimal m)) (λ e.
    let same : n ≡ m = decimal_injective n m small (omega (arith, before, small)) (same_names (decimal n) (decimal m) e) in
    absurd (omega (arith, before, same)))

-- a number has no letter
no_letter : (z : Bytes) (n : ℕ) → n < 2 ^ 64 → bytes_eq (110 ∷ z) (decimal n) ≡ false
no_letter z n small = to_false (bytes_eq (110 ∷ z) (decimal n)) (λ e.
    let digits : IsNumeral 10 (110 ∷ z) = subst (IsNumeral 10) (sym (same_names (110 ∷ z) (decimal n) e)) (decimal_is_IsNumeral n small).0 in
    let never = digits.1.0 in absurd (omega (arith, never)))

module _ (W : World) where
  -- ---- free names

  abbrev pub IsApart : Bytes → Type 0
  IsApart n = (p : Origin) (f : Bytes) → bytes_eq (merged_name p f) n ≡ false

  cells_apart : (n : Bytes) → IsApart n → ((x : Bytes) → bytes_eq (kept_name x) n ≡ false) → (k : Linked) → bytes_eq (cell_name k) n ≡ false
  cells_apart n h kept (home.Both, x) = h prefix.Both x
  cells_apart n h kept (home.Old, x) = h prefix.Old x
  cells_apart n h kept (home.New, x) = h prefix.New x
  cells_apart n h kept (home.Xform, x) = h prefix.Xform x
  cells_apart n h kept (home.Client, x) = h prefix.Client x
  cells_apart n h kept (home.Unlinked, x) = kept x

  main_apart : (c : Option ClientProgram) (n : Bytes) → bytes_eq (codes "main") n ≡ false → bytes_eq (merged_main W c).name n ≡ false
  main_apart None n h = h
  main_apart (Some c) n h = h

  two_none : (xs ys : List Func) (n : Bytes) → func_named xs n ≡ None → func_named ys n ≡ None → func_named (xs ++ ys) n ≡ None
  two_none xs ys n h k = funcs_append xs ys n ∙ ap₂ option_or h k

  pub no_func : (n : Bytes) → IsApart n → bytes_eq (codes "main") n ≡ false → func_named (merged_funcs W) n ≡ None
  no_func n h main =
      two_none (map (old_func W) W.first.funcs) _ n (no_func_named (old_func W) W.first.funcs n (λ f. h prefix.Old f.name))
      (two_none (map (new_func W) W.second.funcs) _ n (no_func_named (new_func W) W.second.funcs n (λ f. h prefix.New f.name))
      (two_none (map wrapper (filter (is_wrapped W) W.first.funcs)) _ n (no_func_named wrapper (filter (is_wrapped W) W.first.funcs) n (λ f. h prefix.Any f.name))
      (two_none (map (xform_func W) W.xform.funcs) _ n (no_func_named (xform_func W) W.xform.funcs n (λ f. h prefix.Xform f.name))
      (two_none (map (client_func W) (client_funcs W)) (merged_main W W.client ∷ []) n (no_func_named (client_func W) (client_funcs W) n (λ f. h prefix.Client f.name))
      (ap (λ (b : Bool). if b then Some (merged_main W W.client) else None) (main_apart W.client n main))))))

  pub free_name : (n : Bytes) → bytes_eq now_name n ≡ false → IsApart n → ((x : Bytes) → bytes_eq (kept_name x) n ≡ false) → bytes_eq (codes "main") n ≡ false
      → found (merged_outside W) n ≡ None
  free_name n now h kept main =
      found_outside (merged_globals W) (merged_funcs W) n
      ∙ ap₂ either_means (no_cell W n now (cells_apart n h kept)) (no_func n h main)

  choice_apart : IsApart choice_name
  choice_apart prefix.Both f = refl
  choice_apart prefix.Any f = refl
  choice_apart prefix.Old f = refl
  choice_apart prefix.New f = refl
  choice_apart prefix.Xform f = refl
  choice_apart prefix.Client f = refl

  result_apart : IsApart result_name
  result_apart prefix.Both f = refl
  result_apart prefix.Any f = refl
  result_apart prefix.Old f = refl
  result_apart prefix.New f = refl
  result_apart prefix.Xform f = refl
  result_apart prefix.Client f = refl

  parameter_apart : (n : ℕ) → n < 2 ^ 64 → IsApart (parameter_name n)
  parameter_apart n small prefix.Both f = refl
  parameter_apart n small prefix.Any f = no_letter (codes "y_" ++ f) n small
  parameter_apart n small prefix.Old f = refl
  parameter_apart n small prefix.New f = refl
  parameter_apart n small prefix.Xform f = refl
  parameter_apart n small prefix.Client f = refl

  pub result_free : found (merged_outside W) result_name ≡ None
  result_free = free_name result_name refl result_apart (λ x. kept-own 114 [] x refl refl) refl

  pub parameter_free : (n : ℕ) → n < 2 ^ 64 → found (merged_outside W) (parameter_name n) ≡ None
  parameter_free n small = free_name (parameter_name n) refl (parameter_apart n small) (λ x. kept-own 97 (decimal n) x refl refl) refl

  -- ---- the update

  not_true : (b : Bool) → not b ≡ true → b ≡ false
  not_true true h = absurd cc
  not_true false h = refl

  abbrev transform : Bytes
  transform = codes "dsu_transform"

  start_found : (o : Option Func) → func_named W.xform.funcs transform ≡ o → is_start o ≡ true → found (merged_outside W) (merged_name prefix.Xform transform) ≡ Some (Code [] false None None)
  start_found None e h = absurd cc
  start_found (Some f) e h =
      let parts = both_true (not f.gives) (is_empty f.params) h in
      let means : means_of_func (xform_func W f) ≡ Code [] false None None =
      ap₂ (λ (ps : List (Kind × Bytes)) (g : Bool). Code (kinds_of (map (merged_param W origin.Xform) ps)) g (arity_as_value (kinds_of (map (merged_param W origin.Xform) ps)) g) None)
      (empty_is f.params parts.1) (not_true f.gives parts.0) in
      code_found W (home.Xform, transform) (xform_func W f) (Code [] false None None) (no_xform_cell W transform)
      (or_none (option_map (xform_func W) (func_named W.xform.funcs transform)) ∙ ap (option_map (xform_func W)) e) means

  pub has_update : is_start (func_named W.xform.funcs transform) ≡ true → HasUpdate (merged_outside W)
  has_update h = record {
    now = found_outside (merged_globals W) (merged_funcs W) now_name;
    choice = free_name choice_name refl choice_apart (λ x. kept-own 99 [] x refl refl) refl;
    transform = start_found (func_named W.xform.funcs transform) refl h;
  }
