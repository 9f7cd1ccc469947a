-- What is visible in a client, entry by entry.
use Rattle.std.proofs.Common.{◌≡◌, ℕ, Bool, true, false, if◌then◌else◌, List, [], ◌∷◌, map, Some, None, refl, ap, ◌∙◌}
use Rattle.c_lang.specs.Names.{Bytes}
use Rattle.c_lang.specs.Programs.{func_named}
use Rattle.c_lang.specs.declared.program.Func.{Func}
use Rattle.c_types.specs.Names.{Refused, Entries, found, added}
use Rattle.c_types.specs.Functions.{means_of_func}
use Rattle.c_types.specs.Programs.{with_func, with_funcs}
use Rattle.version_names.specs.Parts.{Parts}
use Rattle.version_names.specs.declared.part.Version.TheVariants as v
use Rattle.version_names.specs.declared.part.Sort2.TheVariants as sort
use Rattle.client_specs.specs.Visible.{is_both, with_shared, with_barred}
use Rattle.merged_program.proofs.MergedNames.{bytes_eq-sym}
use Rattle.merged_program.proofs.AddedNames.{added_none}
use Rattle.merged_types.proofs.PlainPrograms.{Each}
use Rattle.merged_types.proofs.VisibleNames.{IsKeptEntry, AllKept, kept_added}

-- ---- names that nothing is found for

pub barred_none : (n : ℕ) (es : Entries) (xs : List Bytes) (z : Bytes) → found (with_barred n es xs) z ≡ None → found es z ≡ None
barred_none n es [] z h = h
barred_none n es (x ∷ xs) z h = (added_none es x (Refused n) z (barred_none n (added es x (Refused n)) xs z h)).0

-- no function whose name may not be used has this name
pub barred_funcs : (n : ℕ) (es : Entries) (fs : List Func) (z : Bytes) → found (with_barred n es (map (λ (f : Func). f.name) fs)) z ≡ None → func_named fs z ≡ None
barred_funcs n es [] z h = refl
barred_funcs n es (f ∷ fs) z h =
    let here = added_none es f.name (Refused n) z (barred_none n (added es f.name (Refused n)) (map (λ (f : Func). f.name) fs) z h) in
    ap (λ (b : Bool). if b then Some f else func_named fs z) (bytes_eq-sym f.name z ∙ here.1) ∙ barred_funcs n (added es f.name (Refused n)) fs z h

-- ---- entries that are kept under other names

module _ (ρ κ : Bytes → Bytes) (outside : Entries) where
  pub kept_barred : (n : ℕ) (es : Entries) (xs : List Bytes) → AllKept ρ κ outside es → AllKept ρ κ outside (with_barred n es xs)
  kept_barred n es [] h = h
  kept_barred n es (x ∷ xs) h = kept_barred n (added es x (Refused n)) xs (kept_added ρ κ outside es x (Refused n) h (tt, tt))

  abbrev pub IsKeptFunc : Func → Type 0
  IsKeptFunc f = IsKeptEntry ρ κ outside f.name (Some (means_of_func f))

  pub kept_funcs : (es : Entries) (fs : List Func) → AllKept ρ κ outside es → Each IsKeptFunc fs → AllKept ρ κ outside (with_funcs es fs)
  kept_funcs es [] h k = h
  kept_funcs es (f ∷ fs) h k = kept_funcs (with_func es f) fs (kept_added ρ κ outside es f.name (means_of_func f) h k.0) k.1

  pub kept_shared : (parts : Parts) (es : Entries) (fs : List Func) → AllKept ρ κ outside es
      → Each (λ (f : Func). is_both (parts v.Old sort.Code f.name) ≡ true → IsKeptFunc f) fs → AllKept ρ κ outside (with_shared parts es fs)
  kept_shared parts es [] h k = h
  kept_shared parts es (f ∷ fs) h k = kept_shared parts (if is_both (parts v.Old sort.Code f.name) then with_func es f else es) fs
      (by_test (is_both (parts v.Old sort.Code f.name)) k.0) k.1
    where
      by_test : (b : Bool) → (b ≡ true → IsKeptFunc f) → AllKept ρ κ outside (if b then with_func es f else es)
      by_test true g = kept_added ρ κ outside es f.name (means_of_func f) h (g refl)
      by_test false g = h
