-- What is visible in a transformer, entry by entry.
use Rattle.std.proofs.Common.{◌≡◌, ℕ, cond, Bool, true, false, List, [], ◌∷◌, Option, Some, None, is_some, sym, ap, ◌∙◌, subst}
use Rattle.std.specs.Prelude.{⊤, if◌then◌else◌}
use Rattle.std.specs.Option.{option_or}
use Rattle.std.specs.Str.{bytes_eq}
use Rattle.c_lang.specs.Names.{Bytes}
use Rattle.c_lang.specs.Programs.{global_named, func_named}
use Rattle.c_lang.specs.declared.program.GlobalVar.{GlobalVar}
use Rattle.c_lang.specs.declared.program.Func.{Func}
use Rattle.c_types.specs.Names.{Means, Refused, Entries, found, added}
use Rattle.c_types.specs.Programs.{means_of_shape}
use Rattle.c_lang.specs.Refusals as refused
use Rattle.version_names.specs.Merged.{merged_name}
use Rattle.version_names.specs.declared.part.Origin.{Origin}
use Rattle.version_names.specs.declared.part.Origin.TheVariants as prefix
use Rattle.version_names.specs.declared.part.Version.{Version}
use Rattle.version_names.specs.declared.part.Part.{Part}
use Rattle.version_names.specs.declared.part.Part.TheVariants.{Both, Old, New}
use Rattle.version_names.specs.declared.part.Sort2.TheVariants as sort
use Rattle.state_xform.specs.Visible.{version_func, with_prefixed, with_part, with_cells, with_codes}
use Rattle.c_types.specs.Beside.{own_func, with_own_funcs}
use Rattle.version_names.specs.Parts.{Parts}
use Rattle.merged_program.proofs.MergedNames.{by_bool, same_names}
use Rattle.merged_program.proofs.AddedNames.{one, found_added, added_none}
use Rattle.merged_types.proofs.Carrying.{IsKeptCell, IsKeptCode}
use Rattle.merged_types.proofs.PlainPrograms.{Each}

-- ---- names that nothing is found for

-- the name isn't one under which a part is seen
abbrev pub IsNot : Option Part → Bytes → Bytes → Type 0
IsNot (Some Both) z y = bytes_eq z y ≡ false
IsNot (Some Old) z y = bytes_eq z (merged_name prefix.Old y) ≡ false
IsNot (Some New) z y = bytes_eq z (merged_name prefix.New y) ≡ false
IsNot None z y = ⊤

part_nothing : (o : Option Part) (es : Entries) (y : Bytes) (m : Means) (z : Bytes) → found (with_part o es y m) z ≡ None → (found es z ≡ None) × IsNot o z y
part_nothing (Some Both) es y m z h = added_none es y m z h
part_nothing (Some Old) es y m z h =
    added_none es (merged_name prefix.Old y) m z (added_none (added es (merged_name prefix.Old y) m) y (Refused refused.unknown) z h).0
part_nothing (Some New) es y m z h =
    added_none es (merged_name prefix.New y) m z (added_none (added es (merged_name prefix.New y) m) y (Refused refused.unknown) z h).0
part_nothing None es y m z h = (h, tt)

module _ (parts : Parts) (v : Version) (z : Bytes) where
  pub cells_nothing : (es : Entries) (gs : List GlobalVar) → found (with_cells parts v es gs) z ≡ None
      → (found es z ≡ None) × ((y : Bytes) → is_some (global_named gs y) ≡ true → IsNot (parts v sort.Cell y) z y)
  cells_nothing es [] h = (h, λ y s. absurd cc)
  cells_nothing es (g ∷ gs) h =
      let rest = cells_nothing (with_part (parts v sort.Cell g.name) es g.name (means_of_shape g.shape)) gs h in
      let here = part_nothing (parts v sort.Cell g.name) es g.name (means_of_shape g.shape) z rest.0 in (
        here.0,
        λ y s. by_bool (bytes_eq g.name y)
            (λ e. subst (λ (x : Bytes). IsNot (parts v sort.Cell x) z x) (same_names g.name y e) here.1)
            (λ e. rest.1 y (sym (ap (λ (b : Bool). is_some (if b then Some g else global_named gs y)) e) ∙ s)),
      )

  pub codes_nothing : (es : Entries) (fs : List Func) → found (with_codes parts v es fs) z ≡ None
      → (found es z ≡ None) × ((y : Bytes) → is_some (func_named fs y) ≡ true → IsNot (parts v sort.Code y) z y)
  codes_nothing es [] h = (h, λ y s. absurd cc)
  codes_nothing es (f ∷ fs) h =
      let rest = codes_nothing (with_part (parts v sort.Code f.name) es f.name (version_func f)) fs h in
      let here = part_nothing (parts v sort.Code f.name) es f.name (version_func f) z rest.0 in (
        here.0,
        λ y s. by_bool (bytes_eq f.name y)
            (λ e. subst (λ (x : Bytes). IsNot (parts v sort.Code x) z x) (same_names f.name y e) here.1)
            (λ e. rest.1 y (sym (ap (λ (b : Bool). is_some (if b then Some f else func_named fs y)) e) ∙ s)),
      )

-- ---- entries that are kept under other names

module _ (ρ κ : Bytes → Bytes) (outside : Entries) where
  abbrev pub IsKeptEntry : Bytes → Option Means → Type 0
  IsKeptEntry x None = ⊤
  IsKeptEntry x (Some m) = IsKeptCell (Some m) (found outside (ρ x)) × IsKeptCode (Some m) (found outside (κ x))

  abbrev pub AllKept : Entries → Type 0
  AllKept es = (x : Bytes) → IsKeptEntry x (found es x)

  pub kept_added : (es : Entries) (y : Bytes) (m : Means) → AllKept es → IsKeptEntry y (Some m) → AllKept (added es y m)
  kept_added es y m h k x = subst (IsKeptEntry x) (sym (found_added es x y m)) (by_case (found es x) (h x))
    where
      by_case : (o : Option Means) → IsKeptEntry x o → IsKeptEntry x (option_or o (one x y m))
      by_case (Some n) e = e
      by_case None e = by_bool (bytes_eq x y)
          (λ q. subst (λ (b : Bool). IsKeptEntry x (cond b (Some m) None)) (sym q) (subst (λ (z : Bytes). IsKeptEntry z (Some m)) (sym (same_names x y q)) k))
          (λ q. subst (λ (b : Bool). IsKeptEntry x (cond b (Some m) None)) (sym q) tt)

  -- under the name that a part is seen by
  abbrev pub IsKeptPart : Option Part → Bytes → Means → Type 0
  IsKeptPart (Some Both) x m = IsKeptEntry x (Some m)
  IsKeptPart (Some Old) x m = IsKeptEntry (merged_name prefix.Old x) (Some m)
  IsKeptPart (Some New) x m = IsKeptEntry (merged_name prefix.New x) (Some m)
  IsKeptPart None x m = ⊤

  kept_prefixed : (o : Origin) (es : Entries) (x : Bytes) (m : Means) → AllKept es → IsKeptEntry (merged_name o x) (Some m) → AllKept (with_prefixed o es x m)
  kept_prefixed o es x m h k = kept_added (added es (merged_name o x) m) x (Refused refused.unknown) (kept_added es (merged_name o x) m h k) (tt, tt)

  kept_part : (o : Option Part) (es : Entries) (x : Bytes) (m : Means) → AllKept es → IsKeptPart o x m → AllKept (with_part o es x m)
  kept_part (Some Both) es x m h k = kept_added es x m h k
  kept_part (Some Old) es x m h k = kept_prefixed prefix.Old es x m h k
  kept_part (Some New) es x m h k = kept_prefixed prefix.New es x m h k
  kept_part None es x m h k = h

  pub kept_own : (denied : Option ℕ) (es : Entries) (fs : List Func) → AllKept es → Each (λ (f : Func). IsKeptEntry f.name (Some (own_func denied f))) fs → AllKept (with_own_funcs denied es fs)
  kept_own denied es [] h k = h
  kept_own denied es (f ∷ fs) h k = kept_own denied (added es f.name (own_func denied f)) fs (kept_added es f.name (own_func denied f) h k.0) k.1

  module _ (parts : Parts) (v : Version) where
    pub kept_cells : (es : Entries) (gs : List GlobalVar) → AllKept es → Each (λ (g : GlobalVar). IsKeptPart (parts v sort.Cell g.name) g.name (means_of_shape g.shape)) gs
        → AllKept (with_cells parts v es gs)
    kept_cells es [] h k = h
    kept_cells es (g ∷ gs) h k =
        kept_cells (with_part (parts v sort.Cell g.name) es g.name (means_of_shape g.shape)) gs
        (kept_part (parts v sort.Cell g.name) es g.name (means_of_shape g.shape) h k.0) k.1

    pub kept_codes : (es : Entries) (fs : List Func) → AllKept es → Each (λ (f : Func). IsKeptPart (parts v sort.Code f.name) f.name (version_func f)) fs
        → AllKept (with_codes parts v es fs)
    kept_codes es [] h k = h
    kept_codes es (f ∷ fs) h k =
        kept_codes (with_part (parts v sort.Code f.name) es f.name (version_func f)) fs
        (kept_part (parts v sort.Code f.name) es f.name (version_func f) h k.0) k.1
