-- A name that no version has stands nowhere.
use Rattle.std.proofs.Common.{◌≡◌, Bool, false, ◌||◌, None, is_some, refl}
use Rattle.c_lang.specs.Names.{Bytes}
use Rattle.c_types.proofs.Combined.{not_some, either_false}
use Rattle.version_names.specs.Parts.{Parts, in_version}
use Rattle.version_names.specs.declared.part.Version.{Version}
use Rattle.version_names.specs.declared.part.Version.TheVariants as version
use Rattle.version_names.specs.declared.part.Sort2.{Sort2}
use Rattle.version_names.specs.declared.part.Sort2.TheVariants as sort

module _ (parts : Parts) where
  abbrev stands : Version → Sort2 → Bytes → Bool
  stands v s x = is_some (parts v s x)

  pub nowhere : (x : Bytes) → in_version parts x ≡ false → (v : Version) (s : Sort2) → parts v s x ≡ None
  nowhere x h = by
    where
      old : ((stands version.Old sort.Cell x || stands version.Old sort.Code x) ≡ false) × (stands version.New sort.Cell x ≡ false)
      old = either_false _ _ (either_false ((stands version.Old sort.Cell x || stands version.Old sort.Code x) || stands version.New sort.Cell x) (stands version.New sort.Code x) h).0

      by : (v : Version) (s : Sort2) → parts v s x ≡ None
      by version.Old sort.Cell = not_some _ (either_false (stands version.Old sort.Cell x) (stands version.Old sort.Code x) old.0).0
      by version.Old sort.Code = not_some _ (either_false (stands version.Old sort.Cell x) (stands version.Old sort.Code x) old.0).1
      by version.New sort.Cell = not_some _ old.1
      by version.New sort.Code = not_some _ (either_false ((stands version.Old sort.Cell x || stands version.Old sort.Code x) || stands version.New sort.Cell x) (stands version.New sort.Code x) h).1

  pub no_version : (x : Bytes) → ((v : Version) (s : Sort2) → parts v s x ≡ None) → in_version parts x ≡ false
  no_version x h = rw (h version.Old sort.Cell, h version.Old sort.Code, h version.New sort.Cell, h version.New sort.Code) refl
