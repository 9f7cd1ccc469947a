-- What names with and without a version's prefix are linked to.
use Rattle.std.proofs.Common.{◌≡◌, nat_eq, Bool, true, false, if◌then◌else◌, drop, Some, None, ap, ap₂, ◌∙◌, codes}
use Rattle.std.specs.List.{starts_with}
use Rattle.c_lang.specs.Names.{Bytes, behind}
use Rattle.version_names.specs.Merged.{merged_name}
use Rattle.version_names.specs.Version.{Version}
use Rattle.version_names.specs.Version as version
use Rattle.version_names.specs.Home.{Home, Linked, same_home}
use Rattle.version_names.specs.Home as home
use Rattle.version_names.specs.declared.part.Origin.TheVariants as prefix
use Rattle.update_semantics.specs.UpdatingRun.{old_or_new, linked_by_prefix}
use Rattle.merged_program.proofs.MergedNames.{by_bool, behind_prefix}

module _ (part : Version → Bytes → Home) where
  pub linked_both : (x : Bytes) → same_home (part version.Old x) home.Both ≡ true → linked_by_prefix part x ≡ (home.Both, x)
  linked_both x h = ap (λ (b : Bool). if b then (home.Both, x) else old_or_new part x (behind (codes "dsu_old_") x) (behind (codes "dsu_new_") x)) h

  pub linked_old : (x : Bytes) → same_home (part version.Old (merged_name prefix.Old x)) home.Both ≡ false → same_home (part version.Old x) home.Old ≡ true
      → linked_by_prefix part (merged_name prefix.Old x) ≡ (home.Old, x)
  linked_old x h k =
      ap₂ (λ (b c : Bool). if b then (home.Both, merged_name prefix.Old x) else (if c then (home.Old, x) else (home.Unlinked, merged_name prefix.Old x))) h k

  pub linked_new : (x : Bytes) → same_home (part version.Old (merged_name prefix.New x)) home.Both ≡ false → same_home (part version.New x) home.New ≡ true
      → linked_by_prefix part (merged_name prefix.New x) ≡ (home.New, x)
  linked_new x h k =
      ap₂ (λ (b c : Bool). if b then (home.Both, merged_name prefix.New x) else (if c then (home.New, x) else (home.Unlinked, merged_name prefix.New x))) h k

  abbrev tested : Bytes → Bool → Bool → Bool → Linked
  tested x both old new =
      if both then (home.Both, x)
      else old_or_new part x (if old then Some (drop 8 x) else None) (if new then Some (drop 8 x) else None)

  -- a name that no version has under it
  pub linked_nowhere : (x : Bytes) → same_home (part version.Old x) home.Both ≡ false
      → ((y : Bytes) → merged_name prefix.Old y ≡ x → same_home (part version.Old y) home.Old ≡ false)
      → ((y : Bytes) → merged_name prefix.New y ≡ x → same_home (part version.New y) home.New ≡ false)
      → linked_by_prefix part x ≡ (home.Unlinked, x)
  linked_nowhere x both old new =
      ap (λ (b : Bool). tested x b (starts_with nat_eq x (codes "dsu_old_")) (starts_with nat_eq x (codes "dsu_new_"))) both
      ∙ by_bool (starts_with nat_eq x (codes "dsu_old_"))
      (λ h. ap (λ (b : Bool). tested x false b (starts_with nat_eq x (codes "dsu_new_"))) h
      ∙ ap (λ (b : Bool). if b then (home.Old, drop 8 x) else (home.Unlinked, x)) (old (drop 8 x) (behind_prefix x (codes "dsu_old_") h)))
      (λ h. ap (λ (b : Bool). tested x false b (starts_with nat_eq x (codes "dsu_new_"))) h
      ∙ by_bool (starts_with nat_eq x (codes "dsu_new_"))
      (λ k. ap (λ (b : Bool). tested x false false b) k
      ∙ ap (λ (b : Bool). if b then (home.New, drop 8 x) else (home.Unlinked, x)) (new (drop 8 x) (behind_prefix x (codes "dsu_new_") k)))
      (λ k. ap (λ (b : Bool). tested x false false b) k))
