-- What a client may name before the swap: each name that its resolved form has for a function of the old version, of
-- both versions, or of its own.
use Rattle.std.proofs.Common.{◌≡◌, ℕ, nat_eq, Bool, true, false, if◌then◌else◌, drop, Option, Some, None, is_some, refl, sym, ap, ◌∙◌, subst, codes}
use Rattle.std.specs.List.{starts_with}
use Rattle.c_lang.specs.Names.{Bytes, behind}
use Rattle.c_lang.specs.Programs.{func_named}
use Rattle.c_lang.specs.declared.unit.Unit.TheVariants as unit
use Rattle.c_lang.specs.declared.program.Program.{Program}
use Rattle.c_grammar.specs.Words.{is_allowed, is_refused}
use Rattle.c_grammar.specs.Scopes.{temporary}
use Rattle.written_laws.specs.SourceNames.{IsWord, IsName, word, made}
use Rattle.version_names.specs.Links as links
use Rattle.version_names.specs.Links.{is_shared_code, code_part}
use Rattle.version_names.specs.Merged.{merged_name}
use Rattle.version_names.specs.Version as version
use Rattle.version_names.specs.Home.{Linked, same_home}
use Rattle.version_names.specs.Home as home
use Rattle.version_names.specs.Parts.{part_at, part_of}
use Rattle.version_names.specs.declared.part.Origin.TheVariants as prefix
use Rattle.version_names.specs.declared.part.Version.TheVariants as v
use Rattle.version_names.specs.declared.part.Sort2.TheVariants as sort
use Rattle.client_specs.specs.Spelled.{spelled_by}
use Rattle.update_semantics.specs.UpdatingRun.{World, client_funcs, code_of, old_or_new, linked_by_prefix}
use Rattle.merged_program.proofs.MergedNames.{by_bool, true_false, behind_prefix}
use Rattle.merged_runs.proofs.Relation.{can_stand, MayName}

-- ---- no name of a client's text is one of the new version alone

-- a name without the new version's prefix
abbrev pub IsPlain : Bytes → Type 0
IsPlain x = behind (codes "dsu_new_") x ≡ None

refused_new : (x : Bytes) → starts_with nat_eq x (codes "dsu_new_") ≡ true → is_refused unit.Client x ≡ true
unfolding is_allowed
refused_new x h = subst (λ (y : Bytes). is_refused unit.Client y ≡ true) (behind_prefix x (codes "dsu_new_") h) refl

pub word_plain : (x : Bytes) → IsWord unit.Client x → IsPlain x
word_plain x h = by_bool (starts_with nat_eq x (codes "dsu_new_"))
    (λ e. absurd (true_false (sym (refused_new x e) ∙ h.allowed)))
    (λ e. ap (λ (b : Bool). if b then Some (drop 8 x) else None) e)

temporary_plain : (n : ℕ) → IsPlain (temporary n)
unfolding temporary
temporary_plain n = refl

pub name_plain : (x : Bytes) → IsName unit.Client x → IsPlain x
name_plain x (word h) = word_plain x h
name_plain x (made n is) = subst IsPlain (sym is) (temporary_plain n)

-- ---- such a name stands for no function of the new version alone

module _ (W : World) where
  abbrev Stands : Linked → Type 0
  Stands k = can_stand version.Old (code_of W version.Old k).0 ≡ true

  chosen : (b : Bool) (k l : Linked) → Stands k → Stands l → Stands (if b then k else l)
  chosen true k l h m = h
  chosen false k l h m = m

  prefixed : (x : Bytes) (old new : Option Bytes) → new ≡ None → Stands (old_or_new (code_part W.first W.second) x old new)
  prefixed x (Some y) new e = chosen (same_home (code_part W.first W.second version.Old y) home.Old) (home.Old, y) (home.Unlinked, x) refl refl
  prefixed x None None e = refl
  prefixed x None (Some y) e = absurd cc

  pub may_name : (x : Bytes) → IsPlain x → MayName W x
  may_name x plain =
      let other = old_or_new (code_part W.first W.second) x (behind (codes "dsu_old_") x) (behind (codes "dsu_new_") x) in
      chosen (is_some (func_named (client_funcs W) x)) (home.Client, x) (linked_by_prefix (code_part W.first W.second) x) refl
      (chosen (same_home (code_part W.first W.second version.Old x) home.Both) (home.Both, x) other refl
      (prefixed x (behind (codes "dsu_old_") x) (behind (codes "dsu_new_") x) plain))

  -- spelled where the old version's functions are called
  module _ (first second : Program) (x : Bytes) (plain : IsPlain x) where
    by_part : (has shared : Bool) → MayName W (spelled_by (part_at (links.part version.Old has shared)) x)
    by_part true true = may_name x plain
    by_part true false = may_name (merged_name prefix.Old x) refl
    by_part false shared = may_name x plain

    pub spelled_may : MayName W (spelled_by (part_of first second v.Old sort.Code x) x)
    spelled_may = by_part (is_some (func_named first.funcs x)) (is_shared_code first second x)
