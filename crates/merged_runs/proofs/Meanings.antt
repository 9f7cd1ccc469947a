-- What the names of frames stand for is found where their homes say.
use Rattle.std.proofs.Common.{◌≡◌, Bool, true, false, if◌then◌else◌, Option, Some, None, is_some, refl, sym, ap, ◌∙◌, subst, codes, ◌⊎◌, inl, inr}
use Rattle.std.specs.Str.{bytes_eq}
use Rattle.c_lang.specs.Names.{Bytes, behind}
use Rattle.c_lang.specs.Programs.{func_named, global_named}
use Rattle.c_lang.specs.declared.program.GlobalVar.{GlobalVar}
use Rattle.version_names.specs.Links as links
use Rattle.version_names.specs.Links.{both_alike, same_shape, same_head, is_shared_cell, is_shared_code, cell_part, code_part}
use Rattle.version_names.specs.Version.{Version}
use Rattle.version_names.specs.Version as version
use Rattle.version_names.specs.Home.{Home, Linked, same_home}
use Rattle.version_names.specs.Home as home
use Rattle.version_names.specs.Provenance.{Provenance}
use Rattle.version_names.specs.Provenance as origin
use Rattle.update_semantics.specs.UpdatingRun.{World, old_or_new, linked_by_prefix, client_funcs, cell_meaning, function_meaning}
use Rattle.merged_program.proofs.MergedNames.{to_false, by_bool, true_false, same_names, same_home-is}

pub alike_some : {X : Type 0} (same : X → X → Bool) (a b : Option X) → both_alike same a b ≡ true → (is_some a ≡ true) × (is_some b ≡ true)
alike_some same (Some x) (Some y) h = (refl, refl)
alike_some same (Some x) None h = absurd cc
alike_some same None b h = absurd cc

module _ (part : Version → Bytes → Home) where
  -- a name stands where its home says, and one that is linked nowhere isn't shared
  abbrev pub IsFound : Linked → Type 0
  IsFound (home.Both, x) = part version.Old x ≡ home.Both
  IsFound (home.Old, x) = part version.Old x ≡ home.Old
  IsFound (home.New, x) = part version.New x ≡ home.New
  IsFound (home.Xform, x) = Unit {0}
  IsFound (home.Client, x) = Unit {0}
  IsFound (home.Unlinked, x) = same_home (part version.Old x) home.Both ≡ false

  old_or_new-found : (x : Bytes) → same_home (part version.Old x) home.Both ≡ false → (a b : Option Bytes) → IsFound (old_or_new part x a b)
  old_or_new-found x h (Some y) b = by_bool (same_home (part version.Old y) home.Old)
      (λ k. subst IsFound (sym (ap (λ c. if c then (home.Old, y) else (home.Unlinked, x)) k)) (same_home-is (part version.Old y) home.Old k))
      (λ k. subst IsFound (sym (ap (λ c. if c then (home.Old, y) else (home.Unlinked, x)) k)) h)
  old_or_new-found x h None (Some y) = by_bool (same_home (part version.New y) home.New)
      (λ k. subst IsFound (sym (ap (λ c. if c then (home.New, y) else (home.Unlinked, x)) k)) (same_home-is (part version.New y) home.New k))
      (λ k. subst IsFound (sym (ap (λ c. if c then (home.New, y) else (home.Unlinked, x)) k)) h)
  old_or_new-found x h None None = h

  prefix-found : (x : Bytes) → IsFound (linked_by_prefix part x)
  prefix-found x = by_bool (same_home (part version.Old x) home.Both)
      (λ h. subst IsFound (sym (ap (λ c. if c then (home.Both, x) else other) h)) (same_home-is (part version.Old x) home.Both h))
      (λ h. subst IsFound (sym (ap (λ c. if c then (home.Both, x) else other) h)) (old_or_new-found x h (behind (codes "dsu_old_") x) (behind (codes "dsu_new_") x)))
    where
      other : Linked
      other = old_or_new part x (behind (codes "dsu_old_") x) (behind (codes "dsu_new_") x)

  version-found : (x : Bytes) (in_old in_new shared : Bool) → (shared ≡ true → in_old ≡ true) → (shared ≡ true → in_new ≡ true)
      → part version.Old x ≡ links.part version.Old in_old shared → part version.New x ≡ links.part version.New in_new shared
      → (v : Version) → IsFound (part v x, x)
  version-found x true true true h k old new version.Old = subst (λ p. IsFound (p, x)) (sym old) old
  version-found x true true true h k old new version.New = subst (λ p. IsFound (p, x)) (sym new) old
  version-found x false in_new true h k old new v = absurd (true_false (sym (h refl)))
  version-found x true false true h k old new v = absurd (true_false (sym (k refl)))
  version-found x true in_new false h k old new version.Old = subst (λ p. IsFound (p, x)) (sym old) old
  version-found x false in_new false h k old new version.Old = subst (λ p. IsFound (p, x)) (sym old) (ap (λ p. same_home p home.Both) old)
  version-found x in_old true false h k old new version.New = subst (λ p. IsFound (p, x)) (sym new) new
  version-found x true false false h k old new version.New = subst (λ p. IsFound (p, x)) (sym new) (ap (λ p. same_home p home.Both) old)
  version-found x false false false h k old new version.New = subst (λ p. IsFound (p, x)) (sym new) (ap (λ p. same_home p home.Both) old)

-- ---- in a world

module _ (W : World) where
  pub shared_cell-in : (x : Bytes) → is_shared_cell W.first W.second x ≡ true
      → (is_some (global_named W.first.globals x) ≡ true) × (is_some (global_named W.second.globals x) ≡ true)
  shared_cell-in x = alike_some (λ (g h : GlobalVar). same_shape g.shape h.shape) (global_named W.first.globals x) (global_named W.second.globals x)

  pub shared_code-in : (f : Bytes) → is_shared_code W.first W.second f ≡ true
      → (is_some (func_named W.first.funcs f) ≡ true) × (is_some (func_named W.second.funcs f) ≡ true)
  shared_code-in f = alike_some same_head (func_named W.first.funcs f) (func_named W.second.funcs f)

  abbrev pub IsFoundCell : Linked → Type 0
  IsFoundCell = IsFound (cell_part W.first W.second)

  abbrev pub IsFoundCode : Linked → Type 0
  IsFoundCode = IsFound (code_part W.first W.second)

  version_cell : (x : Bytes) (v : Version) → IsFoundCell (cell_part W.first W.second v x, x)
  version_cell x = version-found (cell_part W.first W.second) x
      (is_some (global_named W.first.globals x)) (is_some (global_named W.second.globals x)) (is_shared_cell W.first W.second x)
      (λ h. (shared_cell-in x h).0) (λ h. (shared_cell-in x h).1) refl refl

  version_code : (f : Bytes) (v : Version) → IsFoundCode (code_part W.first W.second v f, f)
  version_code f = version-found (code_part W.first W.second) f
      (is_some (func_named W.first.funcs f)) (is_some (func_named W.second.funcs f)) (is_shared_code W.first W.second f)
      (λ h. (shared_code-in f h).0) (λ h. (shared_code-in f h).1) refl refl

  pub cell-found : (o : Provenance) (x : Bytes) → IsFoundCell (cell_meaning W o x) ⊎ (cell_meaning W o x ≡ (home.Unlinked, x))
  cell-found origin.Old x = inl (version_cell x version.Old)
  cell-found origin.New x = inl (version_cell x version.New)
  cell-found origin.Xform x = inl (prefix-found (cell_part W.first W.second) x)
  cell-found origin.Client x = inr refl

  own_or_linked : (b : Bool) (own linked : Linked) → IsFoundCode own → IsFoundCode linked → IsFoundCode (if b then own else linked)
  own_or_linked true own linked h k = h
  own_or_linked false own linked h k = k

  pub function-found : (o : Provenance) (f : Bytes) → IsFoundCode (function_meaning W o f)
  function-found origin.Old f = version_code f version.Old
  function-found origin.New f = version_code f version.New
  function-found origin.Xform f =
      own_or_linked (is_some (func_named W.xform.funcs f)) (home.Xform, f) _ tt (prefix-found (code_part W.first W.second) f)
  function-found origin.Client f =
      own_or_linked (is_some (func_named (client_funcs W) f)) (home.Client, f) _ tt (prefix-found (code_part W.first W.second) f)

  -- a name that isn't shared is none that is
  pub not_shared : (f g : Bytes) → is_shared_code W.first W.second f ≡ true → same_home (code_part W.first W.second version.Old g) home.Both ≡ false → bytes_eq f g ≡ false
  not_shared f g shared apart = to_false (bytes_eq f g) (λ e.
      true_false (sym (both (is_some (func_named W.first.funcs f)) (is_shared_code W.first W.second f) (shared_code-in f shared).0 shared)
      ∙ ap (λ x. same_home (code_part W.first W.second version.Old x) home.Both) (same_names f g e) ∙ apart))
    where
      both : (has shared : Bool) → has ≡ true → shared ≡ true → same_home (links.part version.Old has shared) home.Both ≡ true
      both true true h k = refl
      both true false h k = absurd cc
      both false shared h k = absurd cc
