-- The names of a merged program are apart from each other.
use Rattle.std.proofs.Common.{◌≡◌, ℕ, Bool, true, false, not, ◌&&◌, if◌then◌else◌, ◌==◌, nat_eq, [], ◌∷◌, ◌++◌, length, take, drop, Some, None, refl, sym, ap, ap₂, ◌∙◌, codes}
use Rattle.std.specs.List.{starts_with}
use Rattle.std.specs.Str.{bytes_eq}
use Rattle.std.proofs.lemmas.Slice.Eq.{bytes_eq-Decides}
use Rattle.std.proofs.lemmas.List.{take-append-drop}
use Rattle.c_lang.specs.Names.{Bytes, is_reserved, behind}
use Rattle.c_types.proofs.Combined.{both_true}
use Rattle.version_names.specs.Version.{Version}
use Rattle.version_names.specs.Version as version
use Rattle.version_names.specs.Home.{Home, Linked, same_home, same_linked}
use Rattle.version_names.specs.Home as home
use Rattle.version_names.specs.Provenance.{Provenance}
use Rattle.version_names.specs.Provenance as origin
use Rattle.version_names.specs.Links.{cell_part}
use Rattle.update_semantics.specs.UpdatingRun.{World, old_or_new, linked_by_prefix, cell_meaning}
use Rattle.merged_program.specs.Names.{now_name, choice_name, is_foreign, kept_name, cell_name, code_name, variable_name}

-- ---- tests

pub by_bool : {A : Type 0} (b : Bool) → (b ≡ true → A) → (b ≡ false → A) → A
by_bool true f g = f refl
by_bool false f g = g refl

pub true_false : true ≡ false → ⊥
true_false e = absurd cc

pub to_false : (b : Bool) → (b ≡ true → ⊥) → b ≡ false
to_false true h = absurd (h refl)
to_false false h = refl

pub same_names : (x y : Bytes) → bytes_eq x y ≡ true → x ≡ y
same_names x y h = (bytes_eq-Decides x y).0 h

pub bytes_eq-refl : (x : Bytes) → bytes_eq x x ≡ true
bytes_eq-refl x = (bytes_eq-Decides x x).1 refl

pub bytes_eq-sym : (x y : Bytes) → bytes_eq x y ≡ bytes_eq y x
bytes_eq-sym x y = by_cases (bytes_eq x y) refl
  where
    by_cases : (b : Bool) → bytes_eq x y ≡ b → b ≡ bytes_eq y x
    by_cases true e = sym ((bytes_eq-Decides y x).1 (sym (same_names x y e)))
    by_cases false e = sym (to_false (bytes_eq y x) (λ h. let t : bytes_eq x y ≡ true = (bytes_eq-Decides x y).1 (sym (same_names y x h)) in let f : true ≡ false = sym t ∙ e in absurd cc))

-- what stands behind a prefix
pub behind_prefix : (x prefix : Bytes) → starts_with nat_eq x prefix ≡ true → prefix ++ drop (length prefix) x ≡ x
behind_prefix x prefix h =
    ap (λ (p : Bytes). p ++ drop (length prefix) x) (same_names prefix (take (length prefix) x) h) ∙ take-append-drop (length prefix) x

-- ---- kept names

-- `dsu_` and one more byte, then anything
abbrev pub own : ℕ → Bytes → Bytes
own c z = codes "dsu_" ++ c ∷ z

kept-foreign : (x : Bytes) → is_foreign x ≡ true → kept_name x ≡ codes "dsu_" ++ x
kept-foreign x h = ap (λ b. if b then codes "dsu_" ++ x else x) h

kept-free : (x : Bytes) → is_foreign x ≡ false → kept_name x ≡ x
kept-free x h = ap (λ b. if b then codes "dsu_" ++ x else x) h

foreign-reserved : (a b : Bool) → a && b ≡ true → a ≡ true
foreign-reserved true b h = refl
foreign-reserved false b h = h

-- a foreign name begins with `dsu_`
abbrev foreign_rest : Bytes → Bytes
foreign_rest x = drop 4 x

foreign-is : (x : Bytes) → is_foreign x ≡ true → codes "dsu_" ++ foreign_rest x ≡ x
foreign-is x h = behind_prefix x (codes "dsu_") (foreign-reserved (is_reserved x) (not (starts_with nat_eq x (codes "dsu_t"))) h)

-- where the byte behind `dsu_` isn't `t`, the name is foreign
own-foreign : (c : ℕ) (z : Bytes) → (116 == c) ≡ false → is_foreign (own c z) ≡ true
own-foreign c z h = ap (λ b. not (b && true)) h

-- such a name is apart from every kept one, where the byte isn't `d` either
pub own-kept : (c : ℕ) (z x : Bytes) → (116 == c) ≡ false → (c == 100) ≡ false → bytes_eq (own c z) (kept_name x) ≡ false
own-kept c z x not_t not_d = by_bool (is_foreign x)
    (λ h. ap (bytes_eq (own c z)) (kept-foreign x h ∙ ap (λ (y : Bytes). codes "dsu_" ++ y) (sym (foreign-is x h)))
    ∙ ap (λ b. b && bytes_eq z (codes "su_" ++ foreign_rest x)) not_d)
    (λ h. to_false (bytes_eq (own c z) (kept_name x)) (λ e.
    let same : own c z ≡ x = same_names (own c z) (kept_name x) e ∙ kept-free x h in
    true_false (sym (own-foreign c z not_t) ∙ ap is_foreign same ∙ h)))

pub kept-own : (c : ℕ) (z x : Bytes) → (116 == c) ≡ false → (c == 100) ≡ false → bytes_eq (kept_name x) (own c z) ≡ false
kept-own c z x not_t not_d = bytes_eq-sym (kept_name x) (own c z) ∙ own-kept c z x not_t not_d

-- a foreign name with a further `dsu_` is foreign
twice-foreign : (x : Bytes) → is_foreign x ≡ true → is_foreign (codes "dsu_" ++ x) ≡ true
twice-foreign x h = ap (λ (y : Bytes). is_foreign (codes "dsu_" ++ y)) (sym (foreign-is x h))

kept-mixed : (x y : Bytes) → is_foreign x ≡ true → is_foreign y ≡ false → bytes_eq (kept_name x) (kept_name y) ≡ bytes_eq x y
kept-mixed x y h k =
    to_false (bytes_eq (kept_name x) (kept_name y)) (λ e.
    let same : codes "dsu_" ++ x ≡ y = sym (kept-foreign x h) ∙ same_names (kept_name x) (kept_name y) e ∙ kept-free y k in
    true_false (sym (twice-foreign x h) ∙ ap is_foreign same ∙ k))
    ∙ sym (to_false (bytes_eq x y) (λ e. true_false (sym h ∙ ap is_foreign (same_names x y e) ∙ k)))

kept-kept : (x y : Bytes) → bytes_eq (kept_name x) (kept_name y) ≡ bytes_eq x y
kept-kept x y = by_bool (is_foreign x)
    (λ h. by_bool (is_foreign y)
    (λ k. ap₂ bytes_eq (kept-foreign x h) (kept-foreign y k))
    (λ k. kept-mixed x y h k))
    (λ h. by_bool (is_foreign y)
    (λ k. bytes_eq-sym (kept_name x) (kept_name y) ∙ kept-mixed y x k h ∙ bytes_eq-sym y x)
    (λ k. ap₂ bytes_eq (kept-free x h) (kept-free y k)))

-- ---- linked names

pub same_cells : (a b : Linked) → bytes_eq (cell_name a) (cell_name b) ≡ same_linked a b
same_cells (home.Both, x) (home.Both, y) = refl
same_cells (home.Old, x) (home.Old, y) = refl
same_cells (home.New, x) (home.New, y) = refl
same_cells (home.Xform, x) (home.Xform, y) = refl
same_cells (home.Client, x) (home.Client, y) = refl
same_cells (home.Unlinked, x) (home.Unlinked, y) = kept-kept x y
same_cells (home.Both, x) (home.Unlinked, y) = own-kept 98 (codes "oth_" ++ x) y refl refl
same_cells (home.Old, x) (home.Unlinked, y) = own-kept 111 (codes "ld_" ++ x) y refl refl
same_cells (home.New, x) (home.Unlinked, y) = own-kept 110 (codes "ew_" ++ x) y refl refl
same_cells (home.Xform, x) (home.Unlinked, y) = own-kept 120 (codes "form_" ++ x) y refl refl
same_cells (home.Client, x) (home.Unlinked, y) = own-kept 99 (codes "lient_" ++ x) y refl refl
same_cells (home.Unlinked, x) (home.Both, y) = kept-own 98 (codes "oth_" ++ y) x refl refl
same_cells (home.Unlinked, x) (home.Old, y) = kept-own 111 (codes "ld_" ++ y) x refl refl
same_cells (home.Unlinked, x) (home.New, y) = kept-own 110 (codes "ew_" ++ y) x refl refl
same_cells (home.Unlinked, x) (home.Xform, y) = kept-own 120 (codes "form_" ++ y) x refl refl
same_cells (home.Unlinked, x) (home.Client, y) = kept-own 99 (codes "lient_" ++ y) x refl refl
same_cells (h, x) (k, y) = refl

pub same_codes : (a b : Linked) → bytes_eq (code_name a) (code_name b) ≡ same_linked a b
same_codes (home.Both, x) (home.Both, y) = refl
same_codes (home.Old, x) (home.Old, y) = refl
same_codes (home.New, x) (home.New, y) = refl
same_codes (home.Xform, x) (home.Xform, y) = refl
same_codes (home.Client, x) (home.Client, y) = refl
same_codes (home.Unlinked, x) (home.Unlinked, y) = kept-kept x y
same_codes (home.Both, x) (home.Unlinked, y) = own-kept 97 (codes "ny_" ++ x) y refl refl
same_codes (home.Old, x) (home.Unlinked, y) = own-kept 111 (codes "ld_" ++ x) y refl refl
same_codes (home.New, x) (home.Unlinked, y) = own-kept 110 (codes "ew_" ++ x) y refl refl
same_codes (home.Xform, x) (home.Unlinked, y) = own-kept 120 (codes "form_" ++ x) y refl refl
same_codes (home.Client, x) (home.Unlinked, y) = own-kept 99 (codes "lient_" ++ x) y refl refl
same_codes (home.Unlinked, x) (home.Both, y) = kept-own 97 (codes "ny_" ++ y) x refl refl
same_codes (home.Unlinked, x) (home.Old, y) = kept-own 111 (codes "ld_" ++ y) x refl refl
same_codes (home.Unlinked, x) (home.New, y) = kept-own 110 (codes "ew_" ++ y) x refl refl
same_codes (home.Unlinked, x) (home.Xform, y) = kept-own 120 (codes "form_" ++ y) x refl refl
same_codes (home.Unlinked, x) (home.Client, y) = kept-own 99 (codes "lient_" ++ y) x refl refl
same_codes (h, x) (k, y) = refl

pub cell_apart-now : (k : Linked) → bytes_eq (cell_name k) now_name ≡ false
cell_apart-now (home.Both, x) = refl
cell_apart-now (home.Old, x) = refl
cell_apart-now (home.New, x) = refl
cell_apart-now (home.Xform, x) = refl
cell_apart-now (home.Client, x) = refl
cell_apart-now (home.Unlinked, x) = kept-own 110 (codes "ow") x refl refl

pub choice_apart-cell : (k : Linked) → bytes_eq choice_name (cell_name k) ≡ false
choice_apart-cell (home.Both, x) = refl
choice_apart-cell (home.Old, x) = refl
choice_apart-cell (home.New, x) = refl
choice_apart-cell (home.Xform, x) = refl
choice_apart-cell (home.Client, x) = refl
choice_apart-cell (home.Unlinked, x) = own-kept 99 [] x refl refl

-- ---- a frame's names

-- a name as the frame's unit writes it
abbrev written : Linked → Bytes
written (home.Old, x) = codes "dsu_old_" ++ x
written (home.New, x) = codes "dsu_new_" ++ x
written (h, x) = x

written-old_or_new : (part : Version → Bytes → Home) (x : Bytes) → same_home (part version.Old x) home.Both ≡ false
    → written (old_or_new part x (behind (codes "dsu_old_") x) (behind (codes "dsu_new_") x)) ≡ x
written-old_or_new part x apart = by_bool (starts_with nat_eq x (codes "dsu_old_"))
    (λ h. ap (λ b. written (old_or_new part x (if b then Some (drop 8 x) else None) (behind (codes "dsu_new_") x))) h
    ∙ chosen (same_home (part version.Old (drop 8 x)) home.Old) (home.Old, drop 8 x) (behind_prefix x (codes "dsu_old_") h))
    (λ h. ap (λ b. written (old_or_new part x (if b then Some (drop 8 x) else None) (behind (codes "dsu_new_") x))) h
    ∙ by_bool (starts_with nat_eq x (codes "dsu_new_"))
    (λ k. ap (λ b. written (old_or_new part x None (if b then Some (drop 8 x) else None))) k
    ∙ chosen (same_home (part version.New (drop 8 x)) home.New) (home.New, drop 8 x) (behind_prefix x (codes "dsu_new_") k))
    (λ k. ap (λ b. written (old_or_new part x None (if b then Some (drop 8 x) else None))) k))
  where
    chosen : (b : Bool) (k : Linked) → written k ≡ x → written (if b then k else (home.Unlinked, x)) ≡ x
    chosen true k e = e
    chosen false k e = refl

written-linked : (part : Version → Bytes → Home) (x : Bytes) → written (linked_by_prefix part x) ≡ x
written-linked part x = by_bool (same_home (part version.Old x) home.Both)
    (λ h. ap (λ b. written (if b then (home.Both, x) else old_or_new part x (behind (codes "dsu_old_") x) (behind (codes "dsu_new_") x))) h)
    (λ h. ap (λ b. written (if b then (home.Both, x) else old_or_new part x (behind (codes "dsu_old_") x) (behind (codes "dsu_new_") x))) h
    ∙ written-old_or_new part x h)

pub same_home-refl : (h : Home) → same_home h h ≡ true
same_home-refl home.Both = refl
same_home-refl home.Old = refl
same_home-refl home.New = refl
same_home-refl home.Xform = refl
same_home-refl home.Client = refl
same_home-refl home.Unlinked = refl

-- a frame's names stand for the same cell only where they are the same
by_own_name : (home_of : Bytes → Home) (x y : Bytes) → same_linked (home_of x, x) (home_of y, y) ≡ bytes_eq x y
by_own_name home_of x y = by_bool (bytes_eq x y)
    (λ h. ap₂ ◌&&◌ (ap (λ z. same_home (home_of x) (home_of z)) (sym (same_names x y h)) ∙ same_home-refl (home_of x)) refl)
    (λ h. ap (λ b. same_home (home_of x) (home_of y) && b) h ∙ never (same_home (home_of x) (home_of y)) ∙ sym h)
  where
    never : (b : Bool) → b && false ≡ false
    never true = refl
    never false = refl

pub same_home-is : (h k : Home) → same_home h k ≡ true → h ≡ k
same_home-is home.Both home.Both e = refl
same_home-is home.Old home.Old e = refl
same_home-is home.New home.New e = refl
same_home-is home.Xform home.Xform e = refl
same_home-is home.Client home.Client e = refl
same_home-is home.Unlinked home.Unlinked e = refl
same_home-is h k e = absurd cc

same_linked-is : (a b : Linked) → same_linked a b ≡ true → a ≡ b
same_linked-is a b e =
    let parts = both_true (same_home a.0 b.0) (bytes_eq a.1 b.1) e in
    ap₂ (λ (h : Home) (x : Bytes). (h, x)) (same_home-is a.0 b.0 parts.0) (same_names a.1 b.1 parts.1)

same_linked-refl : (a : Linked) → same_linked a a ≡ true
same_linked-refl a = ap₂ ◌&&◌ (same_home-refl a.0) (bytes_eq-refl a.1)

by_written : (part : Version → Bytes → Home) (x y : Bytes) → same_linked (linked_by_prefix part x) (linked_by_prefix part y) ≡ bytes_eq x y
by_written part x y = by_bool (bytes_eq x y)
    (λ h. ap (λ (z : Bytes). same_linked (linked_by_prefix part x) (linked_by_prefix part z)) (sym (same_names x y h))
    ∙ same_linked-refl (linked_by_prefix part x) ∙ sym h)
    (λ h. to_false (same_linked (linked_by_prefix part x) (linked_by_prefix part y)) (λ e.
    let same : x ≡ y =
    sym (written-linked part x) ∙ ap written (same_linked-is (linked_by_prefix part x) (linked_by_prefix part y) e) ∙ written-linked part y in
    true_false (sym ((bytes_eq-Decides x y).1 same) ∙ h)) ∙ sym h)

-- ---- the names in a world

module _ (W : World) where
  same_meaning : (o : Provenance) (x y : Bytes) → same_linked (cell_meaning W o x) (cell_meaning W o y) ≡ bytes_eq x y
  same_meaning origin.Old x y = by_own_name (λ z. (cell_meaning W origin.Old z).0) x y
  same_meaning origin.New x y = by_own_name (λ z. (cell_meaning W origin.New z).0) x y
  same_meaning origin.Xform x y = by_written (cell_part W.first W.second) x y
  same_meaning origin.Client x y = refl

  -- in one frame
  pub own_apart : (o : Provenance) (x y : Bytes) → bytes_eq (variable_name W o x) (variable_name W o y) ≡ bytes_eq x y
  own_apart o x y = same_cells (cell_meaning W o x) (cell_meaning W o y) ∙ same_meaning o x y
