-- Entries with one more name.
use Rattle.std.proofs.Common.{◌≡◌, cond, Bool, true, false, [], ◌∷◌, ◌++◌, Option, Some, None, is_some, refl, sym, ap, ap₂, ◌∙◌}
use Rattle.std.specs.Prelude.{if◌then◌else◌}
use Rattle.std.specs.Option.{option_or}
use Rattle.std.specs.Str.{bytes_eq}
use Rattle.c_lang.specs.Names.{Bytes}
use Rattle.c_types.specs.Names.{Means, Entries, found, added}
use Rattle.merged_program.proofs.MergedNames.{by_bool, same_names}
use Rattle.merged_program.proofs.Lookups.{or_none, or_some}

abbrev pub one : Bytes → Bytes → Means → Option Means
one x y m = cond (bytes_eq x y) (Some m) None

found_behind : (es : Entries) (x y : Bytes) (m : Means) → found (es ++ (y, m) ∷ []) x ≡ option_or (found es x) (one x y m)
found_behind [] x y m = refl
found_behind (e ∷ es) x y m = by_test (bytes_eq x e.0) (found_behind es x y m)
  where
    by_test : (b : Bool) → found (es ++ (y, m) ∷ []) x ≡ option_or (found es x) (one x y m)
        → cond b (Some e.1) (found (es ++ (y, m) ∷ []) x) ≡ option_or (cond b (Some e.1) (found es x)) (one x y m)
    by_test true h = refl
    by_test false h = h

found_there : (es : Entries) (x y : Bytes) (m : Means) → is_some (found es y) ≡ true → found es x ≡ option_or (found es x) (one x y m)
found_there es x y m h = by_bool (bytes_eq x y)
    (λ e. sym (or_some (found es x) (one x y m) (ap (λ (z : Bytes). is_some (found es z)) (same_names x y e) ∙ h)))
    (λ e. sym (ap (λ (b : Bool). option_or (found es x) (cond b (Some m) None)) e ∙ or_none (found es x)))

pub found_added : (es : Entries) (x y : Bytes) (m : Means) → found (added es y m) x ≡ option_or (found es x) (one x y m)
found_added es x y m = by_bool (is_some (found es y))
    (λ h. ap (λ (b : Bool). found (if b then es else es ++ (y, m) ∷ []) x) h ∙ found_there es x y m h)
    (λ h. ap (λ (b : Bool). found (if b then es else es ++ (y, m) ∷ []) x) h ∙ found_behind es x y m)

-- ---- what isn't there

or_nothing : {X : Type 0} (o p : Option X) → option_or o p ≡ None → (o ≡ None) × (p ≡ None)
or_nothing None p h = (refl, h)
or_nothing (Some x) p h = absurd cc

one_nothing : (b : Bool) (m : Means) → cond b (Some m) None ≡ None → b ≡ false
one_nothing true m h = absurd cc
one_nothing false m h = refl

pub added_none : (es : Entries) (y : Bytes) (m : Means) (x : Bytes) → found (added es y m) x ≡ None → (found es x ≡ None) × (bytes_eq x y ≡ false)
added_none es y m x h =
    let parts = or_nothing (found es x) (one x y m) (sym (found_added es x y m) ∙ h) in (parts.0, one_nothing (bytes_eq x y) m parts.1)

pub none_added : (es : Entries) (y : Bytes) (m : Means) (x : Bytes) → found es x ≡ None → bytes_eq x y ≡ false → found (added es y m) x ≡ None
none_added es y m x h k = found_added es x y m ∙ ap₂ (λ (o : Option Means) (b : Bool). option_or o (cond b (Some m) None)) h k
