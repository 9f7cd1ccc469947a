-- Merged names tell their origins and their names.
use Rattle.std.specs.Prelude.{◌≡◌, ℕ, ◌==◌, if◌then◌else◌, slice_index}
use Rattle.std.proofs.Common.{refl, sym, ap, ◌∙◌}
use Rattle.std.proofs.lemmas.List.{append_cancel_left}
use Rattle.c_lang.specs.Names.{Bytes}
use Rattle.version_names.specs.Merged.{prefix, merged_name}
use Rattle.version_names.specs.declared.part.Origin.{Origin}
use Rattle.version_names.specs.declared.part.Origin.TheVariants.{Both, Any, Old, New, Xform, Client}

-- the fifth byte tells the origin
abbrev letter : Origin → ℕ
letter Both = 98
letter Any = 97
letter Old = 111
letter New = 110
letter Xform = 120
letter Client = 99

letter-of : (o : Origin) (x : Bytes) → slice_index (merged_name o x) 4 ≡ letter o
letter-of Both x = refl
letter-of Any x = refl
letter-of Old x = refl
letter-of New x = refl
letter-of Xform x = refl
letter-of Client x = refl

origin_of : ℕ → Origin
origin_of n = if n == 98 then Both else (if n == 97 then Any else (if n == 111 then Old else (if n == 110 then New else (if n == 120 then Xform else Client))))

origin-of : (o : Origin) → origin_of (letter o) ≡ o
unfolding origin_of
origin-of Both = refl
origin-of Any = refl
origin-of Old = refl
origin-of New = refl
origin-of Xform = refl
origin-of Client = refl

same-origin : (o p : Origin) → letter o ≡ letter p → o ≡ p
same-origin o p e = sym (origin-of o) ∙ ap origin_of e ∙ origin-of p

pub apart : (o p : Origin) (x y : Bytes) → merged_name o x ≡ merged_name p y → (o ≡ p) × (x ≡ y)
apart o p x y e =
    let same : o ≡ p = same-origin o p (sym (letter-of o x) ∙ ap (λ z. slice_index z 4) e ∙ letter-of p y) in
    (same, append_cancel_left (prefix o) x y (e ∙ ap (λ q. merged_name q y) (sym same)))
