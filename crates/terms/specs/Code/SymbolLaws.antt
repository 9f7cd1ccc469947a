-- The test of sameness decides whether two names are equal.
use Rattle.std.proofs.Common.{◌≡◌, Bool, true, false, ◌&&◌, nat_eq, refl, ap, ap₂}
use Rattle.std.specs.Str.{bytes_eq}
use Rattle.std.specs.Bool.{Decides}
use Rattle.std.proofs.lemmas.Bool.Decides.{Decides-eqb}
use Rattle.std.proofs.lemmas.Slice.Eq.{bytes_eq-Decides}
use Rattle.terms.specs.declared.sym.Sym.{Sym}
use Rattle.terms.specs.Symbols.{same_sym}

and_left : (a b : Bool) → (a && b) ≡ true → a ≡ true
and_left true b e = refl
and_left false true e = e
and_left false false e = e

and_right : (a b : Bool) → (a && b) ≡ true → b ≡ true
and_right true b e = e
and_right false true e = refl
and_right false false e = e

pub same_sym-Decides : (x y : Sym) → Decides (same_sym x y) (x ≡ y)
same_sym-Decides x y = (λ e. equal e, λ e. same e)
  where
    equal : same_sym x y ≡ true → x ≡ y
    equal e = λ i. record {
      base = (bytes_eq-Decides x.base y.base).0 (and_left (bytes_eq x.base y.base) (nat_eq x.count y.count) e) i;
      count = (Decides-eqb x.count y.count).0 (and_right (bytes_eq x.base y.base) (nat_eq x.count y.count) e) i;
    }

    same : x ≡ y → same_sym x y ≡ true
    same e = ap₂ (λ a b. a && b) ((bytes_eq-Decides x.base y.base).1 (ap (λ (z : Sym). z.base) e)) ((Decides-eqb x.count y.count).1 (ap (λ (z : Sym). z.count) e))

pub same_sym-equal : (x y : Sym) → same_sym x y ≡ true → x ≡ y
same_sym-equal x y = (same_sym-Decides x y).0

pub same_sym-refl : (x : Sym) → same_sym x x ≡ true
same_sym-refl x = (same_sym-Decides x x).1 refl
