-- A reading that finds exactly what a relation has.
use Rattle.std.proofs.Common.{◌≡◌, ◌∙◌, Option, None, Some, List, option_map, refl, sym}
use Rattle.std.specs.Prelude.{Result, Ok, Err, IfOk}
use Rattle.serde_json.specs.Data.{Items}
use Rattle.cert_form.specs.Certificates.{Each, Part, IsPart}
use Rattle.cert_form.specs.Code.Reading.{Found, Makes}
use Rattle.cert_form.specs.declared.cert.Rule.{Rule}

pub record Decides {D X : Type 0} (Is : X → D → Type 0) (f : D → Option X) : Type 0 where
  pub sound : (d : D) (x : X) → f d ≡ Some x → Is x d
  pub complete : (d : D) (x : X) → Is x d → f d ≡ Some x

pub unique : {D X : Type 0} {Is : X → D → Type 0} {f : D → Option X} → Decides Is f → (d : D) (x y : X) → Is x d → Is y d → x ≡ y
unique decides d x y hx hy = let both = sym (decides.complete d x hx) ∙ decides.complete d y hy in cc

-- what is found, at each answer
pub found : {D X : Type 0} {Is : X → D → Type 0} {f : D → Option X} → Decides Is f → (d : D) (o : Option X) → o ≡ f d → Found (λ x. Is x d) o
found decides d None e = λ x is. let both = e ∙ decides.complete d x is in absurd (cc)
found decides d (Some x) e = decides.sound d x (sym e)

-- The arguments are what a word's rules are made of, and what is found of them.
pub found-made : {X : Type 0} (make : X → Rule) (parts : X → List Part) (f : Items → Option X) → Decides (λ x args. Each IsPart (parts x) args) f → (args : Items) (o : Option Rule)
    → o ≡ option_map make (f args) → Found (Makes make parts args) o
found-made make parts f decides args o e = from (f args) refl o e
  where
    from : (given : Option _) → f args ≡ given → (o : Option Rule) → o ≡ option_map make given → Found (Makes make parts args) o
    from None is None e = λ r h. let both = sym is ∙ decides.complete args h.0 h.2 in absurd (cc)
    from None is (Some r) e = absurd (cc)
    from (Some x) is None e = absurd (cc)
    from (Some x) is (Some r) e = (x, (let same = e in cc), decides.sound args x is)

pub on-ok : {T E : Type 0} (r : Result T E) (P Q : T → Type 0) → ((t : T) → P t → Q t) → IfOk r P → IfOk r Q
on-ok (Ok t) P Q more h = more t h
on-ok (Err e) P Q more h = tt
