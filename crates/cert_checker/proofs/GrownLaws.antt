-- Lists that grow at their ends.
use Rattle.std.proofs.Common.{◌≡◌, ◌∙◌, Bool, true, false, if◌then◌else◌, List, [], ◌∷◌, ◌++◌, length, take, Result, Ok, Err, sym, ap, subst, refl, append_assoc}
use Rattle.std.specs.Prelude.{OnOk, OnErr}
use Rattle.std.proofs.lemmas.List.{append-nil}
use Rattle.std.proofs.Math.Seq.{take-append_seam}
use Rattle.terms.specs.Trees.{TermTree}
use Rattle.cert_checker.specs.Numbering.{has_atom, with_atom}
use Rattle.cert_checker.specs.Code.Steps.{Grown}

pub grown_same : {X : Type 0} (xs ys : List X) → ys ≡ xs → Grown xs ys
grown_same xs ys e = record { more = []; is = e ∙ sym (append-nil xs) }

pub grown_with : (us vs : List TermTree) (t : TermTree) → vs ≡ with_atom us t → Grown us vs
grown_with us vs t e = subst (Grown us) (sym e) (go (has_atom us t))
  where
    go : (b : Bool) → Grown us (if b then us else us ++ (t ∷ []))
    go true = grown_same us us refl
    go false = record { more = t ∷ []; is = refl }

pub grown_then : {X : Type 0} (xs ys zs : List X) → Grown xs ys → Grown ys zs → Grown xs zs
grown_then xs ys zs g h = record { more = g.more ++ h.more; is = h.is ∙ ap (λ l. l ++ h.more) g.is ∙ append_assoc xs g.more h.more }

pub grown_numbered : {A B : Type 0} (us vs : List TermTree) (t : TermTree) (result : Result A B) → OnOk result (vs ≡ with_atom us t) → OnErr result (vs ≡ us) → Grown us vs
grown_numbered us vs t (Ok a) h k = grown_with us vs t h
grown_numbered us vs t (Err b) h k = grown_same us vs k

-- what a list was before it grew
pub taken_back : {X : Type 0} (xs ys : List X) → Grown xs ys → take (length xs) ys ≡ xs
taken_back xs ys g = ap (take (length xs)) g.is ∙ take-append_seam xs g.more
