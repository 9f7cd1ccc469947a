-- Opening a part leaves the terms that are still to come.
use Rattle.std.proofs.Common.{◌≡◌, ◌∙◌, ℕ, suc, Bool, true, false, cond, List, [], ◌∷◌, ◌++◌, filter, Option, Some, None, slice_get, append_assoc, ap, sym, refl}
use Rattle.std.proofs.lemmas.List.{append-nil}
use Rattle.terms.specs.declared.node.NodeKind.{NodeKind}
use Rattle.terms.specs.Trees.{TermTree, number, name, plus, minus, times, divided, remainder, read, truth, ArrayTree, array, stored, FormTree, always, never, at_most, equal, denied, both, either}
use Rattle.terms.specs.Names.{terms_in_term, terms_in_array, terms_in_form}
use Rattle.cert_checker.specs.declared.part.Part.{Part}
use Rattle.cert_checker.specs.declared.part.Part.TheVariants as part
use Rattle.cert_checker.specs.declared.find.Wanted.{Wanted}
use Rattle.cert_checker.specs.Code.Parts.{opened_term, opened_array, opened_form}
use Rattle.cert_checker.specs.Code.Finding.{is_wanted, terms_left, wanted_left}

-- ---- the terms that are left

pub term_terms : (t : TermTree) (parts : List Part) → terms_left (part.Term t ∷ parts) ≡ t ∷ terms_left (opened_term t ++ parts)
term_terms (number z) parts = refl
term_terms (name x) parts = refl
term_terms (plus t u) parts = ap (λ ts. plus t u ∷ ts) (append_assoc (terms_in_term t) (terms_in_term u) (terms_left parts))
term_terms (minus t u) parts = ap (λ ts. minus t u ∷ ts) (append_assoc (terms_in_term t) (terms_in_term u) (terms_left parts))
term_terms (times t u) parts = ap (λ ts. times t u ∷ ts) (append_assoc (terms_in_term t) (terms_in_term u) (terms_left parts))
term_terms (divided t u) parts = ap (λ ts. divided t u ∷ ts) (append_assoc (terms_in_term t) (terms_in_term u) (terms_left parts))
term_terms (remainder t u) parts = ap (λ ts. remainder t u ∷ ts) (append_assoc (terms_in_term t) (terms_in_term u) (terms_left parts))
term_terms (read r i) parts = ap (λ ts. read r i ∷ ts) (append_assoc (terms_in_array r) (terms_in_term i) (terms_left parts))
term_terms (truth f) parts = refl

pub array_terms : (r : ArrayTree) (parts : List Part) → terms_left (part.Array r ∷ parts) ≡ terms_left (opened_array r ++ parts)
array_terms (array x) parts = refl
array_terms (stored r i t) parts =
    append_assoc (terms_in_array r) (terms_in_term i ++ terms_in_term t) (terms_left parts)
    ∙ ap (λ ts. terms_in_array r ++ ts) (append_assoc (terms_in_term i) (terms_in_term t) (terms_left parts))

pub form_terms : (f : FormTree) (parts : List Part) → terms_left (part.Form f ∷ parts) ≡ terms_left (opened_form f ++ parts)
form_terms always parts = refl
form_terms never parts = refl
form_terms (at_most t u) parts = append_assoc (terms_in_term t) (terms_in_term u) (terms_left parts)
form_terms (equal t u) parts = append_assoc (terms_in_term t) (terms_in_term u) (terms_left parts)
form_terms (both f g) parts = append_assoc (terms_in_form f) (terms_in_form g) (terms_left parts)
form_terms (either f g) parts = append_assoc (terms_in_form f) (terms_in_form g) (terms_left parts)
form_terms (denied f) parts = refl

-- ---- the wanted ones

module _ (w : Wanted) where
  pub term_found : (t : TermTree) (parts : List Part) → is_wanted w t ≡ true → slice_get (wanted_left w (part.Term t ∷ parts)) 0 ≡ Some t
  unfolding wanted_left
  term_found t parts e = ap (λ ts. slice_get (filter (is_wanted w) ts) 0) (term_terms t parts)
      ∙ ap (λ b. slice_get (cond b (t ∷ filter (is_wanted w) (terms_left (opened_term t ++ parts))) (filter (is_wanted w) (terms_left (opened_term t ++ parts)))) 0) e

  pub term_passed : (t : TermTree) (parts more : List Part) (n : ℕ) → is_wanted w t ≡ true → more ≡ opened_term t ++ parts
      → slice_get (wanted_left w more) n ≡ slice_get (wanted_left w (part.Term t ∷ parts)) (suc n)
  unfolding wanted_left
  term_passed t parts more n e h =
      ap (λ ps. slice_get (filter (is_wanted w) (terms_left ps)) n) h
      ∙ sym (ap (λ ts. slice_get (filter (is_wanted w) ts) (suc n)) (term_terms t parts)
      ∙ ap (λ b. slice_get (cond b (t ∷ filter (is_wanted w) (terms_left (opened_term t ++ parts))) (filter (is_wanted w) (terms_left (opened_term t ++ parts)))) (suc n)) e)

  pub term_other : (t : TermTree) (parts more : List Part) → is_wanted w t ≡ false → more ≡ opened_term t ++ parts
      → wanted_left w more ≡ wanted_left w (part.Term t ∷ parts)
  unfolding wanted_left
  term_other t parts more e h =
      ap (λ ps. filter (is_wanted w) (terms_left ps)) h
      ∙ sym (ap (filter (is_wanted w)) (term_terms t parts)
      ∙ ap (λ b. cond b (t ∷ filter (is_wanted w) (terms_left (opened_term t ++ parts))) (filter (is_wanted w) (terms_left (opened_term t ++ parts)))) e)

  pub array_passed : (r : ArrayTree) (parts more : List Part) → more ≡ opened_array r ++ parts → wanted_left w more ≡ wanted_left w (part.Array r ∷ parts)
  unfolding wanted_left
  array_passed r parts more h = ap (λ ps. filter (is_wanted w) (terms_left ps)) h ∙ sym (ap (filter (is_wanted w)) (array_terms r parts))

  pub form_passed : (f : FormTree) (parts more : List Part) → more ≡ opened_form f ++ parts → wanted_left w more ≡ wanted_left w (part.Form f ∷ parts)
  unfolding wanted_left
  form_passed f parts more h = ap (λ ps. filter (is_wanted w) (terms_left ps)) h ∙ sym (ap (filter (is_wanted w)) (form_terms f parts))

-- ---- the whole form

pub nothing_left : (w : Wanted) (n : ℕ) → slice_get (wanted_left w []) n ≡ None
unfolding wanted_left
nothing_left w n = refl

pub all_left : (w : Wanted) (f : FormTree) → wanted_left w (part.Form f ∷ []) ≡ filter (is_wanted w) (terms_in_form f)
unfolding wanted_left
all_left w f = ap (filter (is_wanted w)) (append-nil (terms_in_form f))

pub operator_passed : (w : Wanted) (p : Part) (k : NodeKind) (parts : List Part) → p ≡ part.Operator k → wanted_left w parts ≡ wanted_left w (p ∷ parts)
unfolding wanted_left
operator_passed w p k parts e = ap (λ q. filter (is_wanted w) (terms_left (q ∷ parts))) (sym e)
