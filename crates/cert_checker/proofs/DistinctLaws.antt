-- No atom has two numbers.
use Rattle.std.proofs.Common.{◌≡◌, Bool, true, false, if◌then◌else◌, List, [], ◌∷◌, ◌++◌, Option, Some, None, Result, Ok, Err, sym, subst, refl}
use Rattle.std.specs.List.{AllByRecursion, IsDistinct}
use Rattle.linear_rows.specs.declared.row.Row.{Row}
use Rattle.linear_rows.specs.declared.row.RowFail.{RowFail}
use Rattle.linear_rows.specs.declared.row.RowFail.TheVariants.{NoMemory, Wide}
use Rattle.terms.specs.Equality.{same_term}
use Rattle.terms.specs.Trees.{TermTree, FormTree}
use Rattle.cert_checker.specs.Linear.{Multiple}
use Rattle.cert_checker.specs.Numbering.{has_atom, with_atom, with_atoms, IsRowOf}
use Rattle.cert_checker.proofs.Choices.{or_left, or_right}

differ-all : (t : TermTree) (us : List TermTree) → AllByRecursion (λ u. same_term t u ≡ false) us → (w : TermTree) → same_term t w ≡ false → AllByRecursion (λ u. same_term t u ≡ false) (us ++ (w ∷ []))
differ-all t [] h w e = (e, tt)
differ-all t (u ∷ us) h w e = (h.0, differ-all t us h.1 w e)

distinct-more : (us : List TermTree) (t : TermTree) → IsDistinct same_term us → has_atom us t ≡ false → IsDistinct same_term (us ++ (t ∷ []))
unfolding IsDistinct
distinct-more [] t h none = (tt, tt)
distinct-more (u ∷ us) t h none = (differ-all u us h.0 t (or_left (same_term u t) (has_atom us t) none), distinct-more us t h.1 (or_right (same_term u t) (has_atom us t) none))

distinct-with : (us : List TermTree) (t : TermTree) → IsDistinct same_term us → IsDistinct same_term (with_atom us t)
distinct-with us t h = go (has_atom us t) refl
  where
    go : (b : Bool) → has_atom us t ≡ b → IsDistinct same_term (if b then us else us ++ (t ∷ []))
    go true e = h
    go false e = distinct-more us t h e

pub distinct-atoms : (us : List TermTree) (ms : List Multiple) → IsDistinct same_term us → IsDistinct same_term (with_atoms us ms)
unfolding with_atoms
distinct-atoms us [] h = h
distinct-atoms us (m ∷ ms) h = distinct-atoms (with_atom us m.0) ms (distinct-with us m.0 h)

pub distinct-row : (f : FormTree) (old new : List TermTree) (result : Result (Option Row) RowFail) → IsDistinct same_term old → IsRowOf f old result new → IsDistinct same_term new
distinct-row f old new (Ok None) h is = subst (IsDistinct same_term) (sym is.1) h
distinct-row f old new (Ok (Some row)) h is = subst (IsDistinct same_term) (sym is.3) (distinct-atoms old is.0.multiples h)
distinct-row f old new (Err Wide) h is = subst (IsDistinct same_term) (sym is.2) h
distinct-row f old new (Err NoMemory) h is = subst (IsDistinct same_term) (sym is) h
