-- The integers that the distances give.
use Rattle.std.proofs.Common.{◌≡◌, ◌<◌, ℕ, ℤ, ◌-ℤ◌, List, [], ◌∷◌, ◌++◌, Option, None, Some, length, arith, suc, zero}
use Rattle.std.specs.List.{All}
use Rattle.std.proofs.lemmas.Int.{ints}
use Rattle.std.proofs.lemmas.List.Elements.{All-get_or, All-from_get_or}
use Rattle.diff_certs.specs.declared.row.DiffRow.{DiffRow}
use Rattle.diff_certs.specs.declared.walk.Reached.{Reached}
use Rattle.diff_certs.specs.Rows.{IsInside, IsName, Satisfies, SatisfiesAll, side, node, row_at, no_row}
use Rattle.diff_certs.specs.Code.Distances.{distance_at, AreStable}
use Rattle.diff_certs.specs.Answer.{coordinate, IsShifted}

side-value : (nodes : List Reached) (values : List ℤ) → IsShifted nodes values → (s : Option ℕ) → IsName s → side (coordinate values) s ≡ distance_at nodes (node s) -ℤ distance_at nodes 64
side-value nodes values is None h = omega (arith, ints)
side-value nodes values is (Some n) h = is.1 n (let count = is.0 in omega arith)

pub point-satisfies : (rows : List DiffRow) (nodes : List Reached) (values : List ℤ) → All IsInside rows → AreStable rows nodes → IsShifted nodes values → SatisfiesAll (coordinate values) rows
point-satisfies rows nodes values inside stable is = All-from_get_or (Satisfies (coordinate values)) rows no_row (λ k h.
    let within = All-get_or IsInside rows k no_row h inside in
    let left = side-value nodes values is (row_at rows k).left within.left in
    let right = side-value nodes values is (row_at rows k).right within.right in
    let here = stable k h in
    omega (arith, ints))

pub push-next : (f : ℕ → ℤ) (values : List ℤ) (x : ℤ) → ((k : ℕ) → k < length values → coordinate values k ≡ f k) → x ≡ f (length values)
    → (k : ℕ) → k < length (values ++ x ∷ []) → coordinate (values ++ x ∷ []) k ≡ f k
push-next f [] x all here zero h = here
push-next f [] x all here (suc k) h = absurd (omega arith)
push-next f (v ∷ vs) x all here zero h = all zero (omega arith)
push-next f (v ∷ vs) x all here (suc k) h = push-next (λ n. f (suc n)) vs x (λ n n_in. all (suc n) (omega arith)) here k (omega arith)
