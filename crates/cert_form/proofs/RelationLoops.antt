-- A loop over the items of an array, of which each stands for something.
use Rattle.std.proofs.Common.{◌≡◌, ◌<◌, ℕ, zero, suc, ◌+◌, List, [], ◌∷◌, ◌++◌, length, get_or, take, sym, arith, add-one, subst}
use Rattle.std.proofs.Math.Seq.{take-suc}
use Rattle.serde_json.specs.Data.{Data}
use Rattle.serde_json.specs.View.{view, items_view}
use Rattle.serde_json.specs.declared.value.Value.{Value}
use Rattle.cert_form.specs.Certificates.{Each}

each-push : {X : Type 0} (Is : X → Data → Type 0) (xs : List X) (x : X) (values : List Value) (v : Value)
    → Each Is xs (items_view values) → Is x (view v) → Each Is (xs ++ x ∷ []) (items_view (values ++ v ∷ []))
each-push Is [] x [] v h is = (is, tt)
each-push Is [] x (w ∷ ws) v h is = absurd h
each-push Is (y ∷ ys) x [] v h is = absurd h
each-push Is (y ∷ ys) x (w ∷ ws) v h is = (h.0, each-push Is ys x ws v h.1 is)

-- One item more.
pub relation-more : {X : Type 0} (Is : X → Data → Type 0) (xs : List X) (x : X) (values : List Value) (i : ℕ) (v : Value)
    → Each Is xs (items_view (take i values)) → i < length values → v ≡ get_or values i v → Is x (view v)
    → Each Is (xs ++ x ∷ []) (items_view (take (i + 1) values))
relation-more Is xs x values i v so_far h same is = rw (add-one, take-suc values i v, ← same) (each-push Is xs x (take i values) v so_far is)

each-at : {X : Type 0} (Is : X → Data → Type 0) (xs : List X) (values : List Value) (i : ℕ) (d : Value)
    → i < length values → Each Is xs (items_view values) → (x : X) × Is x (view (get_or values i d))
each-at Is xs [] i d h all = absurd (omega arith)
each-at Is [] (w ∷ ws) i d h all = absurd all
each-at Is (x ∷ xs) (w ∷ ws) zero d h all = (x, all.0)
each-at Is (x ∷ xs) (w ∷ ws) (suc i) d h all = each-at Is xs ws i d (omega arith) all.1

-- An item that stands for nothing.
pub relation-none : {X : Type 0} (Is : X → Data → Type 0) (values : List Value) (i : ℕ) (v : Value)
    → i < length values → v ≡ get_or values i v → ((x : X) → Is x (view v) → ⊥) → (xs : List X) → Each Is xs (items_view values) → ⊥
relation-none Is values i v h same nothing xs all =
    let at = each-at Is xs values i v h all in
    nothing at.0 (subst (λ w. Is at.0 (view w)) (sym same) at.1)

pub ruleset relation_loop = (relation-more, relation-none)
