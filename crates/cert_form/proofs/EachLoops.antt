-- A loop over the items of an array.
use Rattle.std.proofs.Common.{◌≡◌, ◌∙◌, ◌<◌, ℕ, ◌+◌, List, [], ◌∷◌, ◌++◌, Option, None, Some, option_map, option_and_then, length, get_or, drop, add-one, drop-cons, append_assoc, ap, sym, refl}
use Rattle.serde_json.specs.Data.{Data}
use Rattle.serde_json.specs.View.{view, items_view}
use Rattle.serde_json.specs.declared.value.Value.{Value}
use Rattle.cert_form.specs.Code.Reading.{each, after}

each-at : {X : Type 0} (f : Data → Option X) (values : List Value) (i : ℕ) (v : Value) → i < length values → v ≡ get_or values i v
    → each f (items_view (drop i values)) ≡ option_and_then (λ x. option_map (λ xs. x ∷ xs) (each f (items_view (drop (i + 1) values)))) (f (view v))
each-at f values i v h is = rw (add-one, drop-cons values i v, ← is) refl

joined : {X : Type 0} (done : List X) (x : X) (left : Option (List X)) → after done (option_map (λ xs. x ∷ xs) left) ≡ after (done ++ x ∷ []) left
joined done x None = refl
joined done x (Some xs) = ap Some (sym (append_assoc done (x ∷ []) xs))

-- One item more.
pub each-more : {X : Type 0} (f : Data → Option X) (all : Option (List X)) (done : List X) (values : List Value) (i : ℕ) (v : Value) (x : X)
    → all ≡ after done (each f (items_view (drop i values))) → i < length values → v ≡ get_or values i v → f (view v) ≡ Some x
    → all ≡ after (done ++ x ∷ []) (each f (items_view (drop (i + 1) values)))
each-more f all done values i v x so_far h is means =
    so_far ∙ ap (after done) (each-at f values i v h is ∙ ap (option_and_then (λ x. option_map (λ xs. x ∷ xs) (each f (items_view (drop (i + 1) values))))) means) ∙ joined done x _

-- An item that means nothing.
pub each-none : {X : Type 0} (f : Data → Option X) (all : Option (List X)) (done : List X) (values : List Value) (i : ℕ) (v : Value)
    → all ≡ after done (each f (items_view (drop i values))) → i < length values → v ≡ get_or values i v → f (view v) ≡ None → all ≡ None
each-none f all done values i v so_far h is means =
    so_far ∙ ap (after done) (each-at f values i v h is ∙ ap (option_and_then (λ x. option_map (λ xs. x ∷ xs) (each f (items_view (drop (i + 1) values))))) means)

pub ruleset each_loop = (each-more, each-none)
