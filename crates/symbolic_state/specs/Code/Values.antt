-- What a name stands for at a step, by the values that it got before.
use Rattle.std.specs.Prelude.{◌≡◌, ◌⊎◌, ⊤, ℕ, suc, ◌<◌, false, nat_eq, bytes_eq, if◌then◌else◌, List, [], ◌∷◌, ◌++◌, length, find, slice_get, Option, Some, None}
use Rattle.std.specs.Option.{option_map}
use Rattle.c_lang.specs.Names.{Bytes}
use Rattle.terms.specs.declared.sym.Sym.{Sym}
use Rattle.terms.specs.declared.changes.Changes.{Changes}
use Rattle.terms.specs.Symbols.{same_sym}
use Rattle.terms.specs.Trees.{TermTree, name, ArrayTree, array}
use Rattle.terms.specs.Replacing.{Change, replaced_term, replaced_array}
use Rattle.expression_conditions.specs.Meanings.{current}
use Rattle.loop_invariants.specs.EntryNames.{bound}
use Rattle.symbolic_state.specs.declared.step.Step.TheVariants as step
use Rattle.symbolic_state.specs.declared.step.Step.{Step}
use Rattle.symbolic_state.specs.declared.bindings.Binding.{Binding}
use Rattle.symbolic_state.specs.Steps.{outermost}
use Rattle.symbolic_state.specs.Code.Bindings.{bound as with_binding, unbound}
use Rattle.symbolic_state.specs.Code.Joined.{change_of, GivesBound}

-- the n-th step that was made, counted from 0
abbrev pub step_at : List Step → ℕ → Option Step
step_at [] n = None
step_at (s ∷ steps) n = if nat_eq n (length steps) then Some s else step_at steps n

-- names as numbers, or names as arrays
pub record Kind (T : Type 0) : Type 0 where
  -- the value of a pair of a step, and what a step gives a name
  pub pair : Step → ℕ → Option T
  pub value : Bytes → Step → Option T
  -- what a change has for a name, and what it makes of a value
  pub at : Change → Bytes → T
  pub put : Change → T → T
  -- a name that stands for itself
  pub start : Bytes → T

abbrev pub pair_of : {T : Type 0} → Kind T → Option Step → ℕ → Option T
pair_of K None k = None
pair_of K (Some s) k = K.pair s k

-- the value that a binding names, with the steps before it, comes to this
pub record Source {T : Type 0} (K : Kind T) (steps : List Step) (b : Binding) (whole : T) : Type 0 where
  pub earlier : b.source < length steps
  pub own : T
  pub found : pair_of K (step_at steps b.source) b.pair ≡ Some own
  pub is : whole ≡ K.put (change_of (outermost b.source steps)) own

pub record EndsIn {T : Type 0} (K : Kind T) (steps : List Step) (x : Bytes) (n : ℕ) (bs : List Binding) (before : List Binding → Type 0) : Type 0 where
  pub front : List Binding
  pub last : Binding
  pub whole : bs ≡ front ++ (last ∷ [])
  pub step : last.step ≡ n
  pub source : Source K steps last (K.at (change_of steps) x)
  pub rest : before front

abbrev pub Chosen : {T : Type 0} → Option T → Type 0 → Type 0 → Type 0
Chosen None some none = none
Chosen (Some t) some none = some

-- these are the values that the name got
abbrev pub HasValues : {T : Type 0} → Kind T → List Step → Bytes → List Binding → Type 0
HasValues K [] x bs = bs ≡ []
HasValues K (s ∷ steps) x bs = Chosen (K.value x s) (EndsIn K (s ∷ steps) x (length steps) bs (HasValues K steps x)) (HasValues K steps x bs)

-- the latest one before a step is what the name stands for there
abbrev pub IsFound : {T : Type 0} → Kind T → List Step → Bytes → ℕ → Option Binding → Type 0
IsFound K steps x t None = K.at (change_of (outermost t steps)) x ≡ K.start x
IsFound K steps x t (Some b) = Source K steps b (K.at (change_of (outermost t steps)) x)

-- what holds of both kinds: nothing is replaced at first, and a step changes only the names that it gives a value
pub record IsKind {T : Type 0} (K : Kind T) : Type 0 where
  pub initial : (x : Bytes) → K.at (change_of []) x ≡ K.start x
  pub kept : (s : Step) (steps : List Step) (x : Bytes) → K.value x s ≡ None → K.at (change_of (s ∷ steps)) x ≡ K.at (change_of steps) x

-- ---- the two kinds

abbrev pub numbers_of : Step → List (Sym × TermTree)
numbers_of (step.Replaces c) = c.numbers
numbers_of (step.Assumes f) = []

abbrev pub arrays_of : Step → List (Sym × ArrayTree)
arrays_of (step.Replaces c) = c.arrays
arrays_of (step.Assumes f) = []

-- the bound number is never replaced
abbrev pub number_in : Bytes → Step → Option TermTree
number_in x s = if same_sym bound (current x) then None else option_map (λ p. p.1) (find (λ p. same_sym p.0 (current x)) (numbers_of s))

abbrev pub array_in : Bytes → Step → Option ArrayTree
array_in x s = option_map (λ p. p.1) (find (λ p. same_sym p.0 (current x)) (arrays_of s))

abbrev pub as_numbers : Kind TermTree
as_numbers = record {
  pair = λ s k. option_map (λ p. p.1) (slice_get (numbers_of s) k);
  value = number_in;
  at = λ c x. c.number (current x);
  put = replaced_term;
  start = λ x. name (current x);
}

abbrev pub as_arrays : Kind ArrayTree
as_arrays = record {
  pair = λ s k. option_map (λ p. p.1) (slice_get (arrays_of s) k);
  value = array_in;
  at = λ c x. c.array (current x);
  put = replaced_array;
  start = λ x. array (current x);
}

-- ---- all pairs of a step

-- the value that a pair of the n-th step gives
abbrev pub own_value : ℕ → ℕ → Binding
own_value n k = record { step = n; source = n; pair = k }

-- with the values of the n-th step's pairs from the k-th on
abbrev pub bound_by : {T : Type 0} → ℕ → ℕ → List (Sym × T) → Bytes → List Binding → List Binding
bound_by n k [] x bs = bs
bound_by n k (p ∷ ps) x bs = bound_by n (suc k) ps x (if bytes_eq p.0.base x then with_binding bs (own_value n k) else bs)

-- without them
abbrev pub unbound_by : {T : Type 0} → ℕ → List (Sym × T) → Bytes → List Binding → List Binding
unbound_by n [] x bs = bs
unbound_by n (p ∷ ps) x bs = unbound_by n ps x (if bytes_eq p.0.base x then unbound n bs else bs)

-- only current values are replaced
abbrev pub AreCurrent : {T : Type 0} → List (Sym × T) → Type 0
AreCurrent [] = ⊤
AreCurrent (p ∷ ps) = (p.0.count ≡ 0) × AreCurrent ps

abbrev pub IsCurrent : Changes → Type 0
IsCurrent c = AreCurrent c.numbers × AreCurrent c.arrays

abbrev pub ReplacesCurrent : List Step → Type 0
ReplacesCurrent [] = ⊤
ReplacesCurrent (s ∷ steps) = (AreCurrent (numbers_of s) × AreCurrent (arrays_of s)) × ReplacesCurrent steps

-- a state's tables have the values of every name, and its steps are such as can be taken together
pub record HasTables (steps : List Step) (of_numbers of_arrays : Bytes → List Binding) : Type 0 where
  pub gives : GivesBound steps
  pub names : ReplacesCurrent steps
  pub numbers : (x : Bytes) → same_sym bound (current x) ≡ false → HasValues as_numbers steps x (of_numbers x)
  pub arrays : (x : Bytes) → HasValues as_arrays steps x (of_arrays x)

-- The binding of the next step's first value, which is this term: the step's own pair, or, where the term is a name that has
-- got a value, the place of that value.
abbrev pub IsBindingOf : List Step → TermTree → Binding → Type 0
IsBindingOf steps t b = (b ≡ own_value (length steps) 0) ⊎ ((b.step ≡ length steps) × Source as_numbers steps b (replaced_term (change_of steps) t))
