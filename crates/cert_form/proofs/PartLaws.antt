-- What is read of a part of a rule is what stands for it.
use Rattle.std.proofs.Common.{◌≡◌, ◌∙◌, ◌<◌, ◌^◌, ℕ, ℤ, List, [], ◌∷◌, Option, None, Some, Bool, true, false, option_map, option_and_then, refl, ap, arith, nat_lt, if◌then◌else◌, subst}
use Rattle.std.proofs.lemmas.Bool.Decides.{nat_tests}
use Rattle.serde_json.specs.Data.{Data, null, boolean, number, string, array, object, Items, no_items, item, unsigned, negative, float}
use Rattle.serde_json.specs.Find.{as_str, as_array}
use Rattle.cert_form.specs.Certificates.{Part, whole, multiplier, sum, IsWhole, IsMultiplier, IsPair, IsPart, Each, IsArray}
use Rattle.cert_form.specs.Code.Numbers.{multiplier_in}
use Rattle.cert_form.specs.Code.Reading.{whole_in, multiplier_at, pair_in, sum_in, each, single, double, together, only_whole, two_wholes, only_sum, sum_and_multiplier}
use Rattle.cert_form.proofs.Deciding.{Decides}
use Rattle.cert_form.proofs.Multipliers.{multiplier-sound, multiplier-complete}
use Rattle.cert_form.proofs.TextLaws.{string-is, array-is}

-- ---- steps that may fail

-- a step behind one that gave something
record IsThen {X Y : Type 0} (o : Option X) (f : X → Option Y) (y : Y) : Type 0 where
  value : X
  first : o ≡ Some value
  second : f value ≡ Some y

then-some : {X Y : Type 0} (o : Option X) (f : X → Option Y) (y : Y) → option_and_then f o ≡ Some y → IsThen o f y
then-some None f y e = absurd (cc)
then-some (Some x) f y e = record { value = x; first = refl; second = e }

record IsMapped {X Y : Type 0} (o : Option X) (f : X → Y) (y : Y) : Type 0 where
  value : X
  first : o ≡ Some value
  second : f value ≡ y

map-some : {X Y : Type 0} (o : Option X) (f : X → Y) (y : Y) → option_map f o ≡ Some y → IsMapped o f y
map-some None f y e = absurd (cc)
map-some (Some x) f y e = record { value = x; first = refl; second = cc }

record AreBoth {X Y : Type 0} (a : Option X) (b : Option Y) (x : X) (y : Y) : Type 0 where
  left : a ≡ Some x
  right : b ≡ Some y

both-some : {X Y : Type 0} (a : Option X) (b : Option Y) (p : X × Y) → together a b ≡ Some p → AreBoth a b p.0 p.1
both-some None b p e = absurd (cc)
both-some (Some x) None p e = absurd (cc)
both-some (Some x) (Some y) p e = let same : (x, y) ≡ p = cc in record { left = ap (λ q. Some q.0) same; right = ap (λ q. Some q.1) same }

pub double-is : (ds : Items) (p : Data × Data) → double ds ≡ Some p → ds ≡ item p.0 (item p.1 no_items)
double-is no_items p e = absurd (cc)
double-is (item d no_items) p e = absurd (cc)
double-is (item d (item f no_items)) p e = let same : (d, f) ≡ p = cc in ap (λ q. item q.0 (item q.1 no_items)) same
double-is (item d (item f (item g gs))) p e = absurd (cc)

pub single-is : (ds : Items) (d : Data) → single ds ≡ Some d → ds ≡ item d no_items
single-is no_items d e = absurd (cc)
single-is (item f no_items) d e = cc
single-is (item f (item g gs)) d e = absurd (cc)

-- ---- numbers

tested : (b : Bool) (m n : ℕ) → (if b then Some m else None) ≡ Some n → (b ≡ true) × (m ≡ n)
tested true m n e = (refl, cc)
tested false m n e = absurd (cc)

below : (m n : ℕ) → (if nat_lt m (2 ^ 32) then Some m else None) ≡ Some n → IsWhole n (number (unsigned m))
below m n e =
    let both = tested (nat_lt m (2 ^ 32)) m n e in
    let test = both.0 in
    let less : m < 2 ^ 32 = grind (arith, nat_tests) in
    (ap (λ (k : ℕ). number (unsigned k)) both.1, subst (λ (k : ℕ). k < 2 ^ 32) both.1 less)

whole-sound : (d : Data) (n : ℕ) → whole_in d ≡ Some n → IsWhole n d
whole-sound null n e = absurd (cc)
whole-sound (boolean b) n e = absurd (cc)
whole-sound (number (unsigned m)) n e = below m n e
whole-sound (number (negative z)) n e = absurd (cc)
whole-sound (number (float x)) n e = absurd (cc)
whole-sound (string s) n e = absurd (cc)
whole-sound (array ds) n e = absurd (cc)
whole-sound (object ms) n e = absurd (cc)

small : (n : ℕ) → n < 2 ^ 32 → whole_in (number (unsigned n)) ≡ Some n
small n h = grind (arith, nat_tests)

pub whole-decides : Decides IsWhole whole_in
whole-decides = record { sound = whole-sound; complete = λ d n is. ap whole_in is.0 ∙ small n is.1 }

multiplier-at-sound : (d : Data) (z : ℤ) → multiplier_at d ≡ Some z → IsMultiplier z d
multiplier-at-sound d z e =
    let both = then-some (as_str d) multiplier_in z e in
    let h = multiplier-sound both.value z both.second in
    (string-is d both.value both.first ∙ ap string h.text, h.bound)

pub multiplier-decides : Decides IsMultiplier multiplier_at
multiplier-decides = record { sound = multiplier-at-sound; complete = λ d z is. ap multiplier_at is.0 ∙ multiplier-complete z is.1 }

-- ---- pairs and sums

pair-sound : (d : Data) (p : ℕ × ℤ) → pair_in d ≡ Some p → IsPair p d
pair-sound d p e =
    let both = then-some (option_and_then double (as_array d)) (λ two. together (whole_in two.0) (multiplier_at two.1)) p e in
    let items = then-some (as_array d) double both.value both.first in
    let numbers = both-some (whole_in both.value.0) (multiplier_at both.value.1) p both.second in (
      both.value.0,
      both.value.1,
      array-is d items.value items.first ∙ ap array (double-is items.value both.value items.second),
      whole-decides.sound both.value.0 p.0 numbers.left,
      multiplier-decides.sound both.value.1 p.1 numbers.right,
    )

pair-complete : (d : Data) (p : ℕ × ℤ) → IsPair p d → pair_in d ≡ Some p
pair-complete d p is = ap pair_in is.2 ∙ rw (whole-decides.complete is.0 p.0 is.3, multiplier-decides.complete is.1 p.1 is.4) refl

pair-decides : Decides IsPair pair_in
pair-decides = record { sound = pair-sound; complete = pair-complete }

each-sound : {X : Type 0} {Is : X → Data → Type 0} {f : Data → Option X} → Decides Is f → (ds : Items) (xs : List X) → each f ds ≡ Some xs → Each Is xs ds
each-sound decides no_items [] e = tt
each-sound decides no_items (x ∷ xs) e = absurd (cc)
each-sound {Is = Is} {f = f} decides (item d ds) xs e =
    let first = then-some (f d) (λ x. option_map (λ ys. x ∷ ys) (each f ds)) xs e in
    let rest = map-some (each f ds) (λ ys. first.value ∷ ys) xs first.second in
    subst (λ zs. Each Is zs (item d ds)) rest.second (decides.sound d first.value first.first, each-sound decides ds rest.value rest.first)

each-complete : {X : Type 0} {Is : X → Data → Type 0} {f : Data → Option X} → Decides Is f → (ds : Items) (xs : List X) → Each Is xs ds → each f ds ≡ Some xs
each-complete decides no_items [] h = refl
each-complete decides no_items (x ∷ xs) h = absurd h
each-complete decides (item d ds) [] h = absurd h
each-complete decides (item d ds) (x ∷ xs) h = rw (decides.complete d x h.0, each-complete decides ds xs h.1) refl

sum-sound : (d : Data) (pairs : List (ℕ × ℤ)) → sum_in d ≡ Some pairs → IsArray IsPair pairs d
sum-sound d pairs e =
    let items = then-some (as_array d) (each pair_in) pairs e in
    (items.value, array-is d items.value items.first, each-sound pair-decides items.value pairs items.second)

sum-complete : (d : Data) (pairs : List (ℕ × ℤ)) → IsArray IsPair pairs d → sum_in d ≡ Some pairs
sum-complete d pairs is = ap sum_in is.1 ∙ each-complete pair-decides is.0 pairs is.2

pub sum-decides : Decides (IsArray IsPair) sum_in
sum-decides = record { sound = sum-sound; complete = sum-complete }

-- ---- the items behind a word

one-sound : {X : Type 0} (part : X → Part) (f : Data → Option X) → Decides (λ x d. IsPart (part x) d) f
    → (ds : Items) (x : X) → option_and_then f (single ds) ≡ Some x → Each IsPart (part x ∷ []) ds
one-sound part f decides no_items x e = absurd (cc)
one-sound part f decides (item d no_items) x e = (decides.sound d x e, tt)
one-sound part f decides (item d (item g gs)) x e = absurd (cc)

one-complete : {X : Type 0} (part : X → Part) (f : Data → Option X) → Decides (λ x d. IsPart (part x) d) f
    → (ds : Items) (x : X) → Each IsPart (part x ∷ []) ds → option_and_then f (single ds) ≡ Some x
one-complete part f decides no_items x h = absurd h
one-complete part f decides (item d no_items) x h = decides.complete d x h.0
one-complete part f decides (item d (item g gs)) x h = absurd h.1

two-sound : {X Y : Type 0} (part : X → Part) (other : Y → Part) (f : Data → Option X) (g : Data → Option Y)
    → Decides (λ x d. IsPart (part x) d) f → Decides (λ y d. IsPart (other y) d) g
    → (ds : Items) (p : X × Y) → option_and_then (λ two. together (f two.0) (g two.1)) (double ds) ≡ Some p → Each IsPart (part p.0 ∷ other p.1 ∷ []) ds
two-sound part other f g first second no_items p e = absurd (cc)
two-sound part other f g first second (item d no_items) p e = absurd (cc)
two-sound part other f g first second (item d (item h no_items)) p e =
    let parts = both-some (f d) (g h) p e in
    (first.sound d p.0 parts.left, (second.sound h p.1 parts.right, tt))
two-sound part other f g first second (item d (item h (item k ks))) p e = absurd (cc)

two-complete : {X Y : Type 0} (part : X → Part) (other : Y → Part) (f : Data → Option X) (g : Data → Option Y)
    → Decides (λ x d. IsPart (part x) d) f → Decides (λ y d. IsPart (other y) d) g
    → (ds : Items) (p : X × Y) → Each IsPart (part p.0 ∷ other p.1 ∷ []) ds → option_and_then (λ two. together (f two.0) (g two.1)) (double ds) ≡ Some p
two-complete part other f g first second no_items p is = absurd is
two-complete part other f g first second (item d no_items) p is = absurd is.1
two-complete part other f g first second (item d (item h no_items)) p is = rw (first.complete d p.0 is.0, second.complete h p.1 is.1.0) refl
two-complete part other f g first second (item d (item h (item k ks))) p is = absurd is.1.1

pub only_whole-decides : Decides (λ i args. Each IsPart (whole i ∷ []) args) only_whole
only_whole-decides = record { sound = one-sound whole whole_in whole-decides; complete = one-complete whole whole_in whole-decides }

pub only_sum-decides : Decides (λ s args. Each IsPart (sum s ∷ []) args) only_sum
only_sum-decides = record { sound = one-sound sum sum_in sum-decides; complete = one-complete sum sum_in sum-decides }

pub two_wholes-decides : Decides {X = ℕ × ℕ} (λ p args. Each IsPart (whole p.0 ∷ whole p.1 ∷ []) args) two_wholes
two_wholes-decides = record { sound = two-sound whole whole whole_in whole_in whole-decides whole-decides; complete = two-complete whole whole whole_in whole_in whole-decides whole-decides }

pub sum_and_multiplier-decides : Decides {X = List (ℕ × ℤ) × ℤ} (λ p args. Each IsPart (sum p.0 ∷ multiplier p.1 ∷ []) args) sum_and_multiplier
sum_and_multiplier-decides = record { sound = two-sound sum multiplier sum_in multiplier_at sum-decides multiplier-decides; complete = two-complete sum multiplier sum_in multiplier_at sum-decides multiplier-decides }
