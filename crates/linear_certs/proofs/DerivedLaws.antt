-- Entries come from the given rows.
use Rattle.std.proofs.Common.{◌≡◌, ◌∙◌, ℕ, ℤ, pos, ◌+ℤ◌, ◌*ℤ◌, ◌≤ℤ◌, ◌<ℤ◌, List, [], ◌∷◌, ap, sym, refl, arith, subst, Bool, true, false, ◌&&◌, suc, length, ◌⊎◌, inl, inr}
use Rattle.std.specs.List.{All, list_all}
use Rattle.std.proofs.lemmas.Int.{ints}
use Rattle.std.proofs.lemmas.List.Elements.{All-head, All-tail}
use Rattle.std.proofs.Math.IntN.{*ℤ-zero}
use Rattle.linear_rows.specs.declared.row.Row.{Row}
use Rattle.linear_rows.specs.Numbers.{fits, is_zero}
use Rattle.linear_rows.specs.Sums.{Part, From, IsInForm, dot, plus_times, row_fits}
use Rattle.linear_rows.specs.Combinations.{nothing, added, combination, AreAllowed, IsConstantFalse}
use Rattle.linear_rows.proofs.Ring.{dist, dist-left, assoc, mul-le}
use Rattle.linear_rows.proofs.SumLaws.{dot-sums}
use Rattle.linear_rows.proofs.FormLaws.{From-sums, unit, coefficient-first-unit}
use Rattle.linear_certs.specs.declared.entry.Entry.{Entry}
use Rattle.linear_certs.specs.Stages.{mixed, mixed_multipliers, multiple, combined, upper_times, lower_times, is_false, no_parts, is_negative}
use Rattle.linear_certs.specs.Code.Building.{weighed, IsDerived, IsGood}
use Rattle.linear_certs.proofs.Basics.{zero-plus, up-pos, parts-none, and-both, below-zero}

four : (p q r s : ℤ) → (p +ℤ q) +ℤ (r +ℤ s) ≡ (p +ℤ r) +ℤ (q +ℤ s)
four p q r s = omega (arith, ints)

mix-one : (a x b y d w v : ℤ) → (a *ℤ x +ℤ b *ℤ y) *ℤ d +ℤ (a *ℤ w +ℤ b *ℤ v) ≡ a *ℤ (x *ℤ d +ℤ w) +ℤ b *ℤ (y *ℤ d +ℤ v)
mix-one a x b y d w v = ap (λ z. z +ℤ (a *ℤ w +ℤ b *ℤ v)) (dist (a *ℤ x) (b *ℤ y) d ∙ ap (λ z. z +ℤ (b *ℤ y) *ℤ d) (assoc a x d) ∙ ap (λ z. a *ℤ (x *ℤ d) +ℤ z) (assoc b y d))
    ∙ four (a *ℤ (x *ℤ d)) (b *ℤ (y *ℤ d)) (a *ℤ w) (b *ℤ v)
    ∙ ap (λ z. z +ℤ (b *ℤ (y *ℤ d) +ℤ b *ℤ v)) (sym (dist-left a (x *ℤ d) w)) ∙ ap (λ z. a *ℤ (x *ℤ d +ℤ w) +ℤ z) (sym (dist-left b (y *ℤ d) v))

mix-none : (a b : ℤ) → pos 0 ≡ a *ℤ pos 0 +ℤ b *ℤ pos 0
mix-none a b = sym (ap (λ z. z +ℤ b *ℤ pos 0) (*ℤ-zero a) ∙ ap (λ z. pos 0 +ℤ z) (*ℤ-zero b))

pub weighed-mixed : (value : Row → ℤ) (rows : List Row) (a b : ℤ) (ms ns : List ℤ) → length ms ≡ length ns
    → weighed value rows (mixed_multipliers a ms b ns) ≡ a *ℤ weighed value rows ms +ℤ b *ℤ weighed value rows ns
weighed-mixed value [] a b ms ns same = mix-none a b
weighed-mixed value (r ∷ rs) a b [] [] same = mix-none a b
weighed-mixed value (r ∷ rs) a b [] (n ∷ ns) same = absurd (omega arith)
weighed-mixed value (r ∷ rs) a b (m ∷ ms) [] same = absurd (omega arith)
weighed-mixed value (r ∷ rs) a b (m ∷ ms) (n ∷ ns) same = ap (λ z. (a *ℤ m +ℤ b *ℤ n) *ℤ value r +ℤ z) (weighed-mixed value rs a b ms ns (omega arith))
    ∙ mix-one a m b n (value r) (weighed value rs ms) (weighed value rs ns)

pub length-mixed : (a b : ℤ) (ms ns : List ℤ) → length ms ≡ length ns → length (mixed_multipliers a ms b ns) ≡ length ms
length-mixed a b [] ns same = refl
length-mixed a b (m ∷ ms) [] same = absurd (omega arith)
length-mixed a b (m ∷ ms) (n ∷ ns) same = ap suc (length-mixed a b ms ns (omega arith))

nonneg : (a x : ℤ) → pos 0 ≤ℤ a → pos 0 ≤ℤ x → pos 0 ≤ℤ (a *ℤ x)
nonneg a x h k = subst (λ z. z ≤ℤ (a *ℤ x)) (*ℤ-zero a) (mul-le a (pos 0) x h k)

sum-up : (x y : ℤ) → pos 0 ≤ℤ x → pos 0 ≤ℤ y → pos 0 ≤ℤ (x +ℤ y)
sum-up x y h k = omega (arith, ints)

allowed-here : (equal : Bool) (a b x y : ℤ) → pos 0 ≤ℤ a → pos 0 ≤ℤ b → (pos 0 ≤ℤ x) ⊎ (equal ≡ true) → (pos 0 ≤ℤ y) ⊎ (equal ≡ true) → (pos 0 ≤ℤ (a *ℤ x +ℤ b *ℤ y)) ⊎ (equal ≡ true)
allowed-here equal a b x y up_a up_b (inr e) two = inr e
allowed-here equal a b x y up_a up_b (inl h) (inr e) = inr e
allowed-here equal a b x y up_a up_b (inl h) (inl k) = inl (sum-up (a *ℤ x) (b *ℤ y) (nonneg a x up_a h) (nonneg b y up_b k))

allowed-mixed : (rows : List Row) (a b : ℤ) (ms ns : List ℤ) → length ms ≡ length ns → pos 0 ≤ℤ a → pos 0 ≤ℤ b → AreAllowed rows ms → AreAllowed rows ns → AreAllowed rows (mixed_multipliers a ms b ns)
allowed-mixed [] a b ms ns same up_a up_b one two = tt
allowed-mixed (r ∷ rs) a b [] ns same up_a up_b one two = tt
allowed-mixed (r ∷ rs) a b (m ∷ ms) [] same up_a up_b one two = absurd (omega arith)
allowed-mixed (r ∷ rs) a b (m ∷ ms) (n ∷ ns) same up_a up_b one two =
    (allowed-here r.equal a b m n up_a up_b one.0 two.0, allowed-mixed rs a b ms ns (omega arith) up_a up_b one.1 two.1)

pub dot-mixed : (point : ℕ → ℤ) (a b : ℤ) (left right : Row) → dot point (mixed a left b right).parts ≡ a *ℤ dot point left.parts +ℤ b *ℤ dot point right.parts
dot-mixed point a b left right = dot-sums point b (multiple a left).parts right.parts ∙ ap (λ z. z +ℤ b *ℤ dot point right.parts) (dot-sums point a [] left.parts ∙ zero-plus (a *ℤ dot point left.parts))

pub bound-mixed : (a b : ℤ) (left right : Row) → (mixed a left b right).bound ≡ a *ℤ left.bound +ℤ b *ℤ right.bound
bound-mixed a b left right = ap (λ z. z +ℤ b *ℤ right.bound) (zero-plus (a *ℤ left.bound))

pub mixed-derived : (rows : List Row) (a b : ℤ) (left right : Entry) → pos 0 ≤ℤ a → pos 0 ≤ℤ b → IsDerived rows left → IsDerived rows right
    → IsDerived rows (record { row = mixed a left.row b right.row; multipliers = mixed_multipliers a left.multipliers b right.multipliers })
mixed-derived rows a b left right up_a up_b one two =
    let same : length left.multipliers ≡ length right.multipliers = one.count ∙ sym two.count in record {
      count = length-mixed a b left.multipliers right.multipliers same ∙ one.count;
      parts = λ point. dot-mixed point a b left.row right.row ∙ ap (λ z. a *ℤ z +ℤ b *ℤ dot point right.row.parts) (one.parts point)
          ∙ ap (λ z. a *ℤ weighed (λ row. dot point row.parts) rows left.multipliers +ℤ b *ℤ z) (two.parts point)
          ∙ sym (weighed-mixed (λ row. dot point row.parts) rows a b left.multipliers right.multipliers same);
      bound = bound-mixed a b left.row right.row ∙ ap (λ z. a *ℤ z +ℤ b *ℤ right.row.bound) one.bound
          ∙ ap (λ z. a *ℤ weighed (λ row. row.bound) rows left.multipliers +ℤ b *ℤ z) two.bound
          ∙ sym (weighed-mixed (λ row. row.bound) rows a b left.multipliers right.multipliers same);
      allowed = allowed-mixed rows a b left.multipliers right.multipliers same up_a up_b one.allowed two.allowed;
    }

pub combined-derived : (rows : List Row) (atom : ℕ) (upper lower : Entry) → IsDerived rows upper → IsDerived rows lower → IsDerived rows (combined atom upper lower)
combined-derived rows atom upper lower one two = mixed-derived rows (upper_times atom upper lower) (lower_times atom upper lower) upper lower (up-pos _) (up-pos _) one two

pub mixed-in-form : (low : ℕ) (a b : ℤ) (left right : Row) → From low left.parts → From low right.parts → From low (mixed a left b right).parts
mixed-in-form low a b left right one two = From-sums b (multiple a left).parts low right.parts (From-sums a [] low left.parts tt one) two

mixed-strict : (a b : ℤ) (left right : Row) → left.equal ≡ false → (mixed a left b right).equal ≡ false
mixed-strict a b left right h = ap (λ e. (true && e) && right.equal) h

pub combined-good : (rows : List Row) (atom : ℕ) (upper lower : Entry) → IsGood rows upper → IsGood rows lower
    → row_fits (combined atom upper lower).row ≡ true → list_all fits (combined atom upper lower).multipliers ≡ true → is_false (combined atom upper lower) ≡ false → IsGood rows (combined atom upper lower)
combined-good rows atom upper lower one two narrow small not_false = record {
  derived = combined-derived rows atom upper lower one.derived two.derived;
  form = mixed-in-form 0 (upper_times atom upper lower) (lower_times atom upper lower) upper.row lower.row one.form two.form;
  strict = mixed-strict (upper_times atom upper lower) (lower_times atom upper lower) upper.row lower.row one.strict;
  narrow = narrow;
  small = small;
  not_false = not_false;
}

-- The running sum of the given rows is what their multipliers weigh.
right_to : (p q r s : ℤ) → s ≡ p +ℤ q → s +ℤ r ≡ p +ℤ (q +ℤ r)
right_to p q r s e = omega (arith, ints)

zero-right : (p : ℤ) → p ≡ p +ℤ pos 0
zero-right p = omega (arith, ints)

added-parts : (point : ℕ → ℤ) (sum : Row) (rows : List Row) (ms : List ℤ) → dot point (added sum rows ms).parts ≡ dot point sum.parts +ℤ weighed (λ row. dot point row.parts) rows ms
added-parts point sum [] ms = zero-right (dot point sum.parts)
added-parts point sum (r ∷ rs) [] = zero-right (dot point sum.parts)
added-parts point sum (r ∷ rs) (m ∷ ms) = added-parts point (plus_times sum m r) rs ms
    ∙ right_to (dot point sum.parts) (m *ℤ dot point r.parts) (weighed (λ row. dot point row.parts) rs ms) (dot point (plus_times sum m r).parts) (dot-sums point m sum.parts r.parts)

added-bound : (sum : Row) (rows : List Row) (ms : List ℤ) → (added sum rows ms).bound ≡ sum.bound +ℤ weighed (λ row. row.bound) rows ms
added-bound sum [] ms = zero-right sum.bound
added-bound sum (r ∷ rs) [] = zero-right sum.bound
added-bound sum (r ∷ rs) (m ∷ ms) = added-bound (plus_times sum m r) rs ms ∙ right_to sum.bound (m *ℤ r.bound) (weighed (λ row. row.bound) rs ms) (sum.bound +ℤ m *ℤ r.bound) refl

added-in-form : (sum : Row) (rows : List Row) (ms : List ℤ) → IsInForm sum → All IsInForm rows → IsInForm (added sum rows ms)
added-in-form sum [] ms one all = one
added-in-form sum (r ∷ rs) [] one all = one
added-in-form sum (r ∷ rs) (m ∷ ms) one all = added-in-form (plus_times sum m r) rs ms (From-sums m sum.parts 0 r.parts one (All-head IsInForm r rs all)) (All-tail IsInForm r rs all)

-- A row in form that comes to 0 at every point has no parts.
no-parts-left : (parts : List Part) → From 0 parts → ((point : ℕ → ℤ) → dot point parts ≡ pos 0) → parts ≡ []
no-parts-left [] from zero_is = refl
no-parts-left (x ∷ xs) from zero_is = absurd (nonzero x.1 from.1 (sym (coefficient-first-unit x xs 0 from) ∙ zero_is (unit x.0)))
  where
    nonzero : (c : ℤ) → is_zero c ≡ false → c ≡ pos 0 → ⊥
    nonzero c h e = cc-of (is_zero c) h (ap is_zero e)
      where
        cc-of : (b : Bool) → b ≡ false → b ≡ true → ⊥
        cc-of true h k = cc
        cc-of false h k = cc

pub false-closes : (rows : List Row) (entry : Entry) → All IsInForm rows → IsDerived rows entry → is_false entry ≡ true → IsConstantFalse (combination rows entry.multipliers)
false-closes rows entry in_form derived fails =
    let both = and-both (no_parts entry.row.parts) (is_negative entry.row.bound) fails in record {
      constant = no-parts-left (combination rows entry.multipliers).parts (added-in-form nothing rows entry.multipliers tt in_form)
          (λ point. added-parts point nothing rows entry.multipliers ∙ zero-plus (weighed (λ row. dot point row.parts) rows entry.multipliers) ∙ sym (derived.parts point) ∙ ap (dot point) (parts-none entry.row.parts both.0));
      fails = inl (subst (λ z. z <ℤ pos 0) (derived.bound ∙ sym (zero-plus (weighed (λ row. row.bound) rows entry.multipliers)) ∙ sym (added-bound nothing rows entry.multipliers)) (below-zero entry.row.bound both.1));
    }
