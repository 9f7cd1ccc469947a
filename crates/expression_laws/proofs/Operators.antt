-- What each operator gives for operands that are worth their formulas, where the operator's conditions are true.
use Rattle.std.proofs.Common.{◌≡◌, ◌∙◌, ℕ, ℤ, pos, ◌+ℤ◌, ◌-ℤ◌, ◌*ℤ◌, ◌<ℤ◌, Bool, true, false, not, ◌&&◌, ◌||◌, int_le, int_lt, IsTrue, if◌then◌else◌, List, [], ◌++◌, map, Ok, Err, refl, sym, ap, ap₂, subst, arith}
use Rattle.std.specs.Prelude.{int_div, int_rem}
use Rattle.std.specs.Ordering.{int_eq}
use Rattle.std.specs.Str.{bytes_eq}
use Rattle.std.proofs.lemmas.Int.{ints}
use Rattle.std.proofs.lemmas.Bool.Decides.{Decides-int_eq, same_from_decides}
use Rattle.std.proofs.lemmas.Slice.Eq.{bytes_eq-Decides}
use Rattle.c_lang.specs.Names.{Bytes}
use Rattle.c_lang.specs.Values.{Value, Num, Code, Null, Answer, number, fits_int, in_range, is_zero, truth, negated, quotient, remainder}
use Rattle.c_lang.specs.Evaluation.{and_then, same_value, applied, joined}
use Rattle.c_lang.specs.declared.event.Trap.TheVariants as trap
use Rattle.c_lang.specs.declared.expr.Op.{Op}
use Rattle.c_lang.specs.declared.expr.Op.TheVariants as op
use Rattle.c_lang.specs.declared.stmt.Kind.{Kind}
use Rattle.c_lang.specs.declared.stmt.Kind.TheVariants.{Int, Fp}
use Rattle.c_types.specs.Expressions.{compares_kinds}
use Rattle.terms.specs.Trees as tree
use Rattle.terms.specs.Trees.{TermTree, FormTree}
use Rattle.terms.specs.Truth.{Interpretation, term_at, form_at, number_of, quotient_of, remainder_of}
use Rattle.expression_conditions.specs.declared.meaning.Meaning.{Meaning}
use Rattle.expression_conditions.specs.declared.meaning.Meaning.TheVariants as meant
use Rattle.expression_conditions.specs.Numbers.{Numbers}
use Rattle.expression_conditions.specs.Meanings.{as_number, as_condition, below, operated}
use Rattle.expression_conditions.specs.Owed.{Owed, fits, operator_owes, under, behind, least_int, greatest_int}
use Rattle.expression_laws.proofs.KindedValues.{Gives, gives_more, value_number, HasKind, int_number, TellsApart}
use Rattle.expression_laws.proofs.Arithmetic.{in_bounds, less_test, range_gives, true_false, truth_back, not_zero, double_not, small_number, not_zero_false, quotient_is, remainder_is, remainder_fits}
use Rattle.expression_laws.proofs.TrueConditions.{AreMet, IsMet, met_left, met_right, met_under}

-- an operand, and what is done with its value
pub after : (a : Answer Bytes) (go : Value Bytes → Answer Bytes) (P Q : Value Bytes → Type 0) → Gives a P → ((x : Value Bytes) → P x → Gives (go x) Q)
    → Gives (and_then a go) Q
after (Ok x) go P Q h k = k x h
after (Err t) go P Q h k = absurd h

-- two operands, and what is done with their values
after_both : (a b : Answer Bytes) (go : Value Bytes → Value Bytes → Answer Bytes) (P Q R : Value Bytes → Type 0) → Gives a P → Gives b Q
    → ((x y : Value Bytes) → P x → Q y → Gives (go x y) R) → Gives (and_then a (λ x. and_then b (go x))) R
after_both a b go P Q R h k both = after a (λ x. and_then b (go x)) P R h (λ x p. after b (go x) Q R k (λ y q. both x y p q))

module _ (Reached : ℕ → Bytes → Type 0) (n : Numbers) (v : Interpretation) where
  -- the value has its kind, the meaning as a number is the value's number, and as a condition that the number isn't 0
  pub record IsWorth (k : Kind) (m : Meaning) (w : Value Bytes) : Type 0 where
    pub of_kind : HasKind Reached k w
    pub as_term : term_at v (as_number m) ≡ value_number n w
    pub as_form : form_at v (as_condition m) ≡ not (is_zero (value_number n w))

  pub number_worth : (k : Kind) (t : TermTree) (w : Value Bytes) → HasKind Reached k w → term_at v t ≡ value_number n w → IsWorth k (meant.Number t) w
  number_worth k t w h e = record {
    of_kind = h;
    as_term = e;
    as_form = not_zero (term_at v t) ∙ ap (λ z. not (is_zero z)) e;
  }

  pub condition_worth : (f : FormTree) (b : Bool) → form_at v f ≡ b → Gives (truth b) (IsWorth Int (meant.Condition f))
  condition_worth f b e = record {
    of_kind = small_number b;
    as_term = ap number_of e;
    as_form = e ∙ truth_back b;
  }

  pub range_worth : (t : TermTree) (z : ℤ) → term_at v t ≡ z → IsMet v (fits t) → Gives (in_range z) (IsWorth Int (meant.Number t))
  range_worth t z e h =
      let fit : IsTrue (fits_int z) = in_bounds z (subst (λ y. IsTrue (int_le least_int y && int_le y greatest_int)) e (h tt)) in
      gives_more (in_range z) (λ w. w ≡ Num z) (IsWorth Int (meant.Number t))
      (λ w same. subst (IsWorth Int (meant.Number t)) (sym same) (number_worth Int t (Num z) fit e)) (range_gives z fit)

  quotient_worth : (s t : TermTree) (x y : ℤ) → term_at v s ≡ x → term_at v t ≡ y → AreMet v (operator_owes op.Div s t)
      → Gives (quotient x y) (IsWorth Int (meant.Number (tree.divided s t)))
  quotient_worth s t x y p q h = by_zero (is_zero y) (subst (λ z. is_zero z ≡ false) q (not_zero_false (term_at v t) (h.0 tt))) refl
    where
      by_zero : (b : Bool) → is_zero y ≡ false → is_zero y ≡ b → Gives (if b then Err trap.Divide else in_range (int_div x y)) (IsWorth Int (meant.Number (tree.divided s t)))
      by_zero true e same = absurd (true_false (sym same ∙ e))
      by_zero false e same = range_worth (tree.divided s t) (int_div x y) (ap₂ quotient_of p q ∙ quotient_is x y e) h.1.0

  remainder_worth : (s t : TermTree) (x y : ℤ) → IsTrue (fits_int y) → term_at v s ≡ x → term_at v t ≡ y → AreMet v (operator_owes op.Rem s t)
      → Gives (remainder x y) (IsWorth Int (meant.Number (tree.remainder s t)))
  remainder_worth s t x y fit p q h =
      let whole : is_zero y ≡ false = subst (λ z. is_zero z ≡ false) q (not_zero_false (term_at v t) (h.0 tt)) in
      let held : IsTrue (fits_int (int_div x y)) = in_bounds (int_div x y) (subst (λ z. IsTrue (int_le least_int z && int_le z greatest_int)) (ap₂ quotient_of p q ∙ quotient_is x y whole) (h.1.0 tt)) in
      by_tests whole (is_zero y) (fits_int (int_div x y)) whole held
    where
      by_tests : is_zero y ≡ false → (b c : Bool) → b ≡ false → IsTrue c → Gives (if b then Err trap.Divide else (if c then Ok (Num (int_rem x y)) else Err trap.Overflow)) (IsWorth Int (meant.Number (tree.remainder s t)))
      by_tests whole true c e i = absurd (true_false e)
      by_tests whole false false e i = absurd (true_false (sym i))
      by_tests whole false true e i = number_worth Int (tree.remainder s t) (Num (int_rem x y)) (remainder_fits x y whole fit) (ap₂ remainder_of p q ∙ remainder_is x y whole)

  -- an int operand's number
  pub worth_number : (m : Meaning) (w : Value Bytes) → IsWorth Int m w → term_at v (as_number m) ≡ number w
  worth_number m w h = h.as_term ∙ int_number Reached n w h.of_kind

  worth_condition : (m : Meaning) (w : Value Bytes) → IsWorth Int m w → form_at v (as_condition m) ≡ not (is_zero (number w))
  worth_condition m w h = h.as_form ∙ ap (λ z. not (is_zero z)) (int_number Reached n w h.of_kind)

  int_fits : (w : Value Bytes) → HasKind Reached Int w → IsTrue (fits_int (number w))
  int_fits (Num z) h = h
  int_fits (Code f) h = absurd h
  int_fits Null h = absurd h

  pub negated_worth : (m : Meaning) (w : Value Bytes) → IsWorth Int m w → IsMet v (fits (tree.minus (tree.number (pos 0)) (as_number m)))
      → Gives (negated (number w)) (IsWorth Int (meant.Number (tree.minus (tree.number (pos 0)) (as_number m))))
  negated_worth m w p h = range_worth (tree.minus (tree.number (pos 0)) (as_number m)) (pos 0 -ℤ number w) (ap (λ z. pos 0 -ℤ z) (worth_number m w p)) h

  pub denied_worth : (m : Meaning) (w : Value Bytes) → IsWorth Int m w → Gives (truth (is_zero (number w))) (IsWorth Int (meant.Condition (tree.denied (as_condition m))))
  denied_worth m w p = condition_worth (tree.denied (as_condition m)) (is_zero (number w)) (ap not (worth_condition m w p) ∙ double_not (is_zero (number w)))

  less_worth : (a b : Meaning) (x y : Value Bytes) → IsWorth Int a x → IsWorth Int b y
      → Gives (truth (int_lt (number x) (number y))) (IsWorth Int (meant.Condition (below (as_number a) (as_number b))))
  less_worth a b x y p q = condition_worth (below (as_number a) (as_number b)) (int_lt (number x) (number y))
      (less_test (term_at v (as_number a)) (term_at v (as_number b)) ∙ ap₂ int_lt (worth_number a x p) (worth_number b y q))

  at_most_worth : (a b : Meaning) (x y : Value Bytes) → IsWorth Int a x → IsWorth Int b y
      → Gives (truth (int_le (number x) (number y))) (IsWorth Int (meant.Condition (tree.at_most (as_number a) (as_number b))))
  at_most_worth a b x y p q = condition_worth (tree.at_most (as_number a) (as_number b)) (int_le (number x) (number y))
      (ap₂ int_le (worth_number a x p) (worth_number b y q))

  module _ (tells : TellsApart Reached n) where
    -- two values of one kind are the same exactly where their numbers are
    same_test : (k : Kind) (x y : Value Bytes) → HasKind Reached k x → HasKind Reached k y
        → int_eq (value_number n x) (value_number n y) ≡ same_value bytes_eq x y
    same_test Int (Num a) (Num b) h i = refl
    same_test Int (Num a) (Code g) h i = absurd i
    same_test Int (Num a) Null h i = absurd i
    same_test Int (Code f) y h i = absurd h
    same_test Int Null y h i = absurd h
    same_test (Fp m) (Num a) y h i = absurd h
    same_test (Fp m) (Code f) (Num b) h i = absurd i
    same_test (Fp m) (Code f) (Code g) h i =
        same_from_decides (int_eq (n.function f) (n.function g)) (bytes_eq f g) (Decides-int_eq (n.function f) (n.function g))
        ((λ e. ap n.function ((bytes_eq-Decides f g).0 e)), (λ e. (bytes_eq-Decides f g).1 (tells.apart m f g h i e)))
    same_test (Fp m) (Code f) Null h i = not_null (n.function f) (tells.above m f h)
      where
        not_null : (z : ℤ) → pos 0 <ℤ z → int_eq z (pos 0) ≡ false
        not_null z less = by_bool (int_eq z (pos 0)) refl
          where
            by_bool : (b : Bool) → int_eq z (pos 0) ≡ b → b ≡ false
            by_bool true e = let same : z ≡ pos 0 = (Decides-int_eq z (pos 0)).0 e in absurd (omega (arith, ints, less, same))
            by_bool false e = refl
    same_test (Fp m) Null (Num b) h i = absurd i
    same_test (Fp m) Null (Code g) h i = not_null (n.function g) (tells.above m g i)
      where
        not_null : (z : ℤ) → pos 0 <ℤ z → int_eq (pos 0) z ≡ false
        not_null z less = by_bool (int_eq (pos 0) z) refl
          where
            by_bool : (b : Bool) → int_eq (pos 0) z ≡ b → b ≡ false
            by_bool true e = let same : pos 0 ≡ z = (Decides-int_eq (pos 0) z).0 e in absurd (omega (arith, ints, less, same))
            by_bool false e = refl
    same_test (Fp m) Null Null h i = refl

    equal_test : (k : Kind) (a b : Meaning) (x y : Value Bytes) → IsWorth k a x → IsWorth k b y
        → form_at v (tree.equal (as_number a) (as_number b)) ≡ same_value bytes_eq x y
    equal_test k a b x y p q = ap₂ int_eq p.as_term q.as_term ∙ same_test k x y p.of_kind q.of_kind

    -- a right operand that is evaluated only where the left one is a given truth value
    pub and_worth : (a b : Meaning) (x : Value Bytes) (r : Answer Bytes) → IsWorth Int a x
        → (IsTrue (form_at v (as_condition a)) → Gives r (IsWorth Int b))
        → Gives (if is_zero (number x) then truth false else and_then r (λ y. truth (not (is_zero (number y))))) (IsWorth Int (operated op.And a b))
    and_worth a b x r p right = by_left (is_zero (number x)) (worth_condition a x p)
      where
        by_left : (z : Bool) → form_at v (as_condition a) ≡ not z
            → Gives (if z then truth false else and_then r (λ y. truth (not (is_zero (number y))))) (IsWorth Int (operated op.And a b))
        by_left true e = condition_worth (tree.both (as_condition a) (as_condition b)) false (ap (λ f. f && form_at v (as_condition b)) e)
        by_left false e = after r (λ y. truth (not (is_zero (number y)))) (IsWorth Int b) (IsWorth Int (operated op.And a b)) (right e)
            (λ y q. condition_worth (tree.both (as_condition a) (as_condition b)) (not (is_zero (number y))) (ap₂ (λ f g. f && g) e (worth_condition b y q)))

    pub or_worth : (a b : Meaning) (x : Value Bytes) (r : Answer Bytes) → IsWorth Int a x
        → (IsTrue (not (form_at v (as_condition a))) → Gives r (IsWorth Int b))
        → Gives (if is_zero (number x) then and_then r (λ y. truth (not (is_zero (number y)))) else truth true) (IsWorth Int (operated op.Or a b))
    or_worth a b x r p right = by_left (is_zero (number x)) (worth_condition a x p)
      where
        by_left : (z : Bool) → form_at v (as_condition a) ≡ not z
            → Gives (if z then and_then r (λ y. truth (not (is_zero (number y)))) else truth true) (IsWorth Int (operated op.Or a b))
        by_left true e = after r (λ y. truth (not (is_zero (number y)))) (IsWorth Int b) (IsWorth Int (operated op.Or a b)) (right (ap not e))
            (λ y q. condition_worth (tree.either (as_condition a) (as_condition b)) (not (is_zero (number y))) (ap₂ (λ f g. f || g) e (worth_condition b y q)))
        by_left false e = condition_worth (tree.either (as_condition a) (as_condition b)) true (ap (λ f. f || form_at v (as_condition b)) e)

    -- both operands, and what the operator gives
    both_operands : (k : Kind) (l r : Answer Bytes) (a b m : Meaning) (os rest : List Owed) (go : Value Bytes → Value Bytes → Answer Bytes)
        → Gives l (IsWorth k a) → (AreMet v os → Gives r (IsWorth k b)) → AreMet v (os ++ rest)
        → ((x y : Value Bytes) → IsWorth k a x → IsWorth k b y → AreMet v rest → Gives (go x y) (IsWorth Int m))
        → Gives (and_then l (λ x. and_then r (go x))) (IsWorth Int m)
    both_operands k l r a b m os rest go left right h both =
        after_both l r go (IsWorth k a) (IsWorth k b) (IsWorth Int m) left (right (met_left v os rest h)) (λ x y p q. both x y p q (met_right v os rest h))

    -- `==` and `!=` compare two values of one kind, which is Int for all other operators
    pub operated_worth : (o : Op) (j : Kind) (l r : Answer Bytes) (a b : Meaning) (os : List Owed)
        → Gives l (IsWorth (if compares_kinds o then j else Int) a) → (AreMet v os → Gives r (IsWorth (if compares_kinds o then j else Int) b))
        → AreMet v (behind o (as_condition a) os ++ operator_owes o (as_number a) (as_number b))
        → Gives (joined bytes_eq o l r) (IsWorth Int (operated o a b))
    operated_worth op.Mul j l r a b os left right h =
        both_operands Int l r a b (operated op.Mul a b) os (operator_owes op.Mul (as_number a) (as_number b)) (applied bytes_eq op.Mul) left right h (λ x y p q owed.
        range_worth (tree.times (as_number a) (as_number b)) (number x *ℤ number y) (ap₂ (λ i j. i *ℤ j) (worth_number a x p) (worth_number b y q)) owed.0)
    operated_worth op.Div j l r a b os left right h =
        both_operands Int l r a b (operated op.Div a b) os (operator_owes op.Div (as_number a) (as_number b)) (applied bytes_eq op.Div) left right h (λ x y p q owed.
        quotient_worth (as_number a) (as_number b) (number x) (number y) (worth_number a x p) (worth_number b y q) owed)
    operated_worth op.Rem j l r a b os left right h =
        both_operands Int l r a b (operated op.Rem a b) os (operator_owes op.Rem (as_number a) (as_number b)) (applied bytes_eq op.Rem) left right h (λ x y p q owed.
        remainder_worth (as_number a) (as_number b) (number x) (number y) (int_fits y q.of_kind) (worth_number a x p) (worth_number b y q) owed)
    operated_worth op.Add j l r a b os left right h =
        both_operands Int l r a b (operated op.Add a b) os (operator_owes op.Add (as_number a) (as_number b)) (applied bytes_eq op.Add) left right h (λ x y p q owed.
        range_worth (tree.plus (as_number a) (as_number b)) (number x +ℤ number y) (ap₂ (λ i j. i +ℤ j) (worth_number a x p) (worth_number b y q)) owed.0)
    operated_worth op.Sub j l r a b os left right h =
        both_operands Int l r a b (operated op.Sub a b) os (operator_owes op.Sub (as_number a) (as_number b)) (applied bytes_eq op.Sub) left right h (λ x y p q owed.
        range_worth (tree.minus (as_number a) (as_number b)) (number x -ℤ number y) (ap₂ (λ i j. i -ℤ j) (worth_number a x p) (worth_number b y q)) owed.0)
    operated_worth op.Lt j l r a b os left right h =
        both_operands Int l r a b (operated op.Lt a b) os [] (applied bytes_eq op.Lt) left right h (λ x y p q owed. less_worth a b x y p q)
    operated_worth op.Le j l r a b os left right h =
        both_operands Int l r a b (operated op.Le a b) os [] (applied bytes_eq op.Le) left right h (λ x y p q owed. at_most_worth a b x y p q)
    operated_worth op.Gt j l r a b os left right h =
        both_operands Int l r a b (operated op.Gt a b) os [] (applied bytes_eq op.Gt) left right h (λ x y p q owed. less_worth b a y x q p)
    operated_worth op.Ge j l r a b os left right h =
        both_operands Int l r a b (operated op.Ge a b) os [] (applied bytes_eq op.Ge) left right h (λ x y p q owed. at_most_worth b a y x q p)
    operated_worth op.Eq j l r a b os left right h =
        both_operands j l r a b (operated op.Eq a b) os [] (applied bytes_eq op.Eq) left right h (λ x y p q owed.
        condition_worth (tree.equal (as_number a) (as_number b)) (same_value bytes_eq x y) (equal_test j a b x y p q))
    operated_worth op.Ne j l r a b os left right h =
        both_operands j l r a b (operated op.Ne a b) os [] (applied bytes_eq op.Ne) left right h (λ x y p q owed.
        condition_worth (tree.denied (tree.equal (as_number a) (as_number b))) (not (same_value bytes_eq x y)) (ap not (equal_test j a b x y p q)))
    operated_worth op.And j l r a b os left right h =
        after l (λ x. if is_zero (number x) then truth false else and_then r (λ y. truth (not (is_zero (number y))))) (IsWorth Int a) (IsWorth Int (operated op.And a b)) left (λ x p.
        and_worth a b x r p (λ given. right (met_under v (as_condition a) os given (met_left v (map (under (as_condition a)) os) [] h))))
    operated_worth op.Or j l r a b os left right h =
        after l (λ x. if is_zero (number x) then and_then r (λ y. truth (not (is_zero (number y)))) else truth true) (IsWorth Int a) (IsWorth Int (operated op.Or a b)) left (λ x p.
        or_worth a b x r p (λ given. right (met_under v (tree.denied (as_condition a)) os given (met_left v (map (under (tree.denied (as_condition a))) os) [] h))))
