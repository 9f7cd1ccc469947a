-- A typed expression whose conditions are true has a value of its kind, and the term and the form that are made of it are
-- worth that value.
use Rattle.std.proofs.Common.{◌≡◌, ◌∙◌, ◌<◌, ℕ, ℤ, pos, negsuc, ◌-ℤ◌, ◌≤ℤ◌, Bool, ◌&&◌, ◌||◌, int_le, IsTrue, List, [], ◌∷◌, ◌++◌, length, Some, None, refl, sym, ap, subst, arith}
use Rattle.std.specs.Prelude.{⊤, ◌^◌, ◌≤◌}
use Rattle.std.specs.Option.{option_or}
use Rattle.std.proofs.Math.ListN.{get_or}
use Rattle.std.proofs.lemmas.Option.{slice_get-get_or}
use Rattle.std.proofs.lemmas.Slice.Eq.{bytes_eq-Decides}
use Rattle.std.specs.Str.{bytes_eq}
use Rattle.std.proofs.lemmas.Int.{ints}
use Rattle.std.proofs.lemmas.Bool.Decides.{nat_tests}
use Rattle.c_lang.specs.Names.{Bytes}
use Rattle.c_lang.specs.Trees.{Expression, literal, variable, element, function, null, negation, logical_not, binary}
use Rattle.c_lang.specs.Values.{Num, Code, Null, number, fits_int, negated, is_zero, truth}
use Rattle.c_lang.specs.Evaluation.{Look, element_at, found_element, ev}
use Rattle.c_lang.specs.declared.stmt.Kind.{Kind}
use Rattle.c_lang.specs.declared.stmt.Kind.TheVariants.{Int, Fp}
use Rattle.c_types.specs.Names as means
use Rattle.c_types.specs.Names.{Means, Names}
use Rattle.c_types.specs.Typing.{IsFunction, IsArray, IsPointer}
use Rattle.c_types.specs.Expressions.{or_int, kind_of, place_of}
use Rattle.resolved_types.proofs.ResolvedTyping.{IsInt, IsVariable, IsResolved, AreResolvedArguments}
use Rattle.written_laws.specs.Literals.{IsLiteral, HasInts, HaveInts, largest}
use Rattle.terms.specs.Trees as tree
use Rattle.terms.specs.Trees.{TermTree}
use Rattle.terms.specs.Truth.{Interpretation, term_at}
use Rattle.expression_conditions.specs.declared.meaning.Meaning.TheVariants as meant
use Rattle.expression_conditions.specs.Numbers.{Numbers}
use Rattle.expression_conditions.specs.Candidates as candidate
use Rattle.expression_conditions.specs.Meanings.{current, meaning, val, form}
use Rattle.expression_conditions.specs.Owed.{own, own_all, own_element, is_index, fits, behind, operator_owes}
use Rattle.expression_laws.proofs.KindedValues.{Gives, gives_more, HasKind, Fits, AreCurrent, TellsApart}
use Rattle.expression_laws.proofs.Arithmetic.{and_left, and_right, at_most_test, one_of_two, other_of_two}
use Rattle.expression_laws.proofs.TrueConditions.{AreMet, IsMet, met_left, met_right}
use Rattle.expression_laws.proofs.Operators.{after, IsWorth, number_worth, worth_number, negated_worth, denied_worth, operated_worth}

literal_fits : (z : ℤ) → IsLiteral z → IsTrue (fits_int z)
literal_fits z h = subst (λ y. IsTrue (fits_int y)) (sym h.1) (small h.0 h.2)
  where
    small : (m : ℕ) → m ≤ largest → IsTrue (fits_int (pos m))
    small m le = let less : m < 2 ^ 31 = omega (arith, le) in grind (arith, nat_tests, less)

no_function : (m : Means) → IsFunction Int m → ⊥
no_function (means.Code params gives (Some j) denied) h = cc
no_function (means.Code params gives None denied) h = h
no_function (means.Cell k) h = h
no_function means.Array h = h
no_function (means.Refused j) h = h

is_array : (m : Means) → IsArray m → m ≡ means.Array
is_array means.Array h = refl
is_array (means.Cell k) h = absurd h
is_array (means.Code params gives value denied) h = absurd h
is_array (means.Refused j) h = absurd h

-- `Reached m f`: a pointer to functions of m parameters may have the function f
module _ (Reached : ℕ → Bytes → Type 0) (n : Numbers) (names : Names) (look : Look Bytes) (v : Interpretation)
    (tells : TellsApart Reached n) (fit : Fits Reached n names look) (currents : AreCurrent n names look v) where
  -- each function whose name is a value, by this test, is one that pointers of its kind may have
  abbrev pub MayPoint : (Bytes → Bool) → Type 0
  MayPoint is_named = (f : Bytes) (m : ℕ) → IsTrue (is_named f) → IsFunction (Fp m) (names f) → Reached m f

  -- there is a value of this kind, which is what the expression stands for
  abbrev pub IsEvaluated : Kind → Expression → Type 0
  IsEvaluated k e = Gives (ev bytes_eq look e) (IsWorth Reached n v k (meaning n e))

  variable_evaluated : (k : Kind) (x : Bytes) → IsVariable k (names x) → IsEvaluated k (variable x)
  variable_evaluated k x h = by_means (names x) refl h
    where
      by_means : (m : Means) → names x ≡ m → IsVariable k m → IsEvaluated k (variable x)
      by_means (means.Cell j) e same =
          number_worth Reached n v k (tree.name (current x)) (look.value x) (subst (λ i. HasKind Reached i (look.value x)) (sym same) (fit.cells x j e)) (currents.values x j e)
      by_means means.Array e h = absurd h
      by_means (means.Code params gives value denied) e h = absurd h
      by_means (means.Refused j) e h = absurd h

  function_evaluated : (k : Kind) (f : Bytes) → IsFunction k (names f) → MayPoint (λ g. candidate.names g (function f)) → IsEvaluated k (function f)
  function_evaluated Int f h points = absurd (no_function (names f) h)
  function_evaluated (Fp m) f h points =
      let itself : IsTrue (bytes_eq f f) = (bytes_eq-Decides f f).1 refl in
      number_worth Reached n v (Fp m) (tree.number (n.function f)) (Code (look.code f))
      (subst (Reached m) (sym (fit.code f)) (points f m itself h)) (ap n.function (sym (fit.code f)))

  literal_evaluated : (k : Kind) (z : ℤ) → IsInt k → IsLiteral z → IsEvaluated k (literal z)
  literal_evaluated Int z h int = number_worth Reached n v Int (tree.number z) (Num z) (literal_fits z int) refl
  literal_evaluated (Fp m) z h int = absurd h

  null_evaluated : (k : Kind) → IsPointer k → IsEvaluated k null
  null_evaluated Int h = absurd h
  null_evaluated (Fp m) h = number_worth Reached n v (Fp m) (tree.number (pos 0)) Null tt refl

  -- an index of the array's elements
  abbrev pub IsIndex : Bytes → ℤ → Type 0
  IsIndex a z = (i : ℕ) × (z ≡ pos i) × (i < length (look.elements a))

  index_within : (a : Bytes) (t : TermTree) (z : ℤ) → names a ≡ means.Array → term_at v t ≡ z → IsMet v (is_index n a t) → IsIndex a z
  index_within a t z known e h =
      let within : IsTrue (int_le (pos 0) z && int_le z (pos (length (look.elements a)) -ℤ pos 1)) =
      subst (λ l. IsTrue (int_le (pos 0) z && int_le z (l -ℤ pos 1))) (fit.lengths a known)
      (subst (λ y. IsTrue (int_le (pos 0) y && int_le y (n.length a -ℤ pos 1))) e (h tt)) in
      by_sign z (at_most_test (pos 0) z (and_left _ _ within)) (at_most_test z (pos (length (look.elements a)) -ℤ pos 1) (and_right _ _ within))
    where
      by_sign : (z : ℤ) → pos 0 ≤ℤ z → z ≤ℤ (pos (length (look.elements a)) -ℤ pos 1) → IsIndex a z
      by_sign (negsuc i) low high = absurd (omega (arith, ints, low))
      by_sign (pos i) low high = (i, refl, omega (arith, ints, high))

  element_worth : (a : Bytes) (t : TermTree) (z : ℤ) → names a ≡ means.Array → term_at v t ≡ z → IsIndex a z
      → Gives (element_at (look.elements a) z) (IsWorth Reached n v Int (meant.Number (tree.read (tree.array (current a)) t)))
  element_worth a t z known e index =
      let there = slice_get-get_or (look.elements a) index.0 (pos 0) index.2 in
      let read = get_or (look.elements a) index.0 (pos 0) in
      let worth = number_worth Reached n v Int (tree.read (tree.array (current a)) t) (Num read) (fit.elements a known index.0 (pos 0) index.2)
      (ap (v.element (current a)) (e ∙ index.1) ∙ currents.elements a known index.0 read there) in
      subst (λ y. Gives (element_at (look.elements a) y) (IsWorth Reached n v Int (meant.Number (tree.read (tree.array (current a)) t)))) (sym index.1)
      (subst (λ o. Gives (found_element o) (IsWorth Reached n v Int (meant.Number (tree.read (tree.array (current a)) t)))) (sym there) worth)

  pub evaluated : (k : Kind) (e : Expression) → IsResolved names k e → HasInts e → MayPoint (λ f. candidate.names f e) → AreMet v (own n e) → IsEvaluated k e
  evaluated k (literal z) h ints points met = literal_evaluated k z h ints
  evaluated k (variable x) h ints points met = variable_evaluated k x h
  evaluated k (element a i) h ints points met =
      subst (λ j. IsEvaluated j (element a i)) (sym h.0)
      (after (ev bytes_eq look i) (λ w. element_at (look.elements a) (number w)) (IsWorth Reached n v Int (meaning n i)) (IsWorth Reached n v Int (meaning n (element a i)))
      (evaluated Int i h.2 ints points (met_left v (own n i) (is_index n a (val n i) ∷ []) met))
      (λ w p. let same = worth_number Reached n v (meaning n i) w p in let known = is_array (names a) h.1 in
      element_worth a (val n i) (number w) known same (index_within a (val n i) (number w) known same (met_right v (own n i) (is_index n a (val n i) ∷ []) met).0)))
  evaluated k (function f) h ints points met = function_evaluated k f h points
  evaluated k null h ints points met = null_evaluated k h
  evaluated k (negation e) h ints points met =
      let owed = fits (tree.minus (tree.number (pos 0)) (val n e)) ∷ [] in
      subst (λ j. IsEvaluated j (negation e)) (sym h.0)
      (after (ev bytes_eq look e) (λ w. negated (number w)) (IsWorth Reached n v Int (meaning n e)) (IsWorth Reached n v Int (meaning n (negation e)))
      (evaluated Int e h.1 ints points (met_left v (own n e) owed met))
      (λ w p. negated_worth Reached n v (meaning n e) w p (met_right v (own n e) owed met).0))
  evaluated k (logical_not e) h ints points met =
      subst (λ j. IsEvaluated j (logical_not e)) (sym h.0)
      (after (ev bytes_eq look e) (λ w. truth (is_zero (number w))) (IsWorth Reached n v Int (meaning n e)) (IsWorth Reached n v Int (meaning n (logical_not e)))
      (evaluated Int e h.1 ints points met)
      (λ w p. denied_worth Reached n v (meaning n e) w p))
  evaluated k (binary o a b) h ints points met =
      let j = or_int (option_or (kind_of names a) (kind_of names b)) in
      let rest = behind o (form n a) (own n b) ++ operator_owes o (val n a) (val n b) in
      subst (λ j. IsEvaluated j (binary o a b)) (sym h.0)
      (operated_worth Reached n v tells o j (ev bytes_eq look a) (ev bytes_eq look b) (meaning n a) (meaning n b) (own n b)
      (evaluated (place_of names o a b) a h.1 ints.0 (λ f m named. points f m (one_of_two (candidate.names f a) (candidate.names f b) named)) (met_left v (own n a) rest met))
      (λ met_b. evaluated (place_of names o a b) b h.2 ints.1 (λ f m named. points f m (other_of_two (candidate.names f a) (candidate.names f b) named)) met_b)
      (met_right v (own n a) rest met))

  -- ---- expressions one after the other

  abbrev pub AreEvaluated : List Kind → List Expression → Type 0
  AreEvaluated [] [] = ⊤
  AreEvaluated [] (e ∷ es) = ⊥
  AreEvaluated (k ∷ ks) [] = ⊥
  AreEvaluated (k ∷ ks) (e ∷ es) = IsEvaluated k e × AreEvaluated ks es

  pub all_evaluated : (ks : List Kind) (es : List Expression) → AreResolvedArguments names ks es → HaveInts es → MayPoint (λ f. candidate.some_names f es)
      → AreMet v (own_all n es) → AreEvaluated ks es
  all_evaluated [] [] h ints points met = tt
  all_evaluated [] (e ∷ es) h ints points met = absurd h
  all_evaluated (k ∷ ks) [] h ints points met = absurd h
  all_evaluated (k ∷ ks) (e ∷ es) h ints points met = (
    evaluated k e h.0 ints.0 (λ f m named. points f m (one_of_two (candidate.names f e) (candidate.some_names f es) named)) (met_left v (own n e) (own_all n es) met),
    all_evaluated ks es h.1 ints.1 (λ f m named. points f m (other_of_two (candidate.names f e) (candidate.some_names f es) named)) (met_right v (own n e) (own_all n es) met),
  )

  -- ---- an assignment of a value to an element

  pub record IsElementSet (a : Bytes) (i e : Expression) : Type 0 where
    pub index : Gives (ev bytes_eq look i) (λ w. IsWorth Reached n v Int (meaning n i) w × IsIndex a (number w))
    pub value : IsEvaluated Int e

  pub element_set : (a : Bytes) (i e : Expression) → IsArray (names a) → IsResolved names Int i → IsResolved names Int e → HasInts i → HasInts e
      → MayPoint (λ f. candidate.names f i || candidate.names f e) → AreMet v (own_element n a i e) → IsElementSet a i e
  element_set a i e array h_i h_e ints_i ints_e points met =
      let last = is_index n a (val n i) ∷ [] in
      let rest = met_right v (own n i) (own n e ++ last) met in
      let at_i = evaluated Int i h_i ints_i (λ f m named. points f m (one_of_two (candidate.names f i) (candidate.names f e) named)) (met_left v (own n i) (own n e ++ last) met) in
      record {
        index = gives_more (ev bytes_eq look i) (IsWorth Reached n v Int (meaning n i)) (λ w. IsWorth Reached n v Int (meaning n i) w × IsIndex a (number w))
            (λ w p. (p, index_within a (val n i) (number w) (is_array (names a) array) (worth_number Reached n v (meaning n i) w p) (met_right v (own n e) last rest).0)) at_i;
        value = evaluated Int e h_e ints_e (λ f m named. points f m (other_of_two (candidate.names f i) (candidate.names f e) named)) (met_left v (own n e) last rest);
      }
