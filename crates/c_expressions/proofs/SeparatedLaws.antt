-- Lists with commas: what has these tokens is read, and what is read has its tokens.
use Rattle.std.proofs.Common.{◌≡◌, ℕ, zero, suc, ◌+◌, ◌≤◌, List, ◌∷◌, ◌++◌, length, Option, Some, None, refl, sym, ap, ◌∙◌, subst, append_assoc, arith}
use Rattle.std.proofs.lemmas.List.{length-append}
use Rattle.c_grammar.specs.declared.token.Token.{Token}
use Rattle.c_grammar.specs.Tokens.{At, mark, comma}
use Rattle.c_expressions.specs.Code.ParseSteps.{◌>>=◌, after, separated_by, separated}
use Rattle.c_grammar.specs.Separated.{Separated, last, more, separated_tokens, Each}
use Rattle.c_expressions.proofs.ExpressionSound.{bind_some, some_is, after-is}

abbrev pub size : {T : Type 0} → Separated T → ℕ
size (last t) = 1
size (more t at ts) = suc (size ts)

-- what was read before, with each part added in turn
abbrev pub all_added : {A T : Type 0} → (A → T → A) → A → Separated T → A
all_added add acc (last t) = add acc t
all_added add acc (more t at ts) = all_added add (add acc t) ts

module _ {A T : Type 0} (step : A → List Token → Option (A × List Token)) (tokens : T → List Token) (add : A → T → A) where
  pub size_fits : (ts : Separated T) → size ts ≤ length (separated_tokens tokens ts) + 1
  size_fits (last t) = omega arith
  size_fits (more t at ts) = omega (arith, size_fits ts, length-append (tokens t) (mark comma at ∷ separated_tokens tokens ts))

  module _ (P : T → Type 0) (Ends : List Token → Type 0) (comma_ends : (at : At) (ts : List Token) → Ends (mark comma at ∷ ts))
      (item : (t : T) (acc : A) (rest : List Token) → P t → Ends rest → step acc (tokens t ++ rest) ≡ Some (add acc t, rest)) where
    pub reads_all_parts : (ts : Separated T) (k : ℕ) (acc : A) (rest : List Token) → Each P ts → size ts ≤ k → Ends rest → after comma rest ≡ None
        → separated step k acc (separated_tokens tokens ts ++ rest) ≡ Some (all_added add acc ts, rest)
    unfolding separated
    reads_all_parts (last t) zero acc rest p fits ends none = let never : ⊥ = omega arith in absurd never
    reads_all_parts (last t) (suc k) acc rest p fits ends none =
        ap (λ (r : Option (A × List Token)). r >>= λ x. separated_by step (separated step k) x (after comma x.1)) (item t acc rest p ends)
        ∙ ap (separated_by step (separated step k) (add acc t, rest)) none
    reads_all_parts (more t at ts) zero acc rest p fits ends none = let never : ⊥ = omega arith in absurd never
    reads_all_parts (more t at ts) (suc k) acc rest p fits ends none =
        let tail = separated_tokens tokens ts ++ rest in
        ap (separated step (suc k) acc) (append_assoc (tokens t) (mark comma at ∷ separated_tokens tokens ts) rest)
        ∙ ap (λ (r : Option (A × List Token)). r >>= λ x. separated_by step (separated step k) x (after comma x.1)) (item t acc (mark comma at ∷ tail) p.0 (comma_ends at tail))
        ∙ reads_all_parts ts k (add acc t) rest p.1 (omega arith) ends none

  -- which parts were read
  pub record AreRead (P : T → Type 0) (acc : A) (ts : List Token) (x : A × List Token) : Type 0 where
    pub parts : Separated T
    pub valid : Each P parts
    pub split : ts ≡ separated_tokens tokens parts ++ x.1
    pub same : all_added add acc parts ≡ x.0

  pub record IsPart (P : T → Type 0) (acc : A) (ts : List Token) (x : A × List Token) : Type 0 where
    pub part : T
    pub valid : P part
    pub split : ts ≡ tokens part ++ x.1
    pub same : add acc part ≡ x.0

  module _ (P : T → Type 0) (item : (acc : A) (ts : List Token) (x : A × List Token) → step acc ts ≡ Some x → IsPart P acc ts x) where
    turn : (go : A → List Token → Option (A × List Token)) (ih : (acc : A) (ts : List Token) (x : A × List Token) → go acc ts ≡ Some x → AreRead P acc ts x)
        (acc : A) (ts : List Token) (y x : A × List Token) (next : Option (List Token)) → IsPart P acc ts y → after comma y.1 ≡ next → separated_by step go y next ≡ Some x → AreRead P acc ts x
    turn go ih acc ts y x None p n q =
        subst (λ (z : A × List Token). AreRead P acc ts z) (some_is y x q) (record { parts = last p.part; valid = p.valid; split = p.split; same = p.same })
    turn go ih acc ts y x (Some rest) p n q =
        let z = after-is comma y.1 rest n in
        let r = ih y.0 rest x q in
        record {
          parts = more p.part z.0 r.parts;
          valid = (p.valid, r.valid);
          split = p.split ∙ ap (λ (us : List Token). tokens p.part ++ us) (z.1 ∙ ap (λ (us : List Token). mark comma z.0 ∷ us) r.split) ∙ sym (append_assoc (tokens p.part) (mark comma z.0 ∷ separated_tokens tokens r.parts) x.1);
          same = ap (λ (a : A). all_added add a r.parts) p.same ∙ r.same;
        }

    pub parts_read : (k : ℕ) (acc : A) (ts : List Token) (x : A × List Token) → separated step k acc ts ≡ Some x → AreRead P acc ts x
    unfolding separated
    parts_read zero acc ts x q = absurd cc
    parts_read (suc k) acc ts x q =
        let y = bind_some (step acc ts) (λ y. separated_by step (separated step k) y (after comma y.1)) x q in
        turn (separated step k) (parts_read k) acc ts y.0 x (after comma y.0.1) (item acc ts y.0 y.1) refl y.2
