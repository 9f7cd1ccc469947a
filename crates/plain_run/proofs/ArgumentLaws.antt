-- Arguments that are evaluated one by one.
use Rattle.std.proofs.Common.{◌≡◌, ℕ, ◌+◌, ◌<◌, ◌≤◌, Bool, List, [], ◌∷◌, ◌++◌, length, get_or, drop, map, Ok, Err, refl, sym, ap, ◌∙◌, append_assoc, append-nil}
use Rattle.std.proofs.lemmas.List.{drop_more, drop_all, map-append}
use Rattle.c_lang.specs.Evaluation.{Look, ev}
use Rattle.c_lang.specs.Trees.{expression_of}
use Rattle.c_lang.specs.Values as spec
use Rattle.c_lang.specs.declared.event.Trap.{Trap}
use Rattle.c_lang.specs.declared.expr.Expr.{Expr}
use Rattle.plain_run.specs.Code.Calls.{Arguments, after_value, after_values, values_in}
use Rattle.plain_run.specs.declared.value.Value.{Value}
use Rattle.plain_run.specs.Values.{seen_value}

two_parts : {F : Type 0} (vs ws : List (spec.Value F)) (rest : Arguments F) → after_values (vs ++ ws) rest ≡ after_values vs (after_values ws rest)
two_parts vs ws (Ok us) = ap (λ l. Ok l) (append_assoc vs ws us)
two_parts vs ws (Err t) = refl

module _ {X F : Type 0} (see : X → F) (same : F → F → Bool) (look : Look F) (es : List Expr) where
  abbrev values : List Expr → Arguments F
  values l = values_in same look l

  -- the first i expressions have these values
  abbrev IsSoFar : List (Value X) → ℕ → Type 0
  IsSoFar vs i = values es ≡ after_values (map (seen_value see) vs) (values (drop i es))

  opened : (vs : List (Value X)) (i : ℕ) (e : Expr) → i < length es → e ≡ get_or es i e → IsSoFar vs i
      → values es ≡ after_values (map (seen_value see) vs) (after_value (ev same look (expression_of e)) (values (drop (i + 1) es)))
  opened vs i e within is so_far =
      so_far ∙ ap (λ l. after_values (map (seen_value see) vs) (values l)) (drop_more es i e within ∙ ap (λ x. x ∷ drop (i + 1) es) (sym is))

  pub more_values : (vs us : List (Value X)) (i : ℕ) (e : Expr) (v : Value X) → i < length es → e ≡ get_or es i e → Ok (seen_value see v) ≡ ev same look (expression_of e)
      → us ≡ vs ++ v ∷ [] → IsSoFar vs i → IsSoFar us (i + 1)
  more_values vs us i e v within is is_value pushed so_far =
      opened vs i e within is so_far
      ∙ ap (λ a. after_values (map (seen_value see) vs) (after_value a (values (drop (i + 1) es)))) (sym is_value)
      ∙ sym (two_parts (map (seen_value see) vs) (seen_value see v ∷ []) (values (drop (i + 1) es)))
      ∙ ap (λ ws. after_values ws (values (drop (i + 1) es))) (sym (ap (map (seen_value see)) pushed ∙ map-append (seen_value see) vs (v ∷ [])))

  pub value_fails : (vs : List (Value X)) (i : ℕ) (e : Expr) (t : Trap) → i < length es → e ≡ get_or es i e → Err t ≡ ev same look (expression_of e)
      → IsSoFar vs i → Err t ≡ values es
  value_fails vs i e t within is fails so_far =
      sym (opened vs i e within is so_far ∙ ap (λ a. after_values (map (seen_value see) vs) (after_value a (values (drop (i + 1) es)))) (sym fails))

  pub all_values : (vs : List (Value X)) (i : ℕ) → length es ≤ i → IsSoFar vs i → Ok (map (seen_value see) vs) ≡ values es
  all_values vs i ended so_far =
      sym (so_far ∙ ap (λ l. after_values (map (seen_value see) vs) (values l)) (drop_all i es ended) ∙ ap (λ l. Ok l) (append-nil (map (seen_value see) vs)))
