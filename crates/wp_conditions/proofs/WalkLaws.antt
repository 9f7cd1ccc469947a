-- What a walk has still to make, from one node to the next ones.
use Rattle.std.proofs.Common.{◌≡◌, ℕ, ◌-◌, ◌≤◌, List, [], ◌∷◌, ◌++◌, map, length, drop, reverse, true, is_none, Option, Some, None, Result, Ok, Err, OnOk, refl, sym, ap, ap₂, ◌∙◌, arith}
use Rattle.std.proofs.lemmas.List.{append_assoc, length-drop, map-append, reverse-append}
use Rattle.c_lang.specs.Names.{Bytes}
use Rattle.loop_invariants.specs.Context.{Context}
use Rattle.weakest_preconditions.specs.Annotated.{Annotated}
use Rattle.weakest_preconditions.specs.Wp.{Condition}
use Rattle.symbolic_state.specs.declared.step.Step.{Step}
use Rattle.symbolic_state.specs.Steps.{finished, outermost}
use Rattle.symbolic_state.proofs.ValueLaws.{outer_more}
use Rattle.control_flow.specs.Steps.{step}
use Rattle.wp_conditions.specs.Code.Edges.{Edge, edge_steps, edges, here, beyond}
use Rattle.wp_conditions.specs.declared.edge.Waiting as code_waiting
use Rattle.wp_conditions.specs.Code.Waiting.{Waiting, left, Stacked, at_mark, seen_waiting, seen_stack}
use Rattle.wp_conditions.proofs.EdgeLaws.{step_is}
use Rattle.wp_conditions.proofs.StepLaws.{Extends}

pub outer_length : (m : ℕ) (S : List Step) → m ≤ length S → length (outermost m S) ≡ m
outer_length m S within = let cut : length (drop (length S - m) S) ≡ length S - (length S - m) = length-drop (length S - m) S in omega (arith, cut, within)

module _ (c : Context) (func : Bytes) (next : ℕ → List Condition) where
  -- more steps change nothing for those that go on from fewer
  pub left_longer : (S L : List Step) (ws : List Waiting) → Extends S L → Stacked (length S) ws → left c next L ws ≡ left c next S ws
  left_longer S L [] e are = refl
  left_longer S L (w ∷ ws) e are =
      ap (λ T. map (finished (edge_steps c w.edge T)) (next w.number) ++ left c next T ws) (e.outer w.mark are.0)

  -- edges on top
  on_top : (S : List Step) (es : List (Edge × ℕ)) (ws : List Waiting)
      → left c next S (at_mark (length S) es ++ ws) ≡ beyond c es next S ++ left c next S ws
  on_top S [] ws = refl
  on_top S (e ∷ es) ws =
      ap (λ T. map (finished (edge_steps c e.0 T)) (next e.1) ++ left c next T (at_mark (length S) es ++ ws)) (outer_more (length S) S (omega arith))
      ∙ ap (λ l. map (finished (edge_steps c e.0 S)) (next e.1) ++ l) (on_top S es ws)
      ∙ sym (append_assoc (map (finished (edge_steps c e.0 S)) (next e.1)) (beyond c es next S) (left c next S ws))

  -- the statement of a node, where U stands round it, and what was waiting
  pub statement_left : (T U : List Step) (t : Annotated) (i j : ℕ) (ws : List Waiting) → Extends T U → Stacked (length T) ws
      → map (finished U) (step c func t (next i) (next j)) ++ left c next T ws
      ≡ here c func t U ++ left c next U (at_mark (length U) (edges c t i j) ++ ws)
  statement_left T U t i j ws e are =
      ap₂ (λ l m. l ++ m) (step_is c func U next i j t) (sym (left_longer T U ws e are))
      ∙ append_assoc (here c func t U) (beyond c (edges c t i j) next U) (left c next U ws)
      ∙ ap (λ l. here c func t U ++ l) (sym (on_top U (edges c t i j) ws))

  pub stacked_more : (n m : ℕ) (ws : List Waiting) → n ≤ m → Stacked n ws → Stacked m ws
  stacked_more n m [] more are = tt
  stacked_more n m (w ∷ ws) more are = (omega (arith, more, are.0), are.1)

  pub stacked_top : (n : ℕ) (es : List (Edge × ℕ)) (ws : List Waiting) → Stacked n ws → Stacked n (at_mark n es ++ ws)
  stacked_top n [] ws are = are
  stacked_top n (e ∷ es) ws are = (omega arith, stacked_top n es ws are)

pub from_two : {X E P Q R : Type 0} (r : Result X E) → (P → Q → R) → OnOk r P → OnOk r Q → OnOk r R
from_two (Ok x) f p q = f p q
from_two (Err e) f p q = tt

pub from_three : {X E P Q R S : Type 0} (r : Result X E) → (P → Q → R → S) → OnOk r P → OnOk r Q → OnOk r R → OnOk r S
from_three (Ok x) f p q s = f p q s
from_three (Err e) f p q s = tt

-- a list that is longer by one
pub seen_pushed : (ws : List code_waiting.Waiting) (w : code_waiting.Waiting) → seen_stack (ws ++ (w ∷ [])) ≡ seen_waiting w ∷ seen_stack ws
seen_pushed ws w = ap reverse (map-append seen_waiting ws (w ∷ [])) ∙ reverse-append (map seen_waiting ws) (seen_waiting w ∷ [])

pub is_none_of : {X : Type 0} (o : Option X) → true ≡ is_none o → o ≡ None
is_none_of None e = refl
is_none_of (Some x) e = absurd cc
