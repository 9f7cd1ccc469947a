-- Statements in front of a body, as a loop over statements makes them.
use Rattle.std.proofs.Common.{◌≡◌, ℕ, ◌+◌, ◌<◌, ◌≤◌, List, [], ◌∷◌, ◌++◌, map, drop, length, get_or, refl, sym, ap, ap₂, ◌∙◌}
use Rattle.std.proofs.lemmas.List.{at_drop_more, at_drop_all}
use Rattle.c_lang.specs.Names.{Bytes}
use Rattle.c_lang.specs.Trees.{statement_of, statements}
use Rattle.c_lang.specs.declared.stmt.Stmt.{Stmt}
use Rattle.loop_invariants.specs.Context.{Context}
use Rattle.weakest_preconditions.specs.Annotated.{Body, none, more}
use Rattle.weakest_preconditions.specs.Annotating.{Place, annotated, annotated_all, past, past_all}
use Rattle.annotated_bodies.specs.declared.annotated.Annotated as code
use Rattle.annotated_bodies.specs.Seen.{seen_annotated, seen_body}

abbrev pub ahead : List code.Annotated → Body → Body
ahead [] b = b
ahead (t ∷ ts) b = more (seen_annotated t) (ahead ts b)

ahead_more : (ts : List code.Annotated) (t : code.Annotated) (b : Body) → ahead (ts ++ t ∷ []) b ≡ ahead ts (more (seen_annotated t) b)
ahead_more [] t b = refl
ahead_more (s ∷ ts) t b = ap (more (seen_annotated s)) (ahead_more ts t b)

ahead_none : (ts : List code.Annotated) → ahead ts none ≡ seen_body ts
ahead_none [] = refl
ahead_none (t ∷ ts) = ap (more (seen_annotated t)) (ahead_none ts)

one_left : (all : List Stmt) (i : ℕ) (s : Stmt) → i < length all → s ≡ get_or all i s → drop i all ≡ s ∷ drop (i + 1) all
one_left all i s within is = at_drop_more (λ (l : List Stmt). l) all i s within ∙ ap (λ x. x ∷ drop (i + 1) all) (sym is)

-- the body and the place, where one statement more is made
module _ (c : Context) (func : Bytes) (all : List Stmt) (i : ℕ) (s : Stmt) (within : i < length all) (is : s ≡ get_or all i s) (at next : Place)
    (goes : next ≡ past c (statement_of s) at) where
  pub made_more : (ts longer : List code.Annotated) (t : code.Annotated) (whole : Body)
      → longer ≡ ts ++ t ∷ [] → seen_annotated t ≡ annotated c func at (statement_of s)
      → ahead ts (annotated_all c func at (statements (map statement_of (drop i all)))) ≡ whole
      → ahead longer (annotated_all c func next (statements (map statement_of (drop (i + 1) all)))) ≡ whole
  made_more ts longer t whole pushed made so_far =
      let rest = statements (map statement_of (drop (i + 1) all)) in
      ap₂ (λ l p. ahead l (annotated_all c func p rest)) pushed goes
      ∙ (ahead_more ts t (annotated_all c func (past c (statement_of s) at) rest)
      ∙ (ap (λ x. ahead ts (more x (annotated_all c func (past c (statement_of s) at) rest))) made
      ∙ (sym (ap (λ l. ahead ts (annotated_all c func at (statements (map statement_of l)))) (one_left all i s within is)) ∙ so_far)))

  pub place_more : (end : Place) → past_all c (statements (map statement_of (drop i all))) at ≡ end
      → past_all c (statements (map statement_of (drop (i + 1) all))) next ≡ end
  place_more end so_far =
      ap (past_all c (statements (map statement_of (drop (i + 1) all)))) goes
      ∙ (sym (ap (λ l. past_all c (statements (map statement_of l)) at) (one_left all i s within is)) ∙ so_far)

pub made_all : (c : Context) (func : Bytes) (all : List Stmt) (i : ℕ) (at : Place) (ts : List code.Annotated) (whole : Body)
    → length all ≤ i → ahead ts (annotated_all c func at (statements (map statement_of (drop i all)))) ≡ whole → seen_body ts ≡ whole
made_all c func all i at ts whole over so_far =
    sym (ahead_none ts) ∙ (sym (at_drop_all (λ (l : List Stmt). ahead ts (annotated_all c func at (statements (map statement_of l)))) all i over) ∙ so_far)
