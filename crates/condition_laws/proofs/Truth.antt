-- Lists of conditions that are true, by their parts.
use Rattle.std.proofs.Common.{IsTrue, List, [], ◌∷◌, ◌++◌, map}
use Rattle.std.specs.Prelude.{⊤}
use Rattle.c_lang.specs.declared.unit.Pos.{Pos}
use Rattle.terms.specs.declared.fact.Fact.{Fact}
use Rattle.terms.specs.declared.fact.Fact.TheVariants as fact
use Rattle.terms.specs.declared.sequent.What.{What}
use Rattle.terms.specs.Trees.{FormTree}
use Rattle.terms.specs.Truth.{Interpretation, FactAt, form_at}
use Rattle.expression_conditions.specs.Owed.{Owed}
use Rattle.weakest_preconditions.specs.Wp.{Condition, under, implies, all_imply, goals, owed_at}
use Rattle.expression_laws.proofs.TrueConditions.{AreGiven, AreMet}

abbrev pub AreFacts : Interpretation → List Fact → Type 0
AreFacts v [] = ⊤
AreFacts v (f ∷ fs) = FactAt v f × AreFacts v fs

abbrev pub ConditionAt : Interpretation → Condition → Type 0
ConditionAt v s = AreFacts v s.hyps → FactAt v s.goal

abbrev pub AreTrue : Interpretation → List Condition → Type 0
AreTrue v [] = ⊤
AreTrue v (s ∷ l) = ConditionAt v s × AreTrue v l

-- ---- one list behind the other

pub true_left : (v : Interpretation) (l m : List Condition) → AreTrue v (l ++ m) → AreTrue v l
true_left v [] m h = tt
true_left v (s ∷ l) m h = (h.0, true_left v l m h.1)

pub true_right : (v : Interpretation) (l m : List Condition) → AreTrue v (l ++ m) → AreTrue v m
true_right v [] m h = h
true_right v (s ∷ l) m h = true_right v l m h.1

pub true_both : (v : Interpretation) (l m : List Condition) → AreTrue v l → AreTrue v m → AreTrue v (l ++ m)
true_both v [] m h i = i
true_both v (s ∷ l) m h i = (h.0, true_both v l m h.1 i)

-- ---- conditions under hypotheses

pub true_under : (v : Interpretation) (f : Fact) (l : List Condition) → AreTrue v (map (under f) l) → FactAt v f → AreTrue v l
true_under v f [] h i = tt
true_under v f (s ∷ l) h i = ((λ hyps. h.0 (i, hyps)), true_under v f l h.1 i)

pub under_true : (v : Interpretation) (f : Fact) (l : List Condition) → (FactAt v f → AreTrue v l) → AreTrue v (map (under f) l)
under_true v f [] h = tt
under_true v f (s ∷ l) h = ((λ hyps. (h hyps.0).0 hyps.1), under_true v f l (λ i. (h i).1))

pub true_implied : (v : Interpretation) (f : FormTree) (l : List Condition) → AreTrue v (implies f l) → IsTrue (form_at v f) → AreTrue v l
true_implied v f l h i = true_under v (fact.Plain f) l h i

pub true_under_all : (v : Interpretation) (fs : List Fact) (l : List Condition) → AreTrue v (all_imply fs l) → AreFacts v fs → AreTrue v l
true_under_all v [] l h i = h
true_under_all v (f ∷ fs) l h i = true_under_all v fs l (true_under v f (all_imply fs l) h i.0) i.1

pub under_all_true : (v : Interpretation) (fs : List Fact) (l : List Condition) → (AreFacts v fs → AreTrue v l) → AreTrue v (all_imply fs l)
under_all_true v [] l h = h tt
under_all_true v (f ∷ fs) l h = under_true v f (all_imply fs l) (λ i. under_all_true v fs l (λ is. h (i, is)))

-- ---- facts as conditions

pub goals_are_facts : (v : Interpretation) (p : Pos) (w : What) (fs : List Fact) → AreTrue v (goals p w fs) → AreFacts v fs
goals_are_facts v p w [] h = tt
goals_are_facts v p w (f ∷ fs) h = (h.0 tt, goals_are_facts v p w fs h.1)

pub facts_are_goals : (v : Interpretation) (p : Pos) (w : What) (fs : List Fact) → AreFacts v fs → AreTrue v (goals p w fs)
facts_are_goals v p w [] h = tt
facts_are_goals v p w (f ∷ fs) h = ((λ hyps. h.0), facts_are_goals v p w fs h.1)

-- ---- what expressions owe

given_facts : (v : Interpretation) (fs : List FormTree) → AreGiven v fs → AreFacts v (map fact.Plain fs)
given_facts v [] h = tt
given_facts v (f ∷ fs) h = (h.0, given_facts v fs h.1)

pub owed_is_met : (v : Interpretation) (p : Pos) (os : List Owed) → AreTrue v (map (owed_at p) os) → AreMet v os
owed_is_met v p [] h = tt
owed_is_met v p (o ∷ os) h = ((λ given. h.0 (given_facts v o.given given)), owed_is_met v p os h.1)
