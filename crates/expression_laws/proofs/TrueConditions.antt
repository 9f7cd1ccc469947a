-- Conditions that are true, by the parts of their lists.
use Rattle.std.proofs.Common.{IsTrue, List, [], ◌∷◌, ◌++◌, map}
use Rattle.std.specs.Prelude.{⊤}
use Rattle.terms.specs.Trees.{FormTree}
use Rattle.terms.specs.Truth.{Interpretation, form_at}
use Rattle.expression_conditions.specs.Owed.{Owed, under}

abbrev pub AreGiven : Interpretation → List FormTree → Type 0
AreGiven v [] = ⊤
AreGiven v (f ∷ fs) = IsTrue (form_at v f) × AreGiven v fs

abbrev pub IsMet : Interpretation → Owed → Type 0
IsMet v o = AreGiven v o.given → IsTrue (form_at v o.goal)

abbrev pub AreMet : Interpretation → List Owed → Type 0
AreMet v [] = ⊤
AreMet v (o ∷ os) = IsMet v o × AreMet v os

pub met_left : (v : Interpretation) (os ps : List Owed) → AreMet v (os ++ ps) → AreMet v os
met_left v [] ps h = tt
met_left v (o ∷ os) ps h = (h.0, met_left v os ps h.1)

pub met_right : (v : Interpretation) (os ps : List Owed) → AreMet v (os ++ ps) → AreMet v ps
met_right v [] ps h = h
met_right v (o ∷ os) ps h = met_right v os ps h.1

pub met_under : (v : Interpretation) (f : FormTree) (os : List Owed) → IsTrue (form_at v f) → AreMet v (map (under f) os) → AreMet v os
met_under v f [] i h = tt
met_under v f (o ∷ os) i h = ((λ given. h.0 (i, given)), met_under v f os i h.1)
