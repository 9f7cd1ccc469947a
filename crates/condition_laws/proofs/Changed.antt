-- Changed conditions are true where the conditions themselves are, at the changed interpretation.
use Rattle.std.proofs.Common.{◌≡◌, ◌∙◌, Bool, true, false, ◌||◌, List, [], ◌∷◌, map, refl, sym, ap₂, subst}
use Rattle.std.specs.Prelude.{⊤}
use Rattle.std.specs.List.{list_any}
use Rattle.terms.specs.declared.sym.Sym.{Sym}
use Rattle.terms.specs.declared.fact.Fact.{Fact}
use Rattle.terms.specs.declared.fact.Fact.TheVariants as fact
use Rattle.terms.specs.Symbols.{same_sym}
use Rattle.terms.specs.Truth.{Interpretation}
use Rattle.terms.specs.Names.{is_number, term_names, array_names}
use Rattle.terms.specs.Replacing.{Change, replaced_fact, Avoids}
use Rattle.terms.specs.Replacing as replacing
use Rattle.terms.proofs.ReplacingLaws.{FactAt-replaced}
use Rattle.loop_invariants.specs.EntryNames.{bound}
use Rattle.loop_invariants.specs.Binding.{BindsBound}
use Rattle.weakest_preconditions.specs.Wp.{Condition, changed}
use Rattle.condition_laws.proofs.Truth.{AreFacts, ConditionAt, AreTrue}

-- ---- facts that bind the bound number alone

abbrev pub AllBind : List Fact → Type 0
AllBind [] = ⊤
AllBind (f ∷ fs) = BindsBound f × AllBind fs

abbrev pub ConditionBinds : Condition → Type 0
ConditionBinds s = AllBind s.hyps × BindsBound s.goal

abbrev pub ConditionsBind : List Condition → Type 0
ConditionsBind [] = ⊤
ConditionsBind (s ∷ l) = ConditionBinds s × ConditionsBind l

-- ---- changes that put no bound number in

pub record AvoidsBound (c : Change) : Type 0 where
  pub numbers : (x : Sym) → same_sym bound x ≡ false → list_any (is_number bound) (term_names (c.number x)) ≡ false
  pub arrays : (x : Sym) → list_any (is_number bound) (array_names (c.array x)) ≡ false

or_false : (b : Bool) → (b || false) ≡ b
or_false true = refl
or_false false = refl

pub avoids : (c : Change) → AvoidsBound c → (f : Fact) → BindsBound f → Avoids c f
avoids c h (fact.Plain f) binds = record { numbers = λ x e. refl; arrays = λ x. refl }
avoids c h (fact.All x lo hi f) binds = subst (λ y. Avoids c (fact.All y lo hi f)) (sym binds) (record {
  numbers = λ y e. h.numbers y (sym (or_false (same_sym bound y)) ∙ e);
  arrays = h.arrays;
})

facts_changed : (c : Change) → AvoidsBound c → (v : Interpretation) (fs : List Fact) → AllBind fs
    → AreFacts v (map (replaced_fact c) fs) ≡ AreFacts (replacing.changed c v) fs
facts_changed c h v [] binds = refl
facts_changed c h v (f ∷ fs) binds = ap₂ (λ (A B : Type 0). A × B) (FactAt-replaced c v f (avoids c h f binds.0)) (facts_changed c h v fs binds.1)

condition_changed : (c : Change) → AvoidsBound c → (v : Interpretation) (s : Condition) → ConditionBinds s → ConditionAt v (changed c s) ≡ ConditionAt (replacing.changed c v) s
condition_changed c h v s binds =
    ap₂ (λ (A B : Type 0). A → B) (facts_changed c h v s.hyps binds.0) (FactAt-replaced c v s.goal (avoids c h s.goal binds.1))

pub all_changed : (c : Change) → AvoidsBound c → (v : Interpretation) (l : List Condition) → ConditionsBind l
    → AreTrue v (map (changed c) l) ≡ AreTrue (replacing.changed c v) l
all_changed c h v [] binds = refl
all_changed c h v (s ∷ l) binds = ap₂ (λ (A B : Type 0). A × B) (condition_changed c h v s binds.0) (all_changed c h v l binds.1)

pub true_changed : (c : Change) → AvoidsBound c → (v : Interpretation) (l : List Condition) → ConditionsBind l
    → AreTrue v (map (changed c) l) → AreTrue (replacing.changed c v) l
true_changed c h v l binds = subst (λ A. A) (all_changed c h v l binds)

pub changed_true : (c : Change) → AvoidsBound c → (v : Interpretation) (l : List Condition) → ConditionsBind l
    → AreTrue (replacing.changed c v) l → AreTrue v (map (changed c) l)
changed_true c h v l binds = subst (λ A. A) (sym (all_changed c h v l binds))
