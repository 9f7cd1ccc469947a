use Rattle.std.proofs.Common.{inl, inr, ◌∙◌, sym, ap, ap₂, subst}
use Rattle.terms.specs.declared.node.NodeKind.TheVariants as kind
use Rattle.terms.specs.Trees.{at_most, equal, both, either}
use Rattle.terms.specs.Nodes.{term_in, form_in}
use Rattle.terms.specs.Code.Operands.{IsTerm, IsForm}
use Rattle.terms.proofs.OperandLaws.{form_by_root}
use Rattle.terms.proofs.part.FormRef.view.Goals as goal

pub invariant_of-result : goal.invariant_of-result
invariant_of-result c = subst IsTerm (sym c.apart.ensures.first) (form_by_root _ _ _ kind.Le c.self.invariant c.in-Some.ensures.cases.0 c.in-Le.is).0.0

pub invariant_of-result-in-Le : goal.invariant_of-result-in-Le
invariant_of-result-in-Le c = subst IsTerm (sym c.apart.ensures.last) (form_by_root _ _ _ kind.Le c.self.invariant c.in-Some.ensures.cases.0 c.in-Le.is).0.1

pub returns-in-Le : goal.returns-in-Le
returns-in-Le c = ap₂ at_most (ap term_in c.apart.ensures.first) (ap term_in c.apart.ensures.last) ∙ (form_by_root _ _ _ kind.Le c.self.invariant c.in-Some.ensures.cases.0 c.in-Le.is).1 ∙ c.self.view_is

pub invariant_of-result-in-Eq : goal.invariant_of-result-in-Eq
invariant_of-result-in-Eq c = subst IsTerm (sym c.apart-in-Eq.ensures.first) (form_by_root _ _ _ kind.Eq c.self.invariant c.in-Some.ensures.cases.0 c.in-Eq.is).0.0

pub invariant_of-result-in-Eq-2 : goal.invariant_of-result-in-Eq-2
invariant_of-result-in-Eq-2 c = subst IsTerm (sym c.apart-in-Eq.ensures.last) (form_by_root _ _ _ kind.Eq c.self.invariant c.in-Some.ensures.cases.0 c.in-Eq.is).0.1

pub returns-in-Eq : goal.returns-in-Eq
returns-in-Eq c = ap₂ equal (ap term_in c.apart-in-Eq.ensures.first) (ap term_in c.apart-in-Eq.ensures.last) ∙ (form_by_root _ _ _ kind.Eq c.self.invariant c.in-Some.ensures.cases.0 c.in-Eq.is).1 ∙ c.self.view_is

pub invariant_of-result-in-And : goal.invariant_of-result-in-And
invariant_of-result-in-And c = subst IsForm (sym c.apart-in-And.ensures.first) (form_by_root _ _ _ kind.And c.self.invariant c.in-Some.ensures.cases.0 c.in-And.is).0.0

pub invariant_of-result-in-And-2 : goal.invariant_of-result-in-And-2
invariant_of-result-in-And-2 c = subst IsForm (sym c.apart-in-And.ensures.last) (form_by_root _ _ _ kind.And c.self.invariant c.in-Some.ensures.cases.0 c.in-And.is).0.1

pub returns-in-And : goal.returns-in-And
returns-in-And c = ap₂ both (ap form_in c.apart-in-And.ensures.first) (ap form_in c.apart-in-And.ensures.last) ∙ (form_by_root _ _ _ kind.And c.self.invariant c.in-Some.ensures.cases.0 c.in-And.is).1 ∙ c.self.view_is

pub invariant_of-result-in-Or : goal.invariant_of-result-in-Or
invariant_of-result-in-Or c = subst IsForm (sym c.apart-in-Or.ensures.first) (form_by_root _ _ _ kind.Or c.self.invariant c.in-Some.ensures.cases.0 c.in-Or.is).0.0

pub invariant_of-result-in-Or-2 : goal.invariant_of-result-in-Or-2
invariant_of-result-in-Or-2 c = subst IsForm (sym c.apart-in-Or.ensures.last) (form_by_root _ _ _ kind.Or c.self.invariant c.in-Some.ensures.cases.0 c.in-Or.is).0.1

pub returns-in-Or : goal.returns-in-Or
returns-in-Or c = ap₂ either (ap form_in c.apart-in-Or.ensures.first) (ap form_in c.apart-in-Or.ensures.last) ∙ (form_by_root _ _ _ kind.Or c.self.invariant c.in-Some.ensures.cases.0 c.in-Or.is).1 ∙ c.self.view_is

pub invariant_of-result-in-Not : goal.invariant_of-result-in-Not
invariant_of-result-in-Not c = (form_by_root _ _ _ kind.Not c.self.invariant c.in-Some.ensures.cases.0 c.in-Not.is).0

pub returns-in-Not : goal.returns-in-Not
returns-in-Not c = (form_by_root _ _ _ kind.Not c.self.invariant c.in-Some.ensures.cases.0 c.in-Not.is).1 ∙ c.self.view_is

pub returns-in-True : goal.returns-in-True
returns-in-True c = (form_by_root _ _ _ kind.True c.self.invariant c.in-Some.ensures.cases.0 c.in-True.is).1 ∙ c.self.view_is

pub returns-in-False : goal.returns-in-False
returns-in-False c = (form_by_root _ _ _ kind.False c.self.invariant c.in-Some.ensures.cases.0 c.in-False.is).1 ∙ c.self.view_is

pub unreachable-requires-in-Num : goal.unreachable-requires-in-Num
unreachable-requires-in-Num c = elim c.in-Num.is [ inl x ↦ (form_by_root _ _ _ (kind.Num x.0) c.self.invariant c.in-Some.ensures.cases.0 x.1).0 | inr r0 ↦ elim r0 [ inl x ↦ (form_by_root _ _ _ (kind.Of x.0) c.self.invariant c.in-Some.ensures.cases.0 x.1).0 | inr r1 ↦ elim r1 [ inl e ↦ (form_by_root _ _ _ kind.Add c.self.invariant c.in-Some.ensures.cases.0 e).0 | inr r2 ↦ elim r2 [ inl e ↦ (form_by_root _ _ _ kind.Sub c.self.invariant c.in-Some.ensures.cases.0 e).0 | inr r3 ↦ elim r3 [ inl e ↦ (form_by_root _ _ _ kind.Mul c.self.invariant c.in-Some.ensures.cases.0 e).0 | inr r4 ↦ elim r4 [ inl e ↦ (form_by_root _ _ _ kind.Div c.self.invariant c.in-Some.ensures.cases.0 e).0 | inr r5 ↦ elim r5 [ inl e ↦ (form_by_root _ _ _ kind.Rem c.self.invariant c.in-Some.ensures.cases.0 e).0 | inr r6 ↦ elim r6 [ inl e ↦ (form_by_root _ _ _ kind.Read c.self.invariant c.in-Some.ensures.cases.0 e).0 | inr r7 ↦ elim r7 [ inl e ↦ (form_by_root _ _ _ kind.Truth c.self.invariant c.in-Some.ensures.cases.0 e).0 | inr r8 ↦ elim r8 [ inl x ↦ (form_by_root _ _ _ (kind.Base x.0) c.self.invariant c.in-Some.ensures.cases.0 x.1).0 | inr r9 ↦ (form_by_root _ _ _ kind.Store c.self.invariant c.in-Some.ensures.cases.0 r9).0 ] ] ] ] ] ] ] ] ] ]
