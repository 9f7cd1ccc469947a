use Rattle.std.proofs.Common.{inl, inr, ◌∙◌, sym, ap, subst}
use Rattle.terms.specs.declared.node.NodeKind.TheVariants as kind
use Rattle.terms.specs.Trees.{stored}
use Rattle.terms.specs.Nodes.{term_in, array_in}
use Rattle.terms.specs.Code.Operands.{before_last, last_part, IsTerm, IsArray}
use Rattle.terms.proofs.OperandLaws.{array_by_root}
use Rattle.terms.proofs.part.ArrayRef.view.Goals as goal

pub returns-in-Base : goal.returns-in-Base
returns-in-Base c = (array_by_root _ _ _ (kind.Base c.in-Base.name) c.self.invariant c.in-Some.ensures.cases.0 c.in-Base.is).1 ∙ c.self.view_is

pub invariant_of-result : goal.invariant_of-result
invariant_of-result c = subst IsArray (sym (c.apart-in-Store.ensures.first ∙ ap before_last c.apart.ensures.first)) (array_by_root _ _ _ kind.Store c.self.invariant c.in-Some.ensures.cases.0 c.in-Store.is).0.0

pub invariant_of-result-in-Store : goal.invariant_of-result-in-Store
invariant_of-result-in-Store c = subst IsTerm (sym (c.apart-in-Store.ensures.last ∙ ap last_part c.apart.ensures.first)) (array_by_root _ _ _ kind.Store c.self.invariant c.in-Some.ensures.cases.0 c.in-Store.is).0.1.0

pub invariant_of-result-in-Store-2 : goal.invariant_of-result-in-Store-2
invariant_of-result-in-Store-2 c = subst IsTerm (sym c.apart.ensures.last) (array_by_root _ _ _ kind.Store c.self.invariant c.in-Some.ensures.cases.0 c.in-Store.is).0.1.1

pub returns-in-Store : goal.returns-in-Store
returns-in-Store c =
    (λ j. stored (array_in ((c.apart-in-Store.ensures.first ∙ ap before_last c.apart.ensures.first) j)) (term_in ((c.apart-in-Store.ensures.last ∙ ap last_part c.apart.ensures.first) j)) (term_in (c.apart.ensures.last j)))
    ∙ (array_by_root _ _ _ kind.Store c.self.invariant c.in-Some.ensures.cases.0 c.in-Store.is).1 ∙ c.self.view_is

pub unreachable-requires-in-Num : goal.unreachable-requires-in-Num
unreachable-requires-in-Num c = elim c.in-Num.is [ inl x ↦ (array_by_root _ _ _ (kind.Num x.0) c.self.invariant c.in-Some.ensures.cases.0 x.1).0 | inr r0 ↦ elim r0 [ inl x ↦ (array_by_root _ _ _ (kind.Of x.0) c.self.invariant c.in-Some.ensures.cases.0 x.1).0 | inr r1 ↦ elim r1 [ inl e ↦ (array_by_root _ _ _ kind.Add c.self.invariant c.in-Some.ensures.cases.0 e).0 | inr r2 ↦ elim r2 [ inl e ↦ (array_by_root _ _ _ kind.Sub c.self.invariant c.in-Some.ensures.cases.0 e).0 | inr r3 ↦ elim r3 [ inl e ↦ (array_by_root _ _ _ kind.Mul c.self.invariant c.in-Some.ensures.cases.0 e).0 | inr r4 ↦ elim r4 [ inl e ↦ (array_by_root _ _ _ kind.Div c.self.invariant c.in-Some.ensures.cases.0 e).0 | inr r5 ↦ elim r5 [ inl e ↦ (array_by_root _ _ _ kind.Rem c.self.invariant c.in-Some.ensures.cases.0 e).0 | inr r6 ↦ elim r6 [ inl e ↦ (array_by_root _ _ _ kind.Read c.self.invariant c.in-Some.ensures.cases.0 e).0 | inr r7 ↦ elim r7 [ inl e ↦ (array_by_root _ _ _ kind.Truth c.self.invariant c.in-Some.ensures.cases.0 e).0 | inr r8 ↦ elim r8 [ inl e ↦ (array_by_root _ _ _ kind.True c.self.invariant c.in-Some.ensures.cases.0 e).0 | inr r9 ↦ elim r9 [ inl e ↦ (array_by_root _ _ _ kind.False c.self.invariant c.in-Some.ensures.cases.0 e).0 | inr r10 ↦ elim r10 [ inl e ↦ (array_by_root _ _ _ kind.Le c.self.invariant c.in-Some.ensures.cases.0 e).0 | inr r11 ↦ elim r11 [ inl e ↦ (array_by_root _ _ _ kind.Eq c.self.invariant c.in-Some.ensures.cases.0 e).0 | inr r12 ↦ elim r12 [ inl e ↦ (array_by_root _ _ _ kind.Not c.self.invariant c.in-Some.ensures.cases.0 e).0 | inr r13 ↦ elim r13 [ inl e ↦ (array_by_root _ _ _ kind.And c.self.invariant c.in-Some.ensures.cases.0 e).0 | inr r14 ↦ (array_by_root _ _ _ kind.Or c.self.invariant c.in-Some.ensures.cases.0 r14).0 ] ] ] ] ] ] ] ] ] ] ] ] ] ] ]
