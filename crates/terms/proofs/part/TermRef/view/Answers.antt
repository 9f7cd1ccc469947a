use Rattle.std.proofs.Common.{rules, FitsSigned, inl, inr, ◌∙◌, sym, ap, ap₂, subst}
use Rattle.std.specs.Int.{w128}
use Rattle.std.proofs.lemmas.Int.{to_z-of_z}
use Rattle.terms.specs.declared.node.NodeKind.TheVariants as kind
use Rattle.terms.specs.Trees.{number, plus, minus, times, divided, remainder, read}
use Rattle.terms.specs.Nodes.{term_in, array_in}
use Rattle.terms.specs.Code.Operands.{IsTerm, IsArray}
use Rattle.terms.proofs.OperandLaws.{term_by_root}
use Rattle.terms.proofs.part.TermRef.view.Goals as goal

pub invariant_of-result : goal.invariant_of-result
invariant_of-result c = subst IsTerm (sym c.apart.ensures.first) (term_by_root _ _ _ kind.Add c.self.invariant c.in-Some.ensures.cases.0 c.in-Add.is).0.0

pub invariant_of-result-in-Add : goal.invariant_of-result-in-Add
invariant_of-result-in-Add c = subst IsTerm (sym c.apart.ensures.last) (term_by_root _ _ _ kind.Add c.self.invariant c.in-Some.ensures.cases.0 c.in-Add.is).0.1

pub returns-in-Add : goal.returns-in-Add
returns-in-Add c = ap₂ plus (ap term_in c.apart.ensures.first) (ap term_in c.apart.ensures.last) ∙ (term_by_root _ _ _ kind.Add c.self.invariant c.in-Some.ensures.cases.0 c.in-Add.is).1 ∙ c.self.view_is

pub invariant_of-result-in-Sub : goal.invariant_of-result-in-Sub
invariant_of-result-in-Sub c = subst IsTerm (sym c.apart-in-Sub.ensures.first) (term_by_root _ _ _ kind.Sub c.self.invariant c.in-Some.ensures.cases.0 c.in-Sub.is).0.0

pub invariant_of-result-in-Sub-2 : goal.invariant_of-result-in-Sub-2
invariant_of-result-in-Sub-2 c = subst IsTerm (sym c.apart-in-Sub.ensures.last) (term_by_root _ _ _ kind.Sub c.self.invariant c.in-Some.ensures.cases.0 c.in-Sub.is).0.1

pub returns-in-Sub : goal.returns-in-Sub
returns-in-Sub c = ap₂ minus (ap term_in c.apart-in-Sub.ensures.first) (ap term_in c.apart-in-Sub.ensures.last) ∙ (term_by_root _ _ _ kind.Sub c.self.invariant c.in-Some.ensures.cases.0 c.in-Sub.is).1 ∙ c.self.view_is

pub invariant_of-result-in-Mul : goal.invariant_of-result-in-Mul
invariant_of-result-in-Mul c = subst IsTerm (sym c.apart-in-Mul.ensures.first) (term_by_root _ _ _ kind.Mul c.self.invariant c.in-Some.ensures.cases.0 c.in-Mul.is).0.0

pub invariant_of-result-in-Mul-2 : goal.invariant_of-result-in-Mul-2
invariant_of-result-in-Mul-2 c = subst IsTerm (sym c.apart-in-Mul.ensures.last) (term_by_root _ _ _ kind.Mul c.self.invariant c.in-Some.ensures.cases.0 c.in-Mul.is).0.1

pub returns-in-Mul : goal.returns-in-Mul
returns-in-Mul c = ap₂ times (ap term_in c.apart-in-Mul.ensures.first) (ap term_in c.apart-in-Mul.ensures.last) ∙ (term_by_root _ _ _ kind.Mul c.self.invariant c.in-Some.ensures.cases.0 c.in-Mul.is).1 ∙ c.self.view_is

pub invariant_of-result-in-Div : goal.invariant_of-result-in-Div
invariant_of-result-in-Div c = subst IsTerm (sym c.apart-in-Div.ensures.first) (term_by_root _ _ _ kind.Div c.self.invariant c.in-Some.ensures.cases.0 c.in-Div.is).0.0

pub invariant_of-result-in-Div-2 : goal.invariant_of-result-in-Div-2
invariant_of-result-in-Div-2 c = subst IsTerm (sym c.apart-in-Div.ensures.last) (term_by_root _ _ _ kind.Div c.self.invariant c.in-Some.ensures.cases.0 c.in-Div.is).0.1

pub returns-in-Div : goal.returns-in-Div
returns-in-Div c = ap₂ divided (ap term_in c.apart-in-Div.ensures.first) (ap term_in c.apart-in-Div.ensures.last) ∙ (term_by_root _ _ _ kind.Div c.self.invariant c.in-Some.ensures.cases.0 c.in-Div.is).1 ∙ c.self.view_is

pub invariant_of-result-in-Rem : goal.invariant_of-result-in-Rem
invariant_of-result-in-Rem c = subst IsTerm (sym c.apart-in-Rem.ensures.first) (term_by_root _ _ _ kind.Rem c.self.invariant c.in-Some.ensures.cases.0 c.in-Rem.is).0.0

pub invariant_of-result-in-Rem-2 : goal.invariant_of-result-in-Rem-2
invariant_of-result-in-Rem-2 c = subst IsTerm (sym c.apart-in-Rem.ensures.last) (term_by_root _ _ _ kind.Rem c.self.invariant c.in-Some.ensures.cases.0 c.in-Rem.is).0.1

pub returns-in-Rem : goal.returns-in-Rem
returns-in-Rem c = ap₂ remainder (ap term_in c.apart-in-Rem.ensures.first) (ap term_in c.apart-in-Rem.ensures.last) ∙ (term_by_root _ _ _ kind.Rem c.self.invariant c.in-Some.ensures.cases.0 c.in-Rem.is).1 ∙ c.self.view_is

pub invariant_of-result-in-Read : goal.invariant_of-result-in-Read
invariant_of-result-in-Read c = subst IsArray (sym c.apart-in-Read.ensures.first) (term_by_root _ _ _ kind.Read c.self.invariant c.in-Some.ensures.cases.0 c.in-Read.is).0.0

pub invariant_of-result-in-Read-2 : goal.invariant_of-result-in-Read-2
invariant_of-result-in-Read-2 c = subst IsTerm (sym c.apart-in-Read.ensures.last) (term_by_root _ _ _ kind.Read c.self.invariant c.in-Some.ensures.cases.0 c.in-Read.is).0.1

pub returns-in-Read : goal.returns-in-Read
returns-in-Read c = ap₂ read (ap array_in c.apart-in-Read.ensures.first) (ap term_in c.apart-in-Read.ensures.last) ∙ (term_by_root _ _ _ kind.Read c.self.invariant c.in-Some.ensures.cases.0 c.in-Read.is).1 ∙ c.self.view_is

pub invariant_of-result-in-Truth : goal.invariant_of-result-in-Truth
invariant_of-result-in-Truth c = (term_by_root _ _ _ kind.Truth c.self.invariant c.in-Some.ensures.cases.0 c.in-Truth.is).0

pub returns-in-Truth : goal.returns-in-Truth
returns-in-Truth c = (term_by_root _ _ _ kind.Truth c.self.invariant c.in-Some.ensures.cases.0 c.in-Truth.is).1 ∙ c.self.view_is

pub returns-in-Num : goal.returns-in-Num
returns-in-Num c =
    let fits : FitsSigned w128 c.in-Num.number = search rules in
    ap number (to_z-of_z w128 c.in-Num.number fits) ∙ (term_by_root _ _ _ (kind.Num c.in-Num.number) c.self.invariant c.in-Some.ensures.cases.0 c.in-Num.is).1 ∙ c.self.view_is

pub returns-in-Of : goal.returns-in-Of
returns-in-Of c = (term_by_root _ _ _ (kind.Of c.in-Of.name) c.self.invariant c.in-Some.ensures.cases.0 c.in-Of.is).1 ∙ c.self.view_is

pub unreachable-requires-in-Base : goal.unreachable-requires-in-Base
unreachable-requires-in-Base c = elim c.in-Base.is [ inl x ↦ (term_by_root _ _ _ (kind.Base x.0) c.self.invariant c.in-Some.ensures.cases.0 x.1).0 | inr r0 ↦ elim r0 [ inl e ↦ (term_by_root _ _ _ kind.Store c.self.invariant c.in-Some.ensures.cases.0 e).0 | inr r1 ↦ elim r1 [ inl e ↦ (term_by_root _ _ _ kind.True c.self.invariant c.in-Some.ensures.cases.0 e).0 | inr r2 ↦ elim r2 [ inl e ↦ (term_by_root _ _ _ kind.False c.self.invariant c.in-Some.ensures.cases.0 e).0 | inr r3 ↦ elim r3 [ inl e ↦ (term_by_root _ _ _ kind.Le c.self.invariant c.in-Some.ensures.cases.0 e).0 | inr r4 ↦ elim r4 [ inl e ↦ (term_by_root _ _ _ kind.Eq c.self.invariant c.in-Some.ensures.cases.0 e).0 | inr r5 ↦ elim r5 [ inl e ↦ (term_by_root _ _ _ kind.Not c.self.invariant c.in-Some.ensures.cases.0 e).0 | inr r6 ↦ elim r6 [ inl e ↦ (term_by_root _ _ _ kind.And c.self.invariant c.in-Some.ensures.cases.0 e).0 | inr r7 ↦ (term_by_root _ _ _ kind.Or c.self.invariant c.in-Some.ensures.cases.0 r7).0 ] ] ] ] ] ] ] ]
