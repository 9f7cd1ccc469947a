use Rattle.std.proofs.Common.{Option, subst}
use Rattle.std.specs.Prelude.{MatchOption}
use Rattle.formula_texts.specs.declared.value.Value.{Value}
use Rattle.formula_texts.specs.Texts.{AreOf}
use Rattle.hint_texts.specs.Grammar.{bracket_limit, operator_limit}
use Rattle.hint_texts.proofs.FormulaLaws.{value_missing}
use Rattle.hint_texts.proofs.formula.value_in.Goals as goal

pub returns-in-None : goal.returns-in-None
returns-in-None c = value_missing c.args.parts.now
    (subst (λ (o : Option Value). MatchOption o ((x : Value) → AreOf bracket_limit operator_limit c.args.parts.now x → ⊥) (λ x. AreOf bracket_limit operator_limit c.args.parts.now x)) c.in-None.is c.in_ok-value.ensures)
