use Rattle.std.proofs.Common.{rules, ◌≡◌, ◌<◌, true, false, slice_index_or, length, ◌∙◌}
use Rattle.std.specs.List.{list_all}
use Rattle.hint_texts.specs.declared.hints.Clause.{Clause}
use Rattle.hint_reading.specs.Demands.{demand, may_say}
use Rattle.hint_reading.specs.Code.Parts.{funcs_in}
use Rattle.hint_reading.proofs.DemandLaws.{met_next, unmet_next}
use Rattle.hint_reading.proofs.demands.check_contract.Goals as goal

pub returns-then-not-branch : goal.returns-then-not-branch
returns-then-not-branch c =
    let less : c.loop-clause.clause-index < length c.args.clauses.now = search rules in
    let item : c.clause-item.result ≡ slice_index_or c.args.clauses.now c.loop-clause.clause-index c.clause-item.result = search rules in
    let unmet : list_all (λ f. may_say c.args.names.now f c.clause-item.result.kind) (funcs_in c.args.funcs.now) ≡ false = search rules in
    c.loop-clause.invariant ∙ unmet_next (λ (k : Clause). demand k.line (list_all (λ f. may_say c.args.names.now f k.kind) (funcs_in c.args.funcs.now)))
    c.args.clauses.now c.loop-clause.clause-index c.clause-item.result less item unmet

pub loop-clause-preserved : goal.loop-clause-preserved
loop-clause-preserved c =
    let less : c.loop-clause.clause-index < length c.args.clauses.now = search rules in
    let item : c.clause-item.result ≡ slice_index_or c.args.clauses.now c.loop-clause.clause-index c.clause-item.result = search rules in
    let met : list_all (λ f. may_say c.args.names.now f c.clause-item.result.kind) (funcs_in c.args.funcs.now) ≡ true = search rules in
    c.loop-clause.invariant ∙ met_next (λ (k : Clause). demand k.line (list_all (λ f. may_say c.args.names.now f k.kind) (funcs_in c.args.funcs.now)))
    c.args.clauses.now c.loop-clause.clause-index c.clause-item.result less item met
