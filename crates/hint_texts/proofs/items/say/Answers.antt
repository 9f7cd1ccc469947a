use Rattle.hint_texts.proofs.ItemLaws.{clause_added}
use Rattle.hint_texts.proofs.items.say.Goals as goal

pub returns-in_ok-push-in-Some-clause-added : goal.returns-in_ok-push-in-Some-clause-added
returns-in_ok-push-in-Some-clause-added c =
    rw (c.in_ok-push-in-Some.ensures.ok, c.in_ok-with_clause-in-Some.ensures, c.in-Some.ensures) (clause_added c.pop.new.self c.in-Some.item c.args.clause)
