use Rattle.std.proofs.Common.{sym, ◌∙◌}
use Rattle.std.proofs.lemmas.Result.{on_ok_weaker}
use Rattle.plain_run.proofs.StoreLaws.{stores_fresh, stores_local}
use Rattle.plain_run.proofs.names.store.Goals as goal

pub returns-in-Fresh-clause-stored : goal.returns-in-Fresh-clause-stored
returns-in-Fresh-clause-stored g c =
    rw c.in-Fresh.is
    (on_ok_weaker c.put.result
    (λ set. stores_fresh g.E.Look.seen (g.E.Look.rules c.args.environment.now).access c.args.origin (g.E.Look.state c.args.environment.now)
    c.args.locals.now.entries c.put.new.table.entries _ c.args.value set c.in-Fresh.field-0) c.put.ensures.set)

pub returns-then-contains_key-clause-stored : goal.returns-then-contains_key-clause-stored
returns-then-contains_key-clause-stored g c =
    rw c.in-Into.is
    (on_ok_weaker c.put-then-contains_key.result
    (λ set. stores_local g.E.Look.seen (g.E.Look.rules c.args.environment.now).access c.args.origin (g.E.Look.state c.args.environment.now)
    c.args.locals.now.entries c.put-then-contains_key.new.table.entries _ c.args.value set (sym c.contains_key.ensures ∙ c.if-contains_key.true))
    c.put-then-contains_key.ensures.set)
