use Rattle.front_end.proofs.WorldLemmas.{kept}
use Rattle.front_end.proofs.worlds.version_of.Goals as goal

pub returns-clause-kept : goal.returns-clause-kept
returns-clause-kept c =
    rw c.in_ok-new.ensures (kept c.args.unit c.into_inner.result c.in_ok-typed.typed (rw (← c.into_inner.ensures) at c.requires) c.in_ok-typed.ensures)
