use Rattle.std.proofs.Common.{◌-◌, nat_lt, length, arith, rules, sym, subst}
use Rattle.std.specs.List.{AllWithin}
use Rattle.std.proofs.lemmas.List.Sorted.{IsPartitionPoint-from_clause, IsPartitionedBy-ltb}
use Rattle.symbolic_state.proofs.BindingLaws.{IsLate, latest_none, latest_at}
use Rattle.symbolic_state.proofs.bindings.last_before.Goals as goal

pub returns-then-count-eq0 : goal.returns-then-count-eq0
returns-then-count-eq0 c =
    let point = IsPartitionPoint-from_clause (λ b. nat_lt b.step c.args.time) _ _ c.partition_point-count.ensures.partitioned (IsPartitionedBy-ltb (λ b. b.step) _ c.args.time c.requires) (λ a r q k. search rules) in
    sym (latest_none c.args.time c.args.values.now (subst (λ k. AllWithin (IsLate c.args.time) c.args.values.now k (length c.args.values.now)) c.if-count-eq0.true point.1))

pub returns : goal.returns
returns c =
    let point = IsPartitionPoint-from_clause (λ b. nat_lt b.step c.args.time) _ _ c.partition_point-count.ensures.partitioned (IsPartitionedBy-ltb (λ b. b.step) _ c.args.time c.requires) (λ a r q k. search rules) in
    sym (latest_at c.args.time c.args.values.now (c.partition_point-count.result - 1) (record { step = 0; source = 0; pair = 0 }) (omega (arith, c.if-count-eq0.false, c.partition_point-count.ensures.bound))
    (λ k d low high. point.0 k d low (omega (arith, c.if-count-eq0.false)))
    (λ k d low high. point.1 k d (omega (arith, c.if-count-eq0.false)) high))
