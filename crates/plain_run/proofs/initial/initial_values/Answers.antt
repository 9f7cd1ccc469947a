use Rattle.std.proofs.Common.{drop, arith, refl, sym, subst}
use Rattle.plain_run.proofs.InitialLaws.{HasValues, HasValues-more}
use Rattle.plain_run.proofs.TableLaws.{drop-front}
use Rattle.plain_run.proofs.initial.initial_values.Goals as goal

pub loop-left-preserved : goal.loop-left-preserved
loop-left-preserved c = record {
  within = omega arith;
  values = subst (HasValues c.put.new.table.entries)
      (sym (drop-front c.args.globals.now c.loop-left.left c.index-globals-left.result (omega arith) c.loop-left.invariant.within c.index-globals-left.is))
      (HasValues-more c.loop-left.values.entries c.put.new.table.entries _ _ c.index-globals-left.result (drop c.loop-left.left c.args.globals.now)
      c.in_ok-put.ensures.set refl c.shape_value.ensures c.loop-left.invariant.values);
}
