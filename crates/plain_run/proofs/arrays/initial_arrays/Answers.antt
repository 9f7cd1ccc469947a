use Rattle.std.proofs.Common.{drop, arith, sym, subst}
use Rattle.plain_run.proofs.InitialLaws.{HasArrays, HasArrays-more}
use Rattle.plain_run.proofs.TableLaws.{drop-front}
use Rattle.plain_run.proofs.arrays.initial_arrays.Goals as goal

pub loop-left-preserved-in_ok-insert : goal.loop-left-preserved-in_ok-insert
loop-left-preserved-in_ok-insert c = record {
  within = omega arith;
  arrays = subst (HasArrays c.insert.new.self.entries)
      (sym (drop-front c.args.globals.now c.loop-left.left c.index-globals-left.result (omega arith) c.loop-left.invariant.within c.index-globals-left.is))
      (HasArrays-more c.loop-left.arrays.entries c.insert.new.self.entries _ _ c.index-globals-left.result (drop c.loop-left.left c.args.globals.now)
      c.in_ok-insert.ensures.entries c.as_bytes.ensures c.in_ok-elements.ensures c.loop-left.invariant.arrays);
}

pub loop-left-preserved : goal.loop-left-preserved
loop-left-preserved c = record {
  within = omega arith;
  arrays = subst (HasArrays c.insert.new.self.entries)
      (sym (drop-front c.args.globals.now c.loop-left.left c.index-globals-left.result (omega arith) c.loop-left.invariant.within c.index-globals-left.is))
      (HasArrays-more c.loop-left.arrays.entries c.insert.new.self.entries _ _ c.index-globals-left.result (drop c.loop-left.left c.args.globals.now)
      c.in_ok-insert.ensures.entries c.as_bytes.ensures c.in_ok-elements.ensures c.loop-left.invariant.arrays);
}
