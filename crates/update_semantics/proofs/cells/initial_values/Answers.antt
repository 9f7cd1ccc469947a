use Rattle.std.proofs.Common.{drop, arith, sym, subst}
use Rattle.plain_run.proofs.TableLaws.{drop-front}
use Rattle.update_semantics.specs.Code.Cells.{HasValuesOf}
use Rattle.update_semantics.proofs.CellLaws.{HasValues-more}
use Rattle.update_semantics.proofs.cells.initial_values.Goals as goal

pub loop-left-preserved : goal.loop-left-preserved
loop-left-preserved c = record {
  within = omega arith;
  values = subst (HasValuesOf c.args.meanings.now c.args.version c.insert.new.self.entries)
      (sym (drop-front c.as_slice-globals.result.now c.loop-left.left c.index-globals-left.result (omega arith) c.loop-left.invariant.within c.index-globals-left.is))
      (HasValues-more c.args.meanings.now c.args.version c.loop-left.values.entries c.insert.new.self.entries _ _ c.index-globals-left.result (drop c.loop-left.left c.as_slice-globals.result.now)
      c.in_ok-insert.ensures.entries c.as_bytes.ensures c.shape_value-value.ensures c.loop-left.invariant.values);
}
