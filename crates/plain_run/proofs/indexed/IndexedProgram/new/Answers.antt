use Rattle.std.proofs.Common.{drop, arith, refl, sym, subst}
use Rattle.std.specs.Option.{option_map}
use Rattle.c_lang.specs.Programs.{func_named}
use Rattle.plain_run.specs.Code.Tables.{HasFuncs}
use Rattle.plain_run.proofs.TableLaws.{drop-front, IsFilled-more}
use Rattle.plain_run.proofs.indexed.IndexedProgram.new.Goals as goal

pub loop-left-preserved : goal.loop-left-preserved
loop-left-preserved c = record {
  within = omega arith;
  has_rest = subst (HasFuncs c.put.new.table.entries)
      (sym (drop-front c.as_slice-all.result.now c.loop-left.left c.index-all-left.result (omega arith) c.loop-left.invariant.within c.index-all-left.is))
      (IsFilled-more (λ d. d.name) func_named (option_map (λ f. f.now)) (λ d. d)
      c.loop-left.funcs.entries c.put.new.table.entries _ _ c.index-all-left.result (drop c.loop-left.left c.as_slice-all.result.now)
      (λ x. refl) c.in_ok-put.ensures.set refl refl c.loop-left.invariant.has_rest);
}
