use Rattle.std.proofs.Common.{drop, arith, refl, sym, subst}
use Rattle.std.specs.Option.{option_map}
use Rattle.c_lang.specs.Programs.{func_named}
use Rattle.plain_run.proofs.TableLaws.{drop-front, IsFilled-more}
use Rattle.plain_run.specs.Code.Tables.{HasFuncs}
use Rattle.update_semantics.proofs.declared.funcs_by_name.Goals as goal

pub loop-left-preserved : goal.loop-left-preserved
loop-left-preserved c = record {
  within = omega arith;
  has_rest = subst (HasFuncs c.insert.new.self.entries)
      (sym (drop-front c.args.all.now c.loop-left.left c.index-all-left.result (omega arith) c.loop-left.invariant.within c.index-all-left.is))
      (IsFilled-more (λ d. d.name) func_named (option_map (λ d. d.now)) (λ d. d)
      c.loop-left.funcs.entries c.insert.new.self.entries _ _ c.index-all-left.result (drop c.loop-left.left c.args.all.now)
      (λ x. refl) c.in_ok-insert.ensures.entries c.as_bytes.ensures refl c.loop-left.invariant.has_rest);
}
