use Rattle.std.proofs.Common.{◌≡◌, ◌-◌, List, drop, map, arith, sym, ap, subst}
use Rattle.c_lang.specs.Names.{Bytes}
use Rattle.plain_run.specs.Steps.{bound}
use Rattle.c_lang.specs.declared.stmt.Kind.{Kind}
use Rattle.plain_run.specs.Code.Names.{seen_locals}
use Rattle.plain_run.specs.Values.{seen_value}
use Rattle.plain_run.proofs.CallLaws.{bound-more}
use Rattle.plain_run.proofs.TableLaws.{drop-front}
use Rattle.plain_run.proofs.call.bound.Goals as goal

pub loop-left-preserved : goal.loop-left-preserved
loop-left-preserved g c =
    let see = g.E.Look.seen.function in
    let vs = map (seen_value see) c.args.args.now in
    record {
      within = omega arith;
      locals = subst (λ (ps : List (Kind × Bytes)). (x : Bytes) → seen_locals see c.insert.new.self.entries x ≡ bound ps (drop (c.loop-left.left - 1) vs) x)
          (sym (drop-front c.args.params.now c.loop-left.left c.index-params-left.result (omega arith) c.loop-left.invariant.within c.index-params-left.is))
          (bound-more see c.loop-left.locals.entries c.insert.new.self.entries _ _ c.index-params-left.result (drop c.loop-left.left c.args.params.now) c.loop-left.left vs
          (omega arith) c.in_ok-insert.ensures.entries (ap (λ (p : Kind × Bytes). p.1) (sym c.index-params-left.is)) c.argument.ensures c.loop-left.invariant.locals);
    }
