use Rattle.std.proofs.Common.{◌≡◌, map, drop}
use Rattle.c_lang.specs.Trees.{expression_of}
use Rattle.c_lang.specs.declared.program.Func.{Func}
use Rattle.expression_conditions.specs.Meanings.{val}
use Rattle.expression_conditions.specs.Numbers.{numbers_in}
use Rattle.weakest_preconditions.specs.Wp.{implies, is_function, asked}
use Rattle.symbolic_state.specs.Steps.{finished}
use Rattle.wp_conditions.specs.Code.Edges.{context_for}
use Rattle.wp_conditions.specs.Code.Growing.{grown_each}
use Rattle.wp_conditions.proofs.statements.put_asked_all.Given as goal

-- what is left leads to the whole
abbrev pub invariant-loop-func : goal.invariant-loop-func
invariant-loop-func l = record {
  made : grown_each l.site.0 l.site.2 l.made (λ f. map (finished l.initial.state) (implies (is_function (context_for l.site) l.pointer f)
      (asked (context_for l.site) l.pos f (map (val (numbers_in l.site.0)) (map expression_of l.args)))))
      (map (λ (d : Func). d.name) (map (λ f. f.now) (drop l.func-index l.funcs)))
      ≡ grown_each l.site.0 l.site.2 l.initial.made (λ f. map (finished l.initial.state) (implies (is_function (context_for l.site) l.pointer f)
      (asked (context_for l.site) l.pos f (map (val (numbers_in l.site.0)) (map expression_of l.args)))))
      (map (λ (d : Func). d.name) (map (λ f. f.now) l.funcs));
  state : l.state ≡ l.initial.state;
}
