use Rattle.std.proofs.Common.{◌≡◌, ◌++◌, map, drop}
use Rattle.c_lang.specs.declared.program.GlobalVar.{GlobalVar}
use Rattle.terms.specs.Trees.{name}
use Rattle.expression_conditions.specs.Meanings.{current}
use Rattle.loop_invariants.specs.EntryNames.{global_at_entry}
use Rattle.name_changes.proofs.changes.entered_numbers.Given as goal

-- the pairs so far and those to come
abbrev pub invariant-loop-global : goal.invariant-loop-global
invariant-loop-global l =
    l.pairs.items ++ map (λ g. (global_at_entry g, name (current g))) (map (λ (d : GlobalVar). d.name) (drop l.global-index l.globals))
    ≡ map (λ g. (global_at_entry g, name (current g))) (map (λ (d : GlobalVar). d.name) l.globals)
