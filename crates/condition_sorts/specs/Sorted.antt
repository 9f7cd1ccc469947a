-- Sequents with the sorts of their names.
use Rattle.std.specs.Prelude.{map}
use Rattle.c_lang.specs.declared.program.Func.{Func}
use Rattle.c_lang.specs.declared.program.Program.{Program}
use Rattle.terms.specs.declared.sequent.Sequent.{Sequent}
use Rattle.terms.specs.Names.{distinct, sequent_names}
use Rattle.weakest_preconditions.specs.Sorts.{sort_of}

-- each free name with its sort, in the order of their first occurrence
abbrev pub with_sorts : Program → Func → Sequent → Sequent
with_sorts p f s = record s { sorts = map (λ x. (x, sort_of p f x.base)) (distinct (sequent_names s)) }
