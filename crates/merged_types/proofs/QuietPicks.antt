-- In a program that is written in a unit the calls of all picks declare nothing.
use Rattle.std.specs.Prelude.{List, [], ◌∷◌, All}
use Rattle.std.proofs.lemmas.List.Elements.{All-head, All-tail}
use Rattle.c_lang.specs.Trees.{Statement, Statements, if_else, while_loop, pick, none, more}
use Rattle.c_lang.specs.declared.unit.Unit.{Unit}
use Rattle.c_lang.specs.declared.program.Func.{Func}
use Rattle.c_lang.specs.declared.program.Program.{Program}
use Rattle.c_grammar.specs.Written.{IsWritten}
use Rattle.c_types.specs.Bodies.{body_of}
use Rattle.written_laws.specs.Walk.{Context, Throughout, ThroughoutAll, in_loop, past, past_all, start_of}
use Rattle.written_laws.proofs.StatementFits.{HasTarget}
use Rattle.written_laws.proofs.WrittenLaws.{targets}
use Rattle.resolved_types.proofs.ResolvedSources.{PicksDeclareNothing, AllPicksDeclareNothing}
use Rattle.merged_types.proofs.PlainPrograms.{Each}

abbrev Says : Context → Statement → Type 0
Says at s = HasTarget s

mutual
  quiet : (at : Context) (s : Statement) → Throughout Says at s → PicksDeclareNothing s
  quiet at (if_else p e xs ys) h = (all_quiet at xs h.1, all_quiet (past_all at xs) ys h.2)
  quiet at (while_loop p e xs) h = all_quiet (in_loop at) xs h.1
  quiet at (pick p a b) h = h.0
  quiet at _ h = tt

  all_quiet : (at : Context) (ss : Statements) → ThroughoutAll Says at ss → AllPicksDeclareNothing ss
  all_quiet at none h = tt
  all_quiet at (more s ss) h = (quiet at s h.0, all_quiet (past at s) ss h.1)

abbrev IsSaid : Func → Type 0
IsSaid f = ThroughoutAll Says (start_of f) (body_of f.body)

abbrev pub IsQuiet : Func → Type 0
IsQuiet f = AllPicksDeclareNothing (body_of f.body)

each_quiet : (fs : List Func) → All IsSaid fs → Each IsQuiet fs
each_quiet [] h = tt
each_quiet (f ∷ fs) h = (all_quiet (start_of f) (body_of f.body) (All-head IsSaid f fs h), each_quiet fs (All-tail IsSaid f fs h))

pub written_quiet : (u : Unit) (p : Program) → IsWritten u p → Each IsQuiet p.funcs
written_quiet u p h = each_quiet p.funcs (targets u p h)
