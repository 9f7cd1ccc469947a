-- What the text that `merge` writes is.
use Rattle.std.specs.Prelude.{◌≡◌, ◌↔◌, ℕ, ℤ, List, Option}
use Rattle.c_lang.specs.Limits.{height_limit}
use Rattle.c_lang.specs.declared.event.Event.{Event}
use Rattle.c_lang.specs.declared.unit.Unit.TheVariants.{Merge}
use Rattle.c_lang.specs.declared.program.Program.{Program}
use Rattle.c_grammar.specs.Written.{Parses}
use Rattle.c_types.specs.Programs.{resolved_program}
use Rattle.c_types.specs.Types.{Types}
use Rattle.plain_run.specs.PlainRun.{Obs}
use Rattle.update_semantics.specs.UpdatingRun.{World, ObsU}
use Rattle.front_end.specs.Worlds.{Texts, IsAccepted}
use Rattle.top_call.specs.Words.{Text}

-- The texts are accepted as a world. The written text is exactly one program, which is typed, and its
-- observable prefixes are exactly those of the world's updating run: of the old version, or of the client, updated
-- once at most, at a permitted point or at the client's force.
pub record IsMergedText (points : Option (List ℕ)) (ts : Texts) (text : Text) : Type 0 where
  pub world : World
  pub accepted : IsAccepted points ts world
  pub program : Program
  pub parses : Parses Merge (height_limit Merge) text program
  pub only : (other : Program) → Parses Merge (height_limit Merge) text other → other ≡ program
  pub typed : Types Merge program
  pub shows : (answers : List ℤ) (h : List Event) → Obs (resolved_program program) answers h ↔ ObsU world answers h
