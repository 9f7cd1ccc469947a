-- The run of one program that knows no update.
use Rattle.std.specs.Prelude.{⊤, ℕ, ℤ, List, [], codes}
use Rattle.std.specs.Str.{bytes_eq}
use Rattle.c_lang.specs.Names.{Bytes}
use Rattle.c_lang.specs.Values.{Value}
use Rattle.plain_run.specs.Moves.{Move, Goes, events_of, Shows}
use Rattle.plain_run.specs.Steps.{updated, Frame, Config, Live, Access, Special, frame_of, step_with}
use Rattle.c_lang.specs.Programs.{global_named, func_in, initial_value, initial_elements}
use Rattle.c_lang.specs.declared.event.Event.{Event}
use Rattle.c_lang.specs.declared.stmt.Dest.TheVariants.{Nowhere}
use Rattle.c_lang.specs.declared.program.Program.{Program}

-- the globals: the scalars and pointers, and the arrays
pub record Store : Type 0 where
  pub values : Bytes → Value Bytes
  pub arrays : Bytes → List ℤ

abbrev pub PlainFrame : Type 0
PlainFrame = Frame Bytes ⊤

abbrev pub PlainConfig : Type 0
PlainConfig = Config Bytes Store ⊤

-- a function's name stands for itself
abbrev pub plain_access : Program → Access Bytes Store ⊤
plain_access P = record {
  same = bytes_eq;
  value = λ o s. s.values;
  elements = λ o s. s.arrays;
  code = λ o s f. f;
  put = λ o x v s. record s { values = updated s.values x v };
  put_elements = λ o x elements s. record s { arrays = updated s.arrays x elements };
  enter = λ s f. (tt, func_in P.funcs f);
}

-- a point is dropped; a force or a pick stands in no plain program
abbrev pub dropped : (P : Program) → Special (plain_access P)
dropped P = λ s f fs l. Goes [] (Live s f fs)

abbrev pub step : Program → PlainConfig → Move PlainConfig
step P = step_with (plain_access P) (dropped P)

-- the initial values, and a frame of `main`
abbrev pub start : Program → PlainConfig
start P = Live
    (record { values = λ x. initial_value (λ f. f) (global_named P.globals x); arrays = λ x. initial_elements (global_named P.globals x) })
    (frame_of (plain_access P) (tt, func_in P.funcs (codes "main")) [] Nowhere) []

-- the events of the first n steps from the start with these answers
abbrev pub events : Program → List ℤ → ℕ → List Event
events P answers n = events_of (step P) n (start P) answers

-- the observable prefixes of the program
abbrev pub Obs : Program → List ℤ → List Event → Type 0
Obs P answers h = Shows (step P) (start P) answers h
