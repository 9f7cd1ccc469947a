-- What a machine of plain runs stands for.
use Rattle.std.specs.Prelude.{⊤}
use Rattle.c_lang.specs.Names.{Bytes}
use Rattle.plain_run.specs.Environments.{Rules}
use Rattle.plain_run.specs.Moves.{Move}
use Rattle.plain_run.specs.PlainEnvironments.{plain_sees, rules_of, store_of}
use Rattle.plain_run.specs.PlainRun.{Store, PlainConfig}
use Rattle.plain_run.specs.Stacks.{config_with, move_with}
use Rattle.plain_run.specs.declared.machine.Machine.{Machine}

-- the rules by which it goes on; where they are those of a program, its moves are the plain steps of that
-- program
abbrev pub rules_in : Machine → Rules Bytes Store ⊤
rules_in m = rules_of m.run.environment

abbrev pub config_of : Machine → PlainConfig
config_of m = config_with plain_sees (store_of m.run.environment) m.run.stack

-- the step that it makes next
abbrev pub move_of : Machine → Move PlainConfig
move_of m = move_with plain_sees (rules_in m) (store_of m.run.environment) m.run.stack
