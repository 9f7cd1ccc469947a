-- The numbers of the refusals by their names, and a refusal at a place.
use Rattle.std.specs.Prelude.{ℕ, ◌++◌, [], Option, None, Some, codes}
use Rattle.std.specs.Fmt.{decimal}
use Rattle.c_lang.specs.Names.{Bytes}
use Rattle.c_lang.specs.Units.{word}
use Rattle.c_lang.specs.declared.unit.Pos.{Pos}
use Rattle.c_lang.specs.declared.refusal.Refusal.{Refusal}

-- a refusal that names nothing
abbrev pub refused_at : ℕ → Pos → Refusal
refused_at number p = record { number = number; pos = p; name = None }

-- a byte that begins nothing
abbrev pub bad_byte : ℕ
bad_byte = 1

-- a run from a digit on that is no number
abbrev pub bad_number : ℕ
bad_number = 2

-- tokens that are no program within the height
abbrev pub syntax_error : ℕ
syntax_error = 3

-- a `#` at the beginning of a line that is no directive of the unit
abbrev pub bad_directive : ℕ
bad_directive = 4

-- too many open brackets
abbrev pub too_nested : ℕ
too_nested = 5

-- a word that begins with `dsu_` and isn't allowed in the unit
abbrev pub reserved_word : ℕ
reserved_word = 6

-- a name that is declared already
abbrev pub duplicate : ℕ
duplicate = 7

-- a parameter or local with a name that is in scope, or will be
abbrev pub shadowed : ℕ
shadowed = 8

-- a name that isn't declared or not visible; a prototype without its function
abbrev pub unknown : ℕ
unknown = 9

-- a kind that doesn't fit its place
abbrev pub wrong_kind : ℕ
wrong_kind = 10

-- another number of arguments than of parameters
abbrev pub argument_count : ℕ
argument_count = 11

-- a body that can end without the value that it should give
abbrev pub missing_return : ℕ
missing_return = 12

-- no `int main(void)`, or in a transformer no `void dsu_transform(void)`
abbrev pub no_start : ℕ
no_start = 13

-- the use of a result that isn't given, or a value returned from a `void` function
abbrev pub void_use : ℕ
void_use = 14

-- a function whose name is no value
abbrev pub not_pointable : ℕ
not_pointable = 15

-- two points with one number
abbrev pub point_twice : ℕ
point_twice = 16

-- a listed number that is no point's
abbrev pub no_such_point : ℕ
no_such_point = 17

-- a changed global that the transformer doesn't set on every path
abbrev pub not_covered : ℕ
not_covered = 18

-- an effect or a global of a transformer, or its call of a version's function
abbrev pub transformer_effect : ℕ
transformer_effect = 19

-- a client declares a global, or names one of a version
abbrev pub client_global : ℕ
client_global = 20

-- a function that a client may not call or name there, or `dsu_force` or a pick where none may stand
abbrev pub client_call : ℕ
client_call = 21

-- no function of a client can begin a run
abbrev pub no_spec : ℕ
no_spec = 22

-- a text that holds no hints for the program
abbrev pub bad_hints : ℕ
bad_hints = 23

-- a contract that doesn't list a cell which is set under it
abbrev pub unlisted_cell : ℕ
unlisted_cell = 24

-- a text that holds no certificates
abbrev pub bad_certificates : ℕ
bad_certificates = 25

-- more conditions than can be kept
abbrev pub too_many_conditions : ℕ
too_many_conditions = 26

-- a size, a number of cells, elements or parameters past its limit
abbrev pub past_limit : ℕ
past_limit = 27

-- a comment that isn't closed
abbrev pub open_comment : ℕ
open_comment = 28

abbrev pub name_text : Option Bytes → Bytes
name_text None = []
name_text (Some name) = codes " " ++ name

-- the printed line of a refusal
abbrev pub refusal_text : Refusal → Bytes
refusal_text refusal =
    codes "refused " ++ decimal refusal.number ++ codes " " ++ word refusal.pos.unit ++ codes ":" ++ decimal refusal.pos.line ++ name_text refusal.name
