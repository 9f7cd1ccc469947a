-- The positions of a program that is written in a unit of sources can be printed.
use Rattle.std.specs.Prelude.{ℕ, List, [], ◌∷◌, ◌++◌, All}
use Rattle.std.proofs.Common.{sym, subst}
use Rattle.std.proofs.lemmas.List.Elements.{All-nil, All-push}
use Rattle.c_lang.specs.Units.{IsPosition}
use Rattle.c_lang.specs.Positions.{FuncHasPositions, ProgramHasPositions}
use Rattle.c_lang.specs.declared.unit.Unit.{Unit}
use Rattle.c_lang.specs.declared.refusal.Refusal.{Refusal}
use Rattle.c_lang.specs.declared.program.GlobalVar.{GlobalVar}
use Rattle.c_lang.specs.declared.program.Proto.{Proto}
use Rattle.c_lang.specs.declared.program.Func.{Func}
use Rattle.c_lang.specs.declared.program.Program.{Program}
use Rattle.c_grammar.specs.Tokens.{mark, brace_open, brace_close}
use Rattle.c_grammar.specs.Statements.{pieces_tokens}
use Rattle.c_grammar.specs.Units.{Parts, External, head_tokens, external_tokens, unit_tokens, no_parts, function_start, add, add_all}
use Rattle.c_grammar.specs.Units as tree
use Rattle.c_grammar.specs.Grammar.{program_of}
use Rattle.c_grammar.specs.Written.{IsWritten}
use Rattle.written_laws.specs.Sources.{IsSource}
use Rattle.written_laws.proofs.GivenPositions.{TokensHavePositions, split_positions, given_positions}
use Rattle.written_laws.proofs.StatementPositions.{pieces_have}

abbrev GlobalAt : GlobalVar → Type 0
GlobalAt g = IsPosition g.pos

abbrev ProtoAt : Proto → Type 0
ProtoAt p = IsPosition p.pos

record PartsAt (a : Parts) : Type 0 where
  globals : All GlobalAt a.globals
  protos : All ProtoAt a.protos
  funcs : All FuncHasPositions a.funcs

global_at : (a : Parts) (g : GlobalVar) (cells : ℕ) (early : List Refusal) → PartsAt a → IsPosition g.pos → PartsAt (tree.with_global a g cells early)
global_at a g cells early h k = record { globals = All-push GlobalAt a.globals g h.globals k; protos = h.protos; funcs = h.funcs }

proto_at : (a : Parts) (q : Proto) (early : List Refusal) → PartsAt a → IsPosition q.pos → PartsAt (tree.with_proto a q early)
proto_at a q early h k = record { globals = h.globals; protos = All-push ProtoAt a.protos q h.protos k; funcs = h.funcs }

func_at : (a : Parts) (f : Func) (early : List Refusal) → PartsAt a → FuncHasPositions f → PartsAt (tree.with_func a f early)
func_at a f early h k = record { globals = h.globals; protos = h.protos; funcs = All-push FuncHasPositions a.funcs f h.funcs k }

add_at : (a : Parts) (x : External) → TokensHavePositions (external_tokens x) → PartsAt a → PartsAt (add a x)
add_at a (tree.number int at x i end) h parts = global_at a _ _ _ parts h.0
add_at a (tree.array int at x o n size c i end) h parts = global_at a _ _ _ parts h.0
add_at a (tree.pointer int p i end) h parts = global_at a _ _ _ parts h.0
add_at a (tree.prototype head end) h parts = proto_at a _ _ parts h.0
add_at a (tree.function head o ts c) h parts =
    let split = split_positions (head_tokens head) (mark brace_open o ∷ pieces_tokens ts ++ (mark brace_close c ∷ [])) h in
    let pieces = split_positions (pieces_tokens ts) (mark brace_close c ∷ []) split.1.1 in
    func_at a _ _ parts (h.0, pieces_have ts (function_start head) pieces.0)

add_all_at : (a : Parts) (xs : List External) → TokensHavePositions (unit_tokens xs) → PartsAt a → PartsAt (add_all a xs)
add_all_at a [] h parts = parts
add_all_at a (x ∷ xs) h parts =
    let split = split_positions (external_tokens x) (unit_tokens xs) h in
    add_all_at (add a x) xs split.1 (add_at a x split.0 parts)

of_parts : (a : Parts) → PartsAt a → ProgramHasPositions (program_of a)
of_parts a h = record { globals = h.globals; protos = h.protos; funcs = h.funcs }

pub written_positions : (u : Unit) (p : Program) → IsSource u → IsWritten u p → ProgramHasPositions p
written_positions u p source h =
    let g = h.gram in
    let there = subst TokensHavePositions (sym g.written) (given_positions u source h.tokens h.given) in
    let nothing : PartsAt (no_parts u) = record { globals = All-nil GlobalAt; protos = All-nil ProtoAt; funcs = All-nil FuncHasPositions } in
    subst ProgramHasPositions g.program (of_parts (add_all (no_parts u) g.tree) (add_all_at (no_parts u) g.tree there nothing))
