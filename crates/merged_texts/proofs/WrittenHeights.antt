-- The printed text of a program is no higher than the tree that the program was read from.
use Rattle.std.specs.Prelude.{◌≡◌, ◌≤◌, max, ℕ, false, List, [], ◌∷◌, ◌++◌, map}
use Rattle.std.proofs.Common.{subst, arith}
use Rattle.c_lang.specs.declared.unit.Unit.{Unit}
use Rattle.c_lang.specs.declared.program.Func.{Func}
use Rattle.c_lang.specs.declared.program.Program.{Program}
use Rattle.c_grammar.specs.declared.token.Token.{Token}
use Rattle.c_grammar.specs.Statements.{pieces_stmts}
use Rattle.c_grammar.specs.Units.{named_param, param_list, Parts, External, external_height, unit_height, IsExternal, AreExternals, no_parts, function_start, add, add_all}
use Rattle.c_grammar.specs.Units as tree
use Rattle.c_grammar.specs.Grammar.{Gram}
use Rattle.merge_printer.specs.Heights.{funcs_height}
use Rattle.merged_texts.proofs.StatementHeights.{body_height, pieces_low}

pub both_funcs : (fs gs : List Func) → funcs_height (fs ++ gs) ≡ max (funcs_height fs) (funcs_height gs)
both_funcs [] gs = omega arith
both_funcs (f ∷ fs) gs = omega (arith, both_funcs fs gs)

pub one_func : (f : Func) → funcs_height (f ∷ []) ≡ body_height f.body
one_func f = omega arith

add_low : (u : Unit) (a : Parts) (x : External) → IsExternal u x → funcs_height (add a x).funcs ≤ max (funcs_height a.funcs) (external_height x)
add_low u a (tree.number int at x i end) h = omega arith
add_low u a (tree.array int at x o n size c i end) h = omega arith
add_low u a (tree.pointer int p i end) h = omega arith
add_low u a (tree.prototype head end) h = omega arith
add_low u a (tree.function head o ts c) h =
    let body = pieces_low u false ts (function_start head) h.1 in
    let f : Func = record { name = head.name; params = map named_param (param_list head.params); gives = head.gives; body = pieces_stmts ts (function_start head); pos = head.at.pos } in
    omega (arith, body, both_funcs a.funcs (f ∷ []))

add_all_low : (u : Unit) (a : Parts) (xs : List External) → AreExternals u xs → funcs_height (add_all a xs).funcs ≤ max (funcs_height a.funcs) (unit_height xs)
add_all_low u a [] h = omega arith
add_all_low u a (x ∷ xs) h =
    let first = add_low u a x h.0 in
    let rest = add_all_low u (add a x) xs h.1 in
    omega (arith, first, rest)

pub written_low : (u : Unit) (deep : ℕ) (ts : List Token) (P : Program) → Gram u deep ts P → funcs_height P.funcs ≤ deep
written_low u deep ts P g =
    let all = add_all_low u (no_parts u) g.tree g.valid in
    subst (λ (Q : Program). funcs_height Q.funcs ≤ deep) g.program (omega (arith, all, g.height_fits))
