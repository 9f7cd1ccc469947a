-- The resolved form of a typed program has functions that are typed and in resolved form.
use Rattle.std.proofs.Common.{◌≡◌, ◌≤◌, ℕ, Bool, false, List, [], ◌∷◌, refl, sym, ◌∙◌, subst, arith}
use Rattle.c_lang.specs.Limits.{cell_limit}
use Rattle.c_lang.specs.declared.unit.Unit.{Unit}
use Rattle.c_lang.specs.declared.program.GlobalVar.{GlobalVar}
use Rattle.c_lang.specs.declared.program.Func.{Func}
use Rattle.c_lang.specs.declared.program.Program.{Program}
use Rattle.c_types.specs.Names.{Entries}
use Rattle.c_types.specs.Programs.{with_global, with_globals, with_func, with_funcs, outside_of, cells_of, resolved_funcs, resolved_program}
use Rattle.c_types.specs.Types.{IsInitial, IsHeld, AreTypedGlobals, AreTypedProtos, AreTypedFuncs, Types}
use Rattle.merged_program.proofs.MainLaws.{new_funcs, same_start}
use Rattle.merged_types.proofs.ResolvedFuncs.{IsResolvedFunc, func_resolved}
use Rattle.merged_types.proofs.PlainPrograms.{AreNewGlobals, Each, all_cells, IsResolvedProgram}

-- ---- globals

new_globals : (outside seen : Entries) (room : ℕ) (gs : List GlobalVar) → AreTypedGlobals outside seen room gs → AreNewGlobals seen gs
new_globals outside seen room [] h = tt
new_globals outside seen room (g ∷ gs) h = (h.0.new, new_globals outside (with_global seen g) _ gs h.1)

each_global : (outside seen : Entries) (room : ℕ) (gs : List GlobalVar) → AreTypedGlobals outside seen room gs
    → Each (λ (g : GlobalVar). IsInitial outside g.shape × IsHeld g.shape) gs
each_global outside seen room [] h = tt
each_global outside seen room (g ∷ gs) h = ((h.0.initial, h.0.held), each_global outside (with_global seen g) _ gs h.1)

cells_fit : (outside seen : Entries) (room : ℕ) (gs : List GlobalVar) → AreTypedGlobals outside seen room gs → all_cells gs ≤ room
cells_fit outside seen room [] h = omega arith
cells_fit outside seen room (g ∷ gs) h =
    let first : cells_of g.shape ≤ room = h.0.cells in
    let rest = cells_fit outside (with_global seen g) _ gs h.1 in omega (arith, first, rest)

-- ---- functions

pub same_heads : (outside : Entries) (xform : Bool) (es : Entries) (fs : List Func) → with_funcs es (resolved_funcs outside xform fs) ≡ with_funcs es fs
same_heads outside xform es [] = refl
same_heads outside xform es (f ∷ fs) = same_heads outside xform (with_func es f) fs

each_func : (outside seen : Entries) (fs : List Func) → AreTypedFuncs outside false seen fs → Each (IsResolvedFunc outside false) (resolved_funcs outside false fs)
each_func outside seen [] h = tt
each_func outside seen (f ∷ fs) h = (func_resolved outside false f h.1, each_func outside (with_func seen f) fs h.2)

-- ---- programs

pub source_program : (u : Unit) (p : Program) → Types u p → IsResolvedProgram u (resolved_program p)
source_program u p h =
    let outside = outside_of p.globals p.funcs in
    let same : outside ≡ outside_of p.globals (resolved_funcs outside false p.funcs) = sym (same_heads outside false (with_globals [] p.globals) p.funcs) in
    record {
      new_globals = new_globals outside [] (cell_limit u) p.globals h.globals;
      globals = subst (λ (es : Entries). Each (λ (g : GlobalVar). IsInitial es g.shape × IsHeld g.shape) p.globals) same
          (each_global outside [] (cell_limit u) p.globals h.globals);
      cells = cells_fit outside [] (cell_limit u) p.globals h.globals;
      protos = subst (λ (es : Entries). AreTypedProtos es p.protos) (sym (same_heads outside false [] p.funcs)) h.protos;
      new_funcs = new_funcs outside (with_globals [] p.globals) p.funcs h.funcs;
      funcs = subst (λ (es : Entries). Each (IsResolvedFunc es false) (resolved_funcs outside false p.funcs)) same
          (each_func outside (with_globals [] p.globals) p.funcs h.funcs);
      main = same_start outside false p.funcs ∙ h.main;
      early = refl;
    }
