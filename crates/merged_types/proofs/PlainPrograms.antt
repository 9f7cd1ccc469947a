-- A program is typed in its plain form, and the resolved form of it, where its functions are typed and in resolved
-- form.
use Rattle.std.proofs.Common.{◌≡◌, ◌≤◌, ◌+◌, ◌-◌, ℕ, Bool, true, false, List, [], ◌∷◌, map, None, refl, sym, ap, ap₂, ◌∙◌, subst, arith}
use Rattle.std.specs.Prelude.{⊤, ◌||◌}
use Rattle.c_lang.specs.Limits.{cell_limit}
use Rattle.c_lang.specs.declared.unit.Unit.{Unit}
use Rattle.c_lang.specs.declared.program.GlobalVar.{GlobalVar}
use Rattle.c_lang.specs.declared.program.Func.{Func}
use Rattle.c_lang.specs.declared.program.Program.{Program}
use Rattle.c_types.specs.Names.{Entries, found}
use Rattle.c_types.specs.Programs.{with_global, with_globals, with_func, with_funcs, outside_of, cells_of, is_start, has_main, resolved_funcs, resolved_program}
use Rattle.c_types.specs.Types.{IsInitial, IsHeld, AreTypedGlobals, AreTypedProtos, AreTypedFuncs, Types}
use Rattle.c_types.specs.Plain.{plain_func, built_func, plain}
use Rattle.merged_program.proofs.MainLaws.{AreNew}
use Rattle.merged_types.proofs.ResolvedFuncs.{IsResolvedFunc, plain_typed, plain_back}

-- ---- lists of declarations

-- no global has a name that is seen before
abbrev pub AreNewGlobals : Entries → List GlobalVar → Type 0
AreNewGlobals seen [] = ⊤
AreNewGlobals seen (g ∷ gs) = (found seen g.name ≡ None) × AreNewGlobals (with_global seen g) gs

abbrev pub Each : {X : Type 0} → (X → Type 0) → List X → Type 0
Each P [] = ⊤
Each P (x ∷ xs) = P x × Each P xs

abbrev pub all_cells : List GlobalVar → ℕ
all_cells [] = 0
all_cells (g ∷ gs) = cells_of g.shape + all_cells gs

pub globals_typed : (outside seen : Entries) (room : ℕ) (gs : List GlobalVar) → AreNewGlobals seen gs
    → Each (λ (g : GlobalVar). IsInitial outside g.shape × IsHeld g.shape) gs → all_cells gs ≤ room → AreTypedGlobals outside seen room gs
globals_typed outside seen room [] new each fit = tt
globals_typed outside seen room (g ∷ gs) new each fit = (
  record { new = new.0; initial = each.0.0; held = each.0.1; cells = omega (arith, fit) },
  globals_typed outside (with_global seen g) (room - cells_of g.shape) gs new.1 each.1 (omega (arith, fit)),
)

-- ---- functions in plain form

abbrev plainly : List Func → List Func
plainly fs = map built_func (map plain_func fs)

plain_funcs_typed : (outside seen : Entries) (fs : List Func) → AreNew seen fs → Each (IsResolvedFunc outside false) fs
    → AreTypedFuncs outside false seen (plainly fs)
plain_funcs_typed outside seen [] new each = tt
plain_funcs_typed outside seen (f ∷ fs) new each =
    (new.0, plain_typed outside f each.0, plain_funcs_typed outside (with_func seen f) fs new.1 each.1)

plain_funcs_back : (outside : Entries) (fs : List Func) → Each (IsResolvedFunc outside false) fs → resolved_funcs outside false (plainly fs) ≡ fs
plain_funcs_back outside [] each = refl
plain_funcs_back outside (f ∷ fs) each = ap₂ (λ (x : Func) (xs : List Func). x ∷ xs) (plain_back outside f each.0) (plain_funcs_back outside fs each.1)

same_seen : (es : Entries) (fs : List Func) → with_funcs es (plainly fs) ≡ with_funcs es fs
same_seen es [] = refl
same_seen es (f ∷ fs) = same_seen (with_func es f) fs

same_main : (fs : List Func) → has_main (plainly fs) ≡ has_main fs
same_main [] = refl
same_main (f ∷ fs) = ap (λ (b : Bool). is_start f || b) (same_main fs)

-- ---- programs

pub record IsResolvedProgram (u : Unit) (P : Program) : Type 0 where
  pub new_globals : AreNewGlobals [] P.globals
  pub globals : Each (λ (g : GlobalVar). IsInitial (outside_of P.globals P.funcs) g.shape × IsHeld g.shape) P.globals
  pub cells : all_cells P.globals ≤ cell_limit u
  pub protos : AreTypedProtos (with_funcs [] P.funcs) P.protos
  pub new_funcs : AreNew (with_globals [] P.globals) P.funcs
  pub funcs : Each (IsResolvedFunc (outside_of P.globals P.funcs) false) P.funcs
  pub main : has_main P.funcs ≡ true
  pub early : P.early ≡ []

module _ (u : Unit) (P : Program) (h : IsResolvedProgram u P) where
  same_outside : outside_of P.globals (plainly P.funcs) ≡ outside_of P.globals P.funcs
  same_outside = same_seen (with_globals [] P.globals) P.funcs

  pub typed_plain : Types u (plain P)
  typed_plain = record {
    globals = subst (λ (es : Entries). AreTypedGlobals es [] (cell_limit u) P.globals) (sym same_outside)
        (globals_typed (outside_of P.globals P.funcs) [] (cell_limit u) P.globals h.new_globals h.globals h.cells);
    protos = subst (λ (es : Entries). AreTypedProtos es P.protos) (sym (same_seen [] P.funcs)) h.protos;
    funcs = subst (λ (es : Entries). AreTypedFuncs es false (with_globals [] P.globals) (plainly P.funcs)) (sym same_outside)
        (plain_funcs_typed (outside_of P.globals P.funcs) (with_globals [] P.globals) P.funcs h.new_funcs h.funcs);
    main = same_main P.funcs ∙ h.main;
    early = h.early;
  }

  pub resolved_back : resolved_program (plain P) ≡ P
  resolved_back =
      let same : resolved_funcs (outside_of P.globals (plainly P.funcs)) false (plainly P.funcs) ≡ P.funcs =
      ap (λ (es : Entries). resolved_funcs es false (plainly P.funcs)) same_outside ∙ plain_funcs_back (outside_of P.globals P.funcs) P.funcs h.funcs in
      (λ i. record { globals = P.globals; protos = P.protos; funcs = same i; early = sym h.early i })
