-- A unit beside two versions has no globals where none is refused.
use Rattle.std.proofs.Common.{◌≡◌, ℕ, List, [], ◌∷◌, Some, None, refl}
use Rattle.c_lang.specs.Limits.{cell_limit}
use Rattle.c_lang.specs.declared.unit.Unit.{Unit}
use Rattle.c_lang.specs.declared.refusal.Refusal.{Refusal}
use Rattle.c_lang.specs.declared.program.GlobalVar.{GlobalVar}
use Rattle.c_lang.specs.declared.program.Program.{Program}
use Rattle.c_types.specs.Names.{Entries, smaller}
use Rattle.c_types.specs.Programs.{with_funcs, wrong_global, refusal_of_protos}
use Rattle.c_types.specs.Beside.{refusal_of_first, refusal_of_declarations}
use Rattle.c_types.specs.Types.{AreTypedProtos}
use Rattle.c_types.proofs.Combined.{some_none, both_none, first_none, none_first, at_none}
use Rattle.c_types.proofs.ProgramsTyped.{protos_sound, protos_complete}

no_globals : (n : ℕ) (u : Unit) (early : List Refusal) (outside : Entries) (gs : List GlobalVar) → refusal_of_first n u early outside gs ≡ None → gs ≡ []
no_globals n u early outside [] h = refl
no_globals n u early outside (g ∷ gs) h =
    let alone = wrong_global early outside [] (cell_limit u) g in
    absurd (some_none n (both_none (Some n) alone (at_none (smaller (Some n) alone) g.pos h)).0)

pub declarations_sound : (n : ℕ) (u : Unit) (outside : Entries) (p : Program) → refusal_of_declarations n u outside p ≡ None
    → (p.globals ≡ []) × AreTypedProtos (with_funcs [] p.funcs) p.protos
declarations_sound n u outside p h =
    let q = first_none (refusal_of_first n u p.early outside p.globals) (refusal_of_protos (with_funcs [] p.funcs) p.protos) h in
    (no_globals n u p.early outside p.globals q.0, protos_sound (with_funcs [] p.funcs) p.protos q.1)

pub declarations_complete : (n : ℕ) (u : Unit) (outside : Entries) (p : Program) → p.globals ≡ [] → AreTypedProtos (with_funcs [] p.funcs) p.protos
    → refusal_of_declarations n u outside p ≡ None
declarations_complete n u outside p none protos = none_first _ _ (rw none refl) (protos_complete (with_funcs [] p.funcs) p.protos protos)
