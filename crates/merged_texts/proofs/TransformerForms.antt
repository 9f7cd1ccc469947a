-- Resolution changes nothing of what a transformer is without it.
use Rattle.std.specs.Prelude.{◌≡◌, true, List, [], ◌∷◌, map}
use Rattle.std.proofs.Common.{refl, ap₂}
use Rattle.c_lang.specs.declared.program.Func.{Func}
use Rattle.c_lang.specs.declared.program.Program.{Program}
use Rattle.c_types.specs.Names.{Entries}
use Rattle.c_types.specs.Plain.{plain_func, plain_program}
use Rattle.c_types.specs.Programs.{with_func, resolved_funcs}
use Rattle.c_types.proofs.PlainLaws.{plain_func_resolved}
use Rattle.version_names.specs.Parts.{Parts, part_of}
use Rattle.state_xform.specs.Refusals.{resolved_transformer}
use Rattle.state_xform.specs.Transformers.{AreOwnFuncs, IsTransformer}
use Rattle.state_xform.specs.Visible.{visible}

own_resolved : (parts : Parts) (outside seen : Entries) (fs : List Func) → AreOwnFuncs parts outside seen fs → map plain_func (resolved_funcs outside true fs) ≡ map plain_func fs
own_resolved parts outside seen [] h = refl
own_resolved parts outside seen (f ∷ fs) h = ap₂ (λ x xs. x ∷ xs) (plain_func_resolved outside true f h.1) (own_resolved parts outside (with_func seen f) fs h.2)

pub plain_transformer : (first second p : Program) → IsTransformer first second p → plain_program (resolved_transformer (part_of first second) first second p) ≡ plain_program p
plain_transformer first second p h =
    let parts = part_of first second in
    let same = own_resolved parts (visible parts first second p) [] p.funcs h.funcs in
    (λ i. record { globals = p.globals; protos = p.protos; funcs = same i })
