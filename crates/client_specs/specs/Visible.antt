-- What the functions of a client see, by the place at which they stand: what the unit declares, then the versions'
-- functions that may be called there, then what may not be used. Of several declarations of one name the first counts.
use Rattle.std.specs.Prelude.{ℕ, Bool, true, false, if◌then◌else◌, List, [], ◌∷◌, map, Option, Some, None}
use Rattle.c_lang.specs.Refusals as refused
use Rattle.c_lang.specs.Names.{Bytes}
use Rattle.c_lang.specs.declared.program.GlobalVar.{GlobalVar}
use Rattle.c_lang.specs.declared.program.Func.{Func}
use Rattle.c_lang.specs.declared.program.Program.{Program}
use Rattle.c_types.specs.Names.{Refused, Entries, added}
use Rattle.c_types.specs.Programs.{with_func, with_funcs}
use Rattle.c_types.specs.Beside.{own_names}
use Rattle.version_names.specs.Parts.{Parts}
use Rattle.version_names.specs.declared.part.Version.TheVariants as version
use Rattle.version_names.specs.declared.part.Part.{Part}
use Rattle.version_names.specs.declared.part.Part.TheVariants.{Both}
use Rattle.version_names.specs.declared.part.Sort2.TheVariants.{Code}
use Rattle.client_specs.specs.declared.region.Region.{Region}
use Rattle.client_specs.specs.declared.region.Region.TheVariants.{Here, Behind, After, Before}

-- ---- what may be called

abbrev pub is_both : Option Part → Bool
is_both (Some Both) = true
is_both _ = false

-- the old program's functions that both versions have
abbrev pub with_shared : Parts → Entries → List Func → Entries
with_shared parts entries [] = entries
with_shared parts entries (f ∷ fs) =
    with_shared parts (if is_both (parts version.Old Code f.name) then with_func entries f else entries) fs

-- a name that may be called is also a value, where a version's function is one
abbrev pub with_callable : Parts → Region → Program → Program → Entries → Entries
with_callable parts Here first second entries = with_shared parts entries first.funcs
with_callable parts Behind first second entries = with_funcs entries second.funcs
with_callable parts After first second entries = with_funcs entries second.funcs
with_callable parts Before first second entries = with_funcs entries first.funcs

-- a pick calls no function of the client's own
abbrev pub denied_in : Region → Option ℕ
denied_in Here = None
denied_in Behind = None
denied_in After = Some refused.client_call
denied_in Before = Some refused.client_call

-- ---- what may not be used

abbrev pub with_barred : ℕ → Entries → List Bytes → Entries
with_barred n entries [] = entries
with_barred n entries (x ∷ xs) = with_barred n (added entries x (Refused n)) xs

abbrev pub global_names : Program → List Bytes
global_names p = map (λ (g : GlobalVar). g.name) p.globals

abbrev pub func_names : Program → List Bytes
func_names p = map (λ (f : Func). f.name) p.funcs

-- ---- all of it

abbrev pub visible : Parts → Region → Program → Program → Program → Entries
visible parts region first second p =
    let callable = with_callable parts region first second (own_names (denied_in region) p) in
    let cells = with_barred refused.client_global (with_barred refused.client_global callable (global_names first)) (global_names second) in
    with_barred refused.client_call (with_barred refused.client_call cells (func_names first)) (func_names second)
