-- A program is a client exactly where it has no refusal.
use Rattle.std.proofs.Common.{◌≡◌, ◌||◌, Bool, true, false, List, [], ◌∷◌, Option, Some, None, is_some, refl, sym, ◌∙◌, subst}
use Rattle.std.specs.Prelude.{if◌then◌else◌, Result, Ok, Err}
use Rattle.c_lang.specs.Refusals as numbers
use Rattle.c_lang.specs.Names.{Bytes}
use Rattle.c_lang.specs.Programs.{func_named}
use Rattle.c_lang.specs.declared.unit.Unit.TheVariants.{Client}
use Rattle.c_lang.specs.declared.refusal.Refusal.{Refusal}
use Rattle.c_lang.specs.declared.refusal.Fail.{Fail}
use Rattle.c_lang.specs.declared.refusal.Fail.TheVariants as fail
use Rattle.c_lang.specs.declared.program.Func.{Func}
use Rattle.c_lang.specs.declared.program.Program.{Program}
use Rattle.c_types.specs.Names.{Entries, found}
use Rattle.c_types.specs.Checks.{first as or_then, Checked}
use Rattle.c_types.specs.Functions.{refusal_from}
use Rattle.c_types.specs.Programs.{with_func, first_early}
use Rattle.c_types.specs.Beside.{refusal_of_declarations}
use Rattle.c_types.proofs.Combined.{some_none, first_none, none_first, test_false, not_some, either_false}
use Rattle.c_types.proofs.ProgramsTyped.{from_sound, from_complete, early_sound}
use Rattle.c_types.proofs.BesideLaws.{declarations_sound, declarations_complete}
use Rattle.version_names.specs.Parts.{Parts, parts_in, part_of, in_version, IsLinked}
use Rattle.version_names.specs.declared.links.Links.{Links}
use Rattle.version_names.proofs.PartLaws.{nowhere, no_version}
use Rattle.client_specs.specs.declared.region.Region.TheVariants.{Here, Behind}
use Rattle.client_specs.specs.Visible.{visible}
use Rattle.client_specs.specs.Kinds.{checked_kind}
use Rattle.client_specs.specs.Starts.{is_forcing, begins, start}
use Rattle.client_specs.specs.Clients.{IsOwnName, AreOwnFuncs, is_spec, IsClient}
use Rattle.client_specs.specs.Refusals.{wrong_own_name, no_spec, refusal_of_whole, refusal_of_own, first_refusal, resolved_client}
use Rattle.client_specs.specs.Kept.{ClientProgram, IsChecked}

-- ---- functions

module _ (parts : Parts) where
  name_sound : (seen : Entries) (x : Bytes) → wrong_own_name parts seen x ≡ None → IsOwnName parts seen x
  name_sound seen x h =
      let q = either_false (is_some (found seen x)) (in_version parts x) (test_false (is_some (found seen x) || in_version parts x) numbers.duplicate h) in
      record { new = not_some (found seen x) q.0; free = nowhere parts x q.1 }

  name_complete : (seen : Entries) (x : Bytes) → IsOwnName parts seen x → wrong_own_name parts seen x ≡ None
  name_complete seen x h = rw (h.new, no_version parts x h.free) refl

module _ (parts : Parts) (old new p : Program) (spec : Bytes) where
  own_sound : (seen : Entries) (fs : List Func) → refusal_of_own parts old new p spec seen fs ≡ None → AreOwnFuncs parts old new p spec seen fs
  own_sound seen [] h = tt
  own_sound seen (f ∷ fs) h =
      let again = wrong_own_name parts seen f.name in
      let s = start parts old new p spec f in
      let q = first_none (refusal_from again s f) (refusal_of_own parts old new p spec (with_func seen f) fs) h in
      let r = from_sound again s f q.0 in
      (name_sound parts seen f.name r.0, r.1, own_sound (with_func seen f) fs q.1)

  own_complete : (seen : Entries) (fs : List Func) → AreOwnFuncs parts old new p spec seen fs → refusal_of_own parts old new p spec seen fs ≡ None
  own_complete seen [] h = refl
  own_complete seen (f ∷ fs) h =
      none_first _ _ (from_complete (wrong_own_name parts seen f.name) (start parts old new p spec f) f (name_complete parts seen f.name h.0) h.1)
      (own_complete (with_func seen f) fs h.2)

-- ---- where functions begin

module _ (parts : Parts) (old new p : Program) (spec : Bytes) (f : Func) where
  pub forcing_start : (forced : Entries) → is_forcing (checked_kind spec) spec f.name ≡ true → forced ≡ visible parts Behind old new p
      → begins parts old new p spec (Some forced) f.gives ≡ start parts old new p spec f
  forcing_start forced may is = rw (may, is) refl

  pub quiet_start : is_forcing (checked_kind spec) spec f.name ≡ false → begins parts old new p spec None f.gives ≡ start parts old new p spec f
  quiet_start not = rw not refl

-- ---- the whole unit

whole_sound : (spec : Bytes) (p : Program) → refusal_of_whole spec p ≡ None → (is_spec spec (func_named p.funcs spec) ≡ true) × (p.early ≡ [])
whole_sound spec p h = by (is_spec spec (func_named p.funcs spec)) refl h
  where
    by : (b : Bool) → is_spec spec (func_named p.funcs spec) ≡ b → (if b then first_early p.early else Some no_spec) ≡ None
        → (is_spec spec (func_named p.funcs spec) ≡ true) × (p.early ≡ [])
    by true e k = (e, early_sound p.early k)
    by false e k = absurd (some_none no_spec k)

whole_complete : (spec : Bytes) (p : Program) → is_spec spec (func_named p.funcs spec) ≡ true → p.early ≡ [] → refusal_of_whole spec p ≡ None
whole_complete spec p named early = rw (named, early) refl

module _ (old new p : Program) (spec : Bytes) where
  abbrev outside : Entries
  outside = visible (part_of old new) Here old new p

  abbrev own : Option Refusal
  own = refusal_of_own (part_of old new) old new p spec [] p.funcs

  client : first_refusal (part_of old new) old new p spec ≡ None → IsClient old new spec p
  client h =
      let a = first_none (refusal_of_declarations numbers.client_global Client outside p) (or_then own (refusal_of_whole spec p)) h in
      let b = first_none own (refusal_of_whole spec p) a.1 in
      let c = declarations_sound numbers.client_global Client outside p a.0 in
      let d = whole_sound spec p b.1 in
      record { globals = c.0; protos = c.1; funcs = own_sound (part_of old new) old new p spec [] p.funcs b.0; named = d.0; early = d.1 }

  not_refused : IsClient old new spec p → first_refusal (part_of old new) old new p spec ≡ None
  not_refused h =
      none_first _ _ (declarations_complete numbers.client_global Client outside p h.globals h.protos)
      (none_first _ _ (own_complete (part_of old new) old new p spec [] p.funcs h.funcs) (whole_complete spec p h.named h.early))

-- ---- what a check answers

-- the client with this name
abbrev pub named_client : Bytes → Result Program Fail → Result ClientProgram Fail
named_client spec (Ok program) = Ok (record { spec = spec; program = program })
named_client spec (Err why) = Err why

module _ (old new : Program) (links : Links) (linked : IsLinked old new links) (spec : Bytes) where
  same_parts : parts_in links ≡ part_of old new
  same_parts = λ i v s x. linked.parts v s x i

  -- by the links instead of by the two programs
  abbrev ByParts : Parts → Program → Result Program Fail → Type 0
  ByParts parts p result = Checked result (first_refusal parts old new p spec) (resolved_client parts old new p spec)

  by_programs : (p : Program) (result : Result Program Fail) → ByParts (part_of old new) p result → IsChecked old new spec p (named_client spec result)
  by_programs p (Ok x) h = (refl, client old new p spec h.0, h.1)
  by_programs p (Err fail.NoMemory) h = tt
  by_programs p (Err (fail.Refused r)) h = (λ t. some_none r (sym h ∙ not_refused old new p spec t), h)

  by_links : (p : Program) (result : Result Program Fail) → ByParts (parts_in links) p result → IsChecked old new spec p (named_client spec result)
  by_links p result h = by_programs p result (subst (λ parts. ByParts parts p result) same_parts h)

-- the two programs are what references to them have
pub checked : (a b old new : Program) (links : Links) → a ≡ old → b ≡ new → IsLinked old new links → (spec : Bytes) (p : Program)
    (result : Result Program Fail) → Checked result (first_refusal (parts_in links) a b p spec) (resolved_client (parts_in links) a b p spec)
    → IsChecked old new spec p (named_client spec result)
checked a b old new links same other linked spec p result h =
    by_links old new links linked spec p result
    (subst (λ (y : Program). Checked result (first_refusal (parts_in links) old y p spec) (resolved_client (parts_in links) old y p spec)) other
    (subst (λ (x : Program). Checked result (first_refusal (parts_in links) x b p spec) (resolved_client (parts_in links) x b p spec)) same h))
