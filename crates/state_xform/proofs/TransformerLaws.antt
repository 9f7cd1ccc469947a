-- A program is a transformer exactly where it has no refusal.
use Rattle.std.proofs.Common.{◌≡◌, Bool, true, false, not, ◌&&◌, ◌||◌, cond, List, [], ◌∷◌, Option, Some, None, is_some, refl, sym, ◌∙◌, subst}
use Rattle.std.specs.Prelude.{if◌then◌else◌, unwrap_or, Result, Ok, Err}
use Rattle.std.specs.List.{list_all, filter}
use Rattle.c_lang.specs.Names.{Bytes}
use Rattle.version_names.specs.Links.{part, is_shared_cell}
use Rattle.version_names.specs.Version as old_new
use Rattle.c_lang.specs.Programs.{global_named, func_named, no_func}
use Rattle.c_lang.specs.declared.unit.Unit.TheVariants as unit
use Rattle.c_lang.specs.declared.refusal.Refusal.{Refusal}
use Rattle.c_lang.specs.declared.refusal.Fail.{Fail}
use Rattle.c_lang.specs.declared.refusal.Fail.TheVariants as fail
use Rattle.c_lang.specs.declared.program.GlobalVar.{GlobalVar}
use Rattle.c_lang.specs.declared.program.Func.{Func}
use Rattle.c_lang.specs.declared.program.Program.{Program}
use Rattle.c_types.specs.Bodies.{body_of}
use Rattle.c_types.specs.Names.{Entries, found}
use Rattle.c_types.specs.Scopes.{names_version}
use Rattle.c_types.specs.Checks.{first as or_then, Checked}
use Rattle.c_types.specs.Functions.{refusal_of_func}
use Rattle.c_types.specs.Programs.{with_func, first_early}
use Rattle.c_lang.specs.Refusals as numbers
use Rattle.c_types.proofs.Combined.{some_none, first_none, none_first, test_false, not_some, either_false}
use Rattle.version_names.specs.Merged.{merged_name}
use Rattle.version_names.specs.Parts.{Parts, parts_in, in_version, part_at, part_of, is_changed_cell, IsLinked}
use Rattle.version_names.specs.declared.links.Links.{Links}
use Rattle.version_names.specs.declared.part.Origin.TheVariants as origin
use Rattle.state_xform.specs.Refusals.{wrong_own_name, is_old, is_new, refusal_of_own, is_changed, not_covered, refusal_of_coverage, refusal_of_started, refusal_of_whole, no_start, first_refusal, resolved_transformer}
use Rattle.state_xform.specs.Transformers.{IsOwnName, AreOwnFuncs, start_name, is_start, is_covered, changed_globals, IsTransformer}
use Rattle.state_xform.specs.Kept.{IsChecked}
use Rattle.state_xform.specs.Visible.{visible}
use Rattle.c_types.specs.Beside.{refusal_of_declarations}
use Rattle.c_types.proofs.BesideLaws.{declarations_sound, declarations_complete}
use Rattle.version_names.proofs.PartLaws.{nowhere, no_version}
use Rattle.c_types.proofs.ProgramsTyped.{func_sound, func_complete, early_sound}

-- ---- functions

module _ (parts : Parts) where
  name_sound : (seen : Entries) (x : Bytes) → wrong_own_name parts seen x ≡ None → IsOwnName parts seen x
  name_sound seen x h =
      let t = test_false ((is_some (found seen x) || in_version parts x) || names_version x) numbers.duplicate h in
      let p = either_false (is_some (found seen x) || in_version parts x) (names_version x) t in
      let q = either_false (is_some (found seen x)) (in_version parts x) p.0 in
      record { new = not_some (found seen x) q.0; free = nowhere parts x q.1; plain = p.1 }

  name_complete : (seen : Entries) (x : Bytes) → IsOwnName parts seen x → wrong_own_name parts seen x ≡ None
  name_complete seen x h =
      rw (h.new, no_version parts x h.free, h.plain) refl

  own_sound : (outside seen : Entries) (fs : List Func) → refusal_of_own parts outside seen fs ≡ None → AreOwnFuncs parts outside seen fs
  own_sound outside seen [] h = tt
  own_sound outside seen (f ∷ fs) h =
      let q = first_none (refusal_of_func (wrong_own_name parts seen f.name) outside true f) (refusal_of_own parts outside (with_func seen f) fs) h in
      let r = func_sound (wrong_own_name parts seen f.name) outside true f q.0 in
      (name_sound seen f.name r.0, r.1, own_sound outside (with_func seen f) fs q.1)

  own_complete : (outside seen : Entries) (fs : List Func) → AreOwnFuncs parts outside seen fs → refusal_of_own parts outside seen fs ≡ None
  own_complete outside seen [] h = refl
  own_complete outside seen (f ∷ fs) h =
      none_first _ _ (func_complete (wrong_own_name parts seen f.name) outside true f (name_complete seen f.name h.0) h.1)
      (own_complete outside (with_func seen f) fs h.2)

-- ---- coverage

-- both versions have it, and not alike, exactly where each has a global of its own
own_parts : (before after shared : Bool)
    → (is_old (part_at (part old_new.Old before shared)) && is_new (part_at (part old_new.New after shared))) ≡ (before && (after && not shared))
own_parts true true true = refl
own_parts true true false = refl
own_parts true false true = refl
own_parts true false false = refl
own_parts false true true = refl
own_parts false true false = refl
own_parts false false true = refl
own_parts false false false = refl

changed_is : (first second : Program) (x : Bytes) → is_changed (part_of first second) x ≡ is_changed_cell first second x
changed_is first second x =
    own_parts (is_some (global_named first.globals x)) (is_some (global_named second.globals x)) (is_shared_cell first second x)

-- one more global, which changed or not, and is covered or not
module _ (covered : GlobalVar → Bool) (g : GlobalVar) (gs : List GlobalVar) (why : Refusal) (rest : Option Refusal) where
  one_sound : (b : Bool) → (rest ≡ None → list_all covered gs ≡ true) → (if not b then Some why else rest) ≡ None → (b && list_all covered gs) ≡ true
  one_sound true next h = next h
  one_sound false next h = absurd (some_none why h)

  one_complete : (b : Bool) → (list_all covered gs ≡ true → rest ≡ None) → (b && list_all covered gs) ≡ true → (if not b then Some why else rest) ≡ None
  one_complete true next h = next h
  one_complete false next h = absurd cc

  more_sound : (changed : Bool) → (rest ≡ None → list_all covered gs ≡ true) → (if changed && not (covered g) then Some why else rest) ≡ None
      → list_all covered (cond changed (g ∷ gs) gs) ≡ true
  more_sound true next h = one_sound (covered g) next h
  more_sound false next h = next h

  more_complete : (changed : Bool) → (list_all covered gs ≡ true → rest ≡ None) → list_all covered (cond changed (g ∷ gs) gs) ≡ true
      → (if changed && not (covered g) then Some why else rest) ≡ None
  more_complete true next h = one_complete (covered g) next h
  more_complete false next h = next h

module _ (first second : Program) (fs : List Func) (start : Func) where
  abbrev covered : GlobalVar → Bool
  covered g = is_covered fs (body_of start.body) (merged_name origin.New g.name) g.shape

  abbrev changed_in : List GlobalVar → List GlobalVar
  changed_in gs = filter (λ (g : GlobalVar). is_changed_cell first second g.name) gs

  abbrev missing : List GlobalVar → Option Refusal
  missing gs = refusal_of_coverage (part_of first second) fs start gs

  cover_sound : (gs : List GlobalVar) → missing gs ≡ None → list_all covered (changed_in gs) ≡ true
  cover_sound [] h = refl
  cover_sound (g ∷ gs) h =
      more_sound covered g (changed_in gs) (not_covered start.pos g.name) (missing gs) (is_changed_cell first second g.name) (cover_sound gs)
      (rw (changed_is first second g.name) at h)

  cover_complete : (gs : List GlobalVar) → list_all covered (changed_in gs) ≡ true → missing gs ≡ None
  cover_complete [] h = refl
  cover_complete (g ∷ gs) h =
      rw (changed_is first second g.name)
      (more_complete covered g (changed_in gs) (not_covered start.pos g.name) (missing gs) (is_changed_cell first second g.name) (cover_complete gs) h)

-- ---- the whole unit

module _ (first second p : Program) where
  abbrev parts : Parts
  parts = part_of first second

  abbrev covers_in : Option Func → Type 0
  covers_in o = list_all (covered first second p.funcs (unwrap_or o no_func)) (changed_globals first second) ≡ true

  started_sound : (start : Func) → refusal_of_started parts second p start ≡ None
      → (is_start (Some start) ≡ true) × (p.early ≡ []) × covers_in (Some start)
  started_sound start h = by (is_start (Some start)) refl h
    where
      by : (b : Bool) → is_start (Some start) ≡ b
          → (if b then or_then (first_early p.early) (refusal_of_coverage parts p.funcs start second.globals) else Some no_start) ≡ None
          → (is_start (Some start) ≡ true) × (p.early ≡ []) × covers_in (Some start)
      by true e k =
          let q = first_none (first_early p.early) (refusal_of_coverage parts p.funcs start second.globals) k in
          (e, early_sound p.early q.0, cover_sound first second p.funcs start second.globals q.1)
      by false e k = absurd (some_none no_start k)

  whole_sound : (o : Option Func) → refusal_of_whole parts second p o ≡ None → (is_start o ≡ true) × (p.early ≡ []) × covers_in o
  whole_sound None h = absurd (some_none no_start h)
  whole_sound (Some start) h = started_sound start h

  whole_complete : (o : Option Func) → is_start o ≡ true → p.early ≡ [] → covers_in o → refusal_of_whole parts second p o ≡ None
  whole_complete None s e c = absurd cc
  whole_complete (Some start) s e c = rw (s, e) (cover_complete first second p.funcs start second.globals c)

  pub transformer : first_refusal parts first second p ≡ None → IsTransformer first second p
  transformer h =
      let outside = visible parts first second p in
      let own = refusal_of_own parts outside [] p.funcs in
      let whole = refusal_of_whole parts second p (func_named p.funcs start_name) in
      let a = first_none (refusal_of_declarations numbers.transformer_effect unit.Xform outside p) (or_then own whole) h in
      let b = first_none own whole a.1 in
      let c = declarations_sound numbers.transformer_effect unit.Xform outside p a.0 in
      let d = whole_sound (func_named p.funcs start_name) b.1 in
      record {
        globals = c.0;
        protos = c.1;
        funcs = own_sound parts outside [] p.funcs b.0;
        start = d.0;
        early = d.1;
        covers = d.2;
      }

  pub not_refused : IsTransformer first second p → first_refusal parts first second p ≡ None
  not_refused h =
      let outside = visible parts first second p in
      none_first _ _ (declarations_complete numbers.transformer_effect unit.Xform outside p h.globals h.protos)
      (none_first _ _ (own_complete parts outside [] p.funcs h.funcs) (whole_complete (func_named p.funcs start_name) h.start h.early h.covers))

-- ---- what a check answers

module _ (first second : Program) (links : Links) (linked : IsLinked first second links) where
  same_parts : parts_in links ≡ part_of first second
  same_parts = λ i v s x. linked.parts v s x i

  -- by the links instead of by the two programs
  abbrev ByParts : Parts → Program → Result Program Fail → Type 0
  ByParts parts p result = Checked result (first_refusal parts first second p) (resolved_transformer parts first second p)

  by_programs : (p : Program) (result : Result Program Fail) → ByParts (part_of first second) p result → IsChecked first second p result
  by_programs p (Ok x) h = (transformer first second p h.0, h.1)
  by_programs p (Err fail.NoMemory) h = tt
  by_programs p (Err (fail.Refused r)) h = (λ t. some_none r (sym h ∙ not_refused first second p t), h)

  by_links : (p : Program) (result : Result Program Fail) → ByParts (parts_in links) p result → IsChecked first second p result
  by_links p result h = by_programs p result (subst (λ parts. ByParts parts p result) same_parts h)

-- the two programs are what references to them have
pub checked : (a b first second : Program) (links : Links) → a ≡ first → b ≡ second → IsLinked first second links
    → (p : Program) (result : Result Program Fail)
    → Checked result (first_refusal (parts_in links) a b p) (resolved_transformer (parts_in links) a b p) → IsChecked first second p result
checked a b first second links same other linked p result h =
    by_links first second links linked p result
    (subst (λ (y : Program). Checked result (first_refusal (parts_in links) first y p) (resolved_transformer (parts_in links) first y p)) other
    (subst (λ (x : Program). Checked result (first_refusal (parts_in links) x b p) (resolved_transformer (parts_in links) x b p)) same h))
