-- A client's own functions by their names, and in its resolved form.
use Rattle.std.proofs.Common.{◌≡◌, Bool, true, false, if◌then◌else◌, List, [], ◌∷◌, Option, Some, None, is_some, refl, sym, ap, ◌∙◌, subst, codes}
use Rattle.std.specs.Option.{option_map}
use Rattle.std.specs.Str.{bytes_eq}
use Rattle.c_lang.specs.Names.{Bytes}
use Rattle.c_lang.specs.Programs.{func_named}
use Rattle.c_lang.specs.declared.program.Func.{Func}
use Rattle.c_lang.specs.declared.program.Program.{Program}
use Rattle.c_types.specs.Names.{Entries}
use Rattle.c_types.specs.Functions.{is_main, resolved_from}
use Rattle.c_types.specs.Programs.{with_func, is_empty}
use Rattle.c_types.proofs.Combined.{both_true}
use Rattle.version_names.specs.Parts.{Parts}
use Rattle.version_names.specs.declared.part.Version.{Version}
use Rattle.version_names.specs.declared.part.Sort2.{Sort2}
use Rattle.client_specs.specs.Kinds.{kind_of}
use Rattle.client_specs.specs.Starts.{start}
use Rattle.client_specs.specs.Clients.{AreOwnFuncs, fits_kind, is_spec}
use Rattle.client_specs.specs.Spelled.{spelled_func}
use Rattle.client_specs.specs.Refusals.{resolved_own}
use Rattle.merged_program.proofs.MergedNames.{by_bool, true_false, same_names}
use Rattle.merged_program.proofs.MainLaws.{AreNew, empty_is}
use Rattle.merged_types.proofs.PlainPrograms.{Each}

-- these functions have one of this name, without parameters
pub record HasSpec (spec : Bytes) (fs : List Func) : Type 0 where
  pub func : Func
  pub named : func_named fs spec ≡ Some func
  pub params : func.params ≡ []

module _ (parts : Parts) (first second p : Program) (spec : Bytes) where
  -- ---- what no version has

  pub own_new : (seen : Entries) (fs : List Func) → AreOwnFuncs parts first second p spec seen fs → AreNew seen fs
  own_new seen [] h = tt
  own_new seen (f ∷ fs) h = (h.0.new, own_new (with_func seen f) fs h.2)

  own_free : (seen : Entries) (fs : List Func) → AreOwnFuncs parts first second p spec seen fs → (y : Bytes) → is_some (func_named fs y) ≡ true
      → (w : Version) (s : Sort2) → parts w s y ≡ None
  own_free seen [] h y s = absurd cc
  own_free seen (f ∷ fs) h y s = by_bool (bytes_eq f.name y)
      (λ e. subst (λ (z : Bytes). (w : Version) (s : Sort2) → parts w s z ≡ None) (same_names f.name y e) h.0.free)
      (λ e. own_free (with_func seen f) fs h.2 y (sym (ap (λ (b : Bool). is_some (if b then Some f else func_named fs y)) e) ∙ s))

  -- no version has the name of an own function
  pub own_nowhere : (fs : List Func) → AreOwnFuncs parts first second p spec [] fs → (f : Func) → func_named fs f.name ≡ Some f
      → (w : Version) (s : Sort2) → parts w s f.name ≡ None
  own_nowhere fs h f e = own_free [] fs h f.name (ap is_some e)

  -- a name that a version has is none of them
  pub not_own : (fs : List Func) → AreOwnFuncs parts first second p spec [] fs → (y : Bytes) (w : Version) (s : Sort2) → is_some (parts w s y) ≡ true → func_named fs y ≡ None
  not_own fs h y w s k = by_option (func_named fs y) refl
    where
      by_option : (o : Option Func) → func_named fs y ≡ o → o ≡ None
      by_option None e = refl
      by_option (Some f) e = absurd (true_false (sym k ∙ ap is_some (own_free [] fs h y (ap is_some e) w s)))

  -- ---- the resolved form

  abbrev pub resolved_form : Func → Func
  resolved_form f = spelled_func parts (resolved_from (start parts first second p spec f) f)

  pub resolved_named : (fs : List Func) (n : Bytes) → func_named (resolved_own parts first second p spec fs) n ≡ option_map resolved_form (func_named fs n)
  resolved_named [] n = refl
  resolved_named (f ∷ fs) n = by_test (bytes_eq f.name n) (resolved_named fs n)
    where
      by_test : (b : Bool) → func_named (resolved_own parts first second p spec fs) n ≡ option_map resolved_form (func_named fs n)
          → (if b then Some (resolved_form f) else func_named (resolved_own parts first second p spec fs) n) ≡ option_map resolved_form (if b then Some f else func_named fs n)
      by_test true e = refl
      by_test false e = e

  pub resolved_new : (seen : Entries) (fs : List Func) → AreNew seen fs → AreNew seen (resolved_own parts first second p spec fs)
  resolved_new seen [] h = tt
  resolved_new seen (f ∷ fs) h = (h.0, resolved_new (with_func seen f) fs h.1)

  -- where a version has `main`
  pub no_main : (w : Version) (s : Sort2) → is_some (parts w s (codes "main")) ≡ true → (seen : Entries) (fs : List Func) → AreOwnFuncs parts first second p spec seen fs
      → Each (λ (f : Func). is_main f.name ≡ false) (resolved_own parts first second p spec fs)
  no_main w s there seen [] h = tt
  no_main w s there seen (f ∷ fs) h = (
    by_bool (is_main f.name)
        (λ e. absurd (true_false (sym there ∙ sym (ap (λ (x : Bytes). is_some (parts w s x)) (same_names f.name (codes "main") e)) ∙ ap is_some (h.0.free w s))))
        (λ e. e),
    no_main w s there (with_func seen f) fs h.2,
  )

  -- ---- the function with which a run begins

  pub spec_found : (fs : List Func) → is_spec spec (func_named fs spec) ≡ true → HasSpec spec (resolved_own parts first second p spec fs)
  spec_found fs h = by_option (func_named fs spec) refl
    where
      by_option : (o : Option Func) → func_named fs spec ≡ o → HasSpec spec (resolved_own parts first second p spec fs)
      by_option None e = let never : false ≡ true = sym (ap (is_spec spec) e) ∙ h in absurd cc
      by_option (Some f) e = record {
        func = resolved_form f;
        named = resolved_named fs spec ∙ ap (option_map resolved_form) e;
        params = empty_is f.params (both_true (is_empty f.params) (fits_kind (kind_of spec) f) (sym (ap (is_spec spec) e) ∙ h)).0;
      }
