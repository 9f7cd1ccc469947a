-- No name that a client's picks see in the whole unit is a cell.
use Rattle.std.specs.Prelude.{◌≡◌, ℕ, Bool, true, false, cond, bytes_eq, List, [], ◌∷◌, Option, Some, None}
use Rattle.std.proofs.Common.{sym, subst}
use Rattle.std.specs.Option.{option_or}
use Rattle.c_lang.specs.Names.{Bytes}
use Rattle.c_lang.specs.Refusals as refused
use Rattle.c_lang.specs.declared.program.GlobalVar.{GlobalVar}
use Rattle.c_lang.specs.declared.program.Func.{Func}
use Rattle.c_lang.specs.declared.program.Program.{Program}
use Rattle.c_types.specs.Beside.{own_func, with_own_funcs, own_names}
use Rattle.c_types.specs.Functions.{means_of_func}
use Rattle.c_types.specs.Names.{Means, Refused, Entries, found, added}
use Rattle.c_types.specs.Programs.{with_globals, with_func, with_funcs}
use Rattle.version_names.specs.Parts.{Parts}
use Rattle.client_specs.specs.declared.kind.ClientKind.{ClientKind}
use Rattle.client_specs.specs.declared.kind.ClientKind.TheVariants.{Backward, Post, Conform}
use Rattle.client_specs.specs.declared.region.Region.{Region}
use Rattle.client_specs.specs.declared.region.Region.TheVariants.{After, Before}
use Rattle.client_specs.specs.Kinds.{checked_kind}
use Rattle.client_specs.specs.Starts.{picks_in}
use Rattle.client_specs.specs.Visible.{with_barred, global_names, func_names, visible}
use Rattle.merged_program.proofs.AddedNames.{found_added}
use Rattle.merged_texts.proofs.PlacedStatements.{IsNoCell, HaveNoCells, SeeNoCells}

added_none : (es : Entries) (x : Bytes) (m : Means) → IsNoCell (Some m) → HaveNoCells es → HaveNoCells (added es x m)
added_none es x m k h y = subst IsNoCell (sym (found_added es y x m)) (both (found es y) (bytes_eq y x) (h y))
  where
    both : (o : Option Means) (b : Bool) → IsNoCell o → IsNoCell (option_or o (cond b (Some m) None))
    both None true n = k
    both None false n = tt
    both (Some other) b n = n

own_none : (denied : Option ℕ) (es : Entries) (fs : List Func) → HaveNoCells es → HaveNoCells (with_own_funcs denied es fs)
own_none denied es [] h = h
own_none denied es (f ∷ fs) h = own_none denied (added es f.name (own_func denied f)) fs (added_none es f.name (own_func denied f) tt h)

funcs_none : (es : Entries) (fs : List Func) → HaveNoCells es → HaveNoCells (with_funcs es fs)
funcs_none es [] h = h
funcs_none es (f ∷ fs) h = funcs_none (with_func es f) fs (added_none es f.name (means_of_func f) tt h)

barred_none : (n : ℕ) (es : Entries) (xs : List Bytes) → HaveNoCells es → HaveNoCells (with_barred n es xs)
barred_none n es [] h = h
barred_none n es (x ∷ xs) h = barred_none n (added es x (Refused n)) xs (added_none es x (Refused n) tt h)

module _ (parts : Parts) (first second p : Program) (spec : Bytes) (no_globals : p.globals ≡ []) where
  own : HaveNoCells (own_names (Some refused.client_call) p)
  own =
      own_none (Some refused.client_call) (with_globals [] p.globals) p.funcs
      (subst (λ (gs : List GlobalVar). HaveNoCells (with_globals [] gs)) (sym no_globals) (λ x. tt))

  barred : (es : Entries) → HaveNoCells es
      → HaveNoCells (with_barred refused.client_call (with_barred refused.client_call (with_barred refused.client_global (with_barred refused.client_global es (global_names first)) (global_names second)) (func_names first)) (func_names second))
  barred es h =
      let cells = with_barred refused.client_global (with_barred refused.client_global es (global_names first)) (global_names second) in
      barred_none refused.client_call (with_barred refused.client_call cells (func_names first)) (func_names second)
      (barred_none refused.client_call cells (func_names first)
      (barred_none refused.client_global (with_barred refused.client_global es (global_names first)) (global_names second)
      (barred_none refused.client_global es (global_names first) h)))

  abbrev seen : Region → Entries
  seen region = visible parts region first second p

  after_none : HaveNoCells (seen After)
  after_none = barred (with_funcs (own_names (Some refused.client_call) p) second.funcs) (funcs_none (own_names (Some refused.client_call) p) second.funcs own)

  before_none : HaveNoCells (seen Before)
  before_none = barred (with_funcs (own_names (Some refused.client_call) p) first.funcs) (funcs_none (own_names (Some refused.client_call) p) first.funcs own)

  by_kind : (k : ClientKind) → SeeNoCells (picks_in k (seen After) (seen Before))
  by_kind Backward = tt
  by_kind Post = tt
  by_kind Conform = (after_none, before_none)

  pub picks_see : SeeNoCells (picks_in (checked_kind spec) (visible parts After first second p) (visible parts Before first second p))
  picks_see = by_kind (checked_kind spec)
