-- The `main` of a typed program, in its resolved form.
use Rattle.std.proofs.Common.{◌≡◌, ◌≤◌, Bool, true, false, if◌then◌else◌, List, [], ◌∷◌, Option, Some, None, unwrap_or, refl, sym, ap, ◌∙◌, subst, length, arith, codes}
use Rattle.std.specs.Option.{option_map}
use Rattle.std.specs.Str.{bytes_eq}
use Rattle.c_lang.specs.Names.{Bytes}
use Rattle.c_lang.specs.Limits.{parameter_limit}
use Rattle.c_lang.specs.Programs.{func_named, func_in, no_func}
use Rattle.c_lang.specs.declared.program.Func.{Func}
use Rattle.c_types.specs.Names.{Entries}
use Rattle.c_types.specs.Functions.{resolved_func}
use Rattle.c_types.specs.Programs.{outside_of, with_func, with_globals, resolved_funcs}
use Rattle.c_types.specs.Types.{AreTypedFuncs}
use Rattle.c_types.specs.Kept.{TypedProgram, IsKept}
use Rattle.version_names.specs.Links.{is_shared_code}
use Rattle.merged_program.proofs.MainLaws.{StartsIt, main_starts, starts_alike, new_funcs, same_start, resolved_named}
use Rattle.merged_runs.proofs.Wrappers.{length-kinds}

module _ (outside : Entries) (xform : Bool) where
  few-params : (seen : Entries) (fs : List Func) → AreTypedFuncs outside xform seen fs → (n : Bytes) → length (func_in fs n).params ≤ parameter_limit
  few-params seen [] t n = omega arith
  few-params seen (f ∷ fs) t n = one (bytes_eq f.name n) (few-params (with_func seen f) fs t.2 n)
    where
      own : length f.params ≤ parameter_limit
      own = subst (λ k. k ≤ parameter_limit) (length-kinds f.params) t.1.few

      one : (b : Bool) → length (unwrap_or (func_named fs n) no_func).params ≤ parameter_limit
          → length (unwrap_or (if b then Some f else func_named fs n) no_func).params ≤ parameter_limit
      one true more = own
      one false more = more

  -- ---- the resolved form

  resolved-params : (a : Option Func) → (unwrap_or (option_map (resolved_func outside xform) a) no_func).params ≡ (unwrap_or a no_func).params
  resolved-params None = refl
  resolved-params (Some f) = refl

-- ---- programs that are kept

module _ (kept : TypedProgram) (is : IsKept kept) where
  funcs-are : kept.program.funcs ≡ resolved_funcs (outside_of is.source.globals is.source.funcs) false is.source.funcs
  funcs-are = ap (λ p. p.funcs) is.resolved

  kept-starts : StartsIt (func_named kept.program.funcs (codes "main"))
  kept-starts = subst (λ fs. StartsIt (func_named fs (codes "main"))) (sym funcs-are)
      (main_starts (with_globals [] is.source.globals) (resolved_funcs (outside_of is.source.globals is.source.funcs) false is.source.funcs)
      (new_funcs (outside_of is.source.globals is.source.funcs) (with_globals [] is.source.globals) is.source.funcs is.typed.funcs)
      (same_start (outside_of is.source.globals is.source.funcs) false is.source.funcs ∙ is.typed.main))

  pub kept-few : (f : Bytes) → length (func_in kept.program.funcs f).params ≤ parameter_limit
  kept-few f = subst (λ fs. length (func_in fs f).params ≤ parameter_limit) (sym funcs-are)
      (subst (λ ps. length ps ≤ parameter_limit)
      (sym (ap (λ a. (unwrap_or a no_func).params) (resolved_named (outside_of is.source.globals is.source.funcs) false is.source.funcs f)
      ∙ resolved-params (outside_of is.source.globals is.source.funcs) false (func_named is.source.funcs f)))
      (few-params (outside_of is.source.globals is.source.funcs) false (with_globals [] is.source.globals) is.source.funcs is.typed.funcs f))

-- two versions share `main`
pub main-shared : (old new : TypedProgram) → IsKept old → IsKept new → is_shared_code old.program new.program (codes "main") ≡ true
main-shared old new is is' = starts_alike (func_named old.program.funcs (codes "main")) (func_named new.program.funcs (codes "main")) (kept-starts old is) (kept-starts new is')
