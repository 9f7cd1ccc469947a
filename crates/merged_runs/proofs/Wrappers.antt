-- The wrappers of a merged program.
use Rattle.std.proofs.Common.{◌≡◌, ℕ, suc, ◌+◌, ◌<◌, ◌≤◌, ◌^◌, Bool, true, false, ◌&&◌, List, [], ◌∷◌, map, Option, Some, None, is_some, unwrap_or, refl, sym, ap, ◌∙◌, subst, length, arith, codes}
use Rattle.std.specs.Option.{option_map}
use Rattle.std.specs.Str.{bytes_eq}
use Rattle.std.specs.Fmt.{decimal}
use Rattle.std.proofs.lemmas.Fmt.{decimal_injective}
use Rattle.std.proofs.lemmas.List.{length-map}
use Rattle.c_lang.specs.Names.{Bytes}
use Rattle.c_lang.specs.Limits.{parameter_limit}
use Rattle.c_lang.specs.Kinds.{same_kind, same_kinds, same_result}
use Rattle.c_lang.specs.Programs.{func_named, func_in, no_func}
use Rattle.c_lang.specs.declared.stmt.Kind.{Kind}
use Rattle.c_lang.specs.declared.program.Func.{Func}
use Rattle.c_types.specs.Functions.{kinds_of}
use Rattle.c_types.proofs.Combined.{both_true}
use Rattle.version_names.specs.Links as links
use Rattle.version_names.specs.Links.{both_alike, same_head, is_shared_code, code_part}
use Rattle.version_names.specs.Version.{Version}
use Rattle.version_names.specs.Version as version
use Rattle.version_names.specs.Home.{Home, Linked}
use Rattle.version_names.specs.Home as home
use Rattle.version_names.specs.Provenance.{Provenance}
use Rattle.version_names.specs.Provenance as origin
use Rattle.plain_run.specs.Steps.{Does}
use Rattle.update_semantics.specs.UpdatingRun.{World, client_funcs, function_meaning}
use Rattle.merged_program.specs.Names.{parameter_name, code_name, variable_name}
use Rattle.merged_program.specs.Programs.{parameters_from, wrapper, merged_funcs}
use Rattle.merged_program.proofs.MergedNames.{to_false, same_names}
use Rattle.merged_program.proofs.Lookups.{name_of_func, func_named-is, named-name}
use Rattle.merged_runs.proofs.MergedStatements.{wrapper_body, wrapper-built}
use Rattle.merged_runs.proofs.ClientCode.{FitItems}
use Rattle.merged_runs.proofs.Relation.{MayName}
use Rattle.merged_runs.proofs.FrameLemmas.{IsMerged}
use Rattle.merged_runs.proofs.CallLemmas.{Apart, Distinct, NoFlag, IsWrapper, IsCallable, HasFuncs}
use Rattle.merged_runs.proofs.Meanings.{IsFoundCode, function-found, not_shared}
use Rattle.merged_runs.proofs.FunctionTable.{M, old-merged, new-merged, xform-merged, client-merged, none-named, wrapper-in}

-- ---- lists of parameters

pub length-kinds : (ps : List (Kind × Bytes)) → length (kinds_of ps) ≡ length ps
length-kinds [] = refl
length-kinds (p ∷ ps) = ap suc (length-kinds ps)

pub length-same : (ks ls : List Kind) → same_kinds ks ls ≡ true → length ks ≡ length ls
length-same [] [] h = refl
length-same [] (l ∷ ls) h = absurd cc
length-same (k ∷ ks) [] h = absurd cc
length-same (k ∷ ks) (l ∷ ls) h = ap suc (length-same ks ls (right (same_kind k l) (same_kinds ks ls) h))
  where
    right : (a b : Bool) → a && b ≡ true → b ≡ true
    right true b h = h
    right false b h = absurd cc

length-parameters : (n : ℕ) (ks : List Kind) → length (parameters_from n ks) ≡ length ks
length-parameters n [] = refl
length-parameters n (k ∷ ks) = ap suc (length-parameters (n + 1) ks)

-- ---- wrappers

parameters-apart : (m n : ℕ) → m < n → n < 2 ^ 64 → bytes_eq (parameter_name m) (parameter_name n) ≡ false
parameters-apart m n before small = to_false (bytes_eq (decimal m) (decimal n)) (λ e.
    let same : m ≡ n = decimal_injective m n (omega (arith, before, small)) small (same_names (decimal m) (decimal n) e) in
    absurd (omega (arith, before, same)))

module _ (W : World) where
  apart-from : (m n : ℕ) (ks : List Kind) → m < n → n + length ks < 2 ^ 64 → Apart (M W) (parameter_name m) (parameters_from n ks)
  apart-from m n [] before small = tt
  apart-from m n (k ∷ ks) before small = (parameters-apart m n before (omega arith), apart-from m (n + 1) ks (omega arith) (omega arith))

  distinct-from : (n : ℕ) (ks : List Kind) → n + length ks < 2 ^ 64 → Distinct (M W) (parameters_from n ks)
  distinct-from n [] small = tt
  distinct-from n (k ∷ ks) small = (apart-from n (n + 1) ks (omega arith) (omega arith), distinct-from (n + 1) ks (omega arith))

  no-flag-from : (n : ℕ) (ks : List Kind) → NoFlag (M W) (parameters_from n ks)
  no-flag-from n [] = tt
  no-flag-from n (k ∷ ks) = (refl, no-flag-from (n + 1) ks)

  merged-length : (o : Provenance) (d m : Func) → IsMerged (M W) o d m → length m.params ≡ length d.params
  merged-length o d m is = ap length is.params ∙ length-map d.params (λ (q : Kind × Bytes). (q.0, variable_name W o q.1))

  same-gives : (a b : Bool) → same_result a b ≡ true → b ≡ a
  same-gives true b h = h
  same-gives false true h = absurd cc
  same-gives false false h = refl

  -- of the old version alone: two heads that are the same have as many parameters
  module _ (few : (f : Bytes) → length (func_in W.first.funcs f).params ≤ parameter_limit) (x : Bytes) where
    wrapper-by : (a b : Option Func) → func_named W.first.funcs x ≡ a → func_named W.second.funcs x ≡ b
        → is_shared_code W.first W.second x ≡ true → both_alike same_head a b ≡ true → IsWrapper (M W) x
    wrapper-by (Some f) (Some g) first second shared alike =
        let in_merged : func_in (merged_funcs W) (code_name (home.Both, x)) ≡ wrapper f =
        ap (λ o. unwrap_or o no_func) (wrapper-in W x shared ∙ ap (option_map wrapper) first) in
        let first_is : func_in W.first.funcs x ≡ f = ap (λ o. unwrap_or o no_func) first in
        let second_is : func_in W.second.funcs x ≡ g = ap (λ o. unwrap_or o no_func) second in
        let name : f.name ≡ x = named-name name_of_func W.first.funcs x f (sym (func_named-is W.first.funcs x) ∙ first) in
        let heads = both_true (same_kinds (kinds_of f.params) (kinds_of g.params)) (same_result f.gives g.gives) alike in
        let held : length f.params ≤ parameter_limit = subst (λ d. length d.params ≤ parameter_limit) first_is (few x) in
        let kinds : length (kinds_of f.params) ≡ length f.params = length-kinds f.params in
        let own : length (func_in (merged_funcs W) (code_name (home.Both, x))).params ≡ length f.params =
        ap (λ d. length d.params) in_merged ∙ length-parameters 1 (kinds_of f.params) ∙ kinds in
        let others : length g.params ≡ length f.params =
        sym (length-kinds g.params) ∙ sym (length-same (kinds_of f.params) (kinds_of g.params) heads.0) ∙ kinds in
        record {
          at = f.pos;
          body = subst (λ d. d.body ≡ wrapper_body f.pos d.gives (code_name (home.New, x)) (code_name (home.Old, x)) d.params) (sym in_merged)
              (wrapper-built f.pos f.gives (code_name (home.New, f.name)) (code_name (home.Old, f.name)) (wrapper f).params
              ∙ ap (λ n. wrapper_body f.pos f.gives (code_name (home.New, n)) (code_name (home.Old, n)) (wrapper f).params) name);
          distinct = subst (λ d. Distinct (M W) d.params) (sym in_merged) (distinct-from 1 (kinds_of f.params) (omega (arith, held, kinds)));
          no_flag = subst (λ d. NoFlag (M W) d.params) (sym in_merged) (no-flag-from 1 (kinds_of f.params));
          old = old-merged W x;
          new = new-merged W x;
          old_params = merged-length origin.Old _ _ (old-merged W x) ∙ ap (λ d. length d.params) first_is ∙ sym own;
          new_params = merged-length origin.New _ _ (new-merged W x) ∙ ap (λ d. length d.params) second_is ∙ others ∙ sym own;
          old_gives = ap (λ d. d.gives) first_is ∙ sym (ap (λ d. d.gives) in_merged);
          new_gives = ap (λ d. d.gives) second_is ∙ same-gives f.gives g.gives heads.1 ∙ sym (ap (λ d. d.gives) in_merged);
        }
    wrapper-by (Some f) None first second shared alike = absurd cc
    wrapper-by None b first second shared alike = absurd cc

    pub shared-wrapper : is_shared_code W.first W.second x ≡ true → IsWrapper (M W) x
    shared-wrapper shared = wrapper-by (func_named W.first.funcs x) (func_named W.second.funcs x) refl refl shared shared

  -- ---- every function that a frame may name

  shared-by : (has shared : Bool) → links.part version.Old has shared ≡ home.Both → shared ≡ true
  shared-by true true h = refl
  shared-by true false h = absurd cc
  shared-by false shared h = absurd cc

  module _ (few : (f : Bytes) → length (func_in W.first.funcs f).params ≤ parameter_limit) (main : is_shared_code W.first W.second (codes "main") ≡ true) where
    callable : (now : Version) (k : Linked) → IsFoundCode W k → IsCallable (M W) now k
    callable now (home.Both, x) h = shared-wrapper few x (shared-by (is_some (func_named W.first.funcs x)) (is_shared_code W.first W.second x) h)
    callable now (home.Old, x) h = old-merged W x
    callable now (home.New, x) h = new-merged W x
    callable now (home.Xform, x) h = xform-merged W x
    callable now (home.Client, x) h = client-merged W x
    callable now (home.Unlinked, x) h = none-named W now x (not_shared W (codes "main") x main h)

    pub functions : ((f : Bytes) → FitItems (MayName W) (map Does (func_in (client_funcs W) f).body)) → HasFuncs (M W)
    functions early = record { callable = λ o now f. callable now (function_meaning W o f) (function-found W o f); early = early }
