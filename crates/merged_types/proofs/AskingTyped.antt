-- What a point and a force become is typed and in resolved form wherever the flag, the transformer and what a point
-- declares have their meaning.
use Rattle.std.proofs.Common.{◌≡◌, ℕ, Bool, false, ◌&&◌, [], length, Option, Some, None, refl, sym, ap, ap₂, ◌∙◌, subst, codes}
use Rattle.std.specs.Option.{option_or}
use Rattle.c_lang.specs.Names.{Bytes}
use Rattle.c_lang.specs.Trees.{choice}
use Rattle.c_lang.specs.declared.unit.Pos.{Pos}
use Rattle.c_lang.specs.declared.stmt.Dest.TheVariants.{Nowhere, Fresh}
use Rattle.c_lang.specs.declared.stmt.Kind.TheVariants.{Int}
use Rattle.c_types.specs.Names.{Means, Cell, Code, Names, found, meant}
use Rattle.c_types.specs.Scopes.{Scope, Block, in_scope, names_of, is_another, names_version}
use Rattle.c_types.specs.Expressions.{kind_of_name, or_int}
use Rattle.c_types.specs.Scopes.{kind_of_target}
use Rattle.c_types.specs.Statements.{scope_after, block_in, entered}
use Rattle.c_types.specs.Typing.{IsCell, IsFresh}
use Rattle.version_names.specs.Merged.{merged_name}
use Rattle.version_names.specs.declared.part.Origin.TheVariants.{Xform}
use Rattle.merged_program.specs.Names.{now_name, choice_name}
use Rattle.merged_program.specs.Statements.{is_zero, is_set, swap, question, asking, forcing}
use Rattle.merged_program.proofs.AddedNames.{one, found_added}
use Rattle.merged_types.proofs.EntryLaws.{absent_from, added_behind}
use Rattle.merged_types.proofs.Carrying.{some_is}
use Rattle.merged_types.proofs.CarriedScopes.{HasUpdate}
use Rattle.resolved_types.proofs.ResolvedTyping.{IsInt, IsVariable, IsResolved, IsResolvedCall, IsResolvedStatement, AreResolved}

-- ---- tests of a number

zero_test : (names : Names) (x : Bytes) → names x ≡ Cell Int → IsResolved names Int (is_zero x)
zero_test names x h =
    subst (λ (m : Means).
    let k = or_int (option_or (kind_of_name m) None) in
    (Int ≡ Int) × IsVariable k m × IsInt k) (sym h) (refl, refl, tt)

pub set_test : (names : Names) (x : Bytes) → names x ≡ Cell Int → IsResolved names Int (is_set x)
set_test names x h =
    subst (λ (m : Means).
    let k = or_int (option_or (kind_of_name m) None) in
    (Int ≡ Int) × IsVariable k m × IsInt k) (sym h) (refl, refl, tt)

-- ---- names that the whole program has

pub outside_means : (t : Scope) (x : Bytes) (m : Means) → found t.outside x ≡ Some m → names_of t x ≡ m
outside_means t x m h = ap meant (some_is m (found t.outside x) (found t.locals x) h)

-- ---- the update

set_flag : (b : Block) (t : Scope) (p : Pos) → names_of t now_name ≡ Cell Int
    → IsCell (names_of t now_name) × IsInt (or_int (option_or (kind_of_target (names_of t now_name)) (Some Int)))
set_flag b t p h = subst (λ (m : Means). IsCell m × IsInt (or_int (option_or (kind_of_target m) (Some Int)))) (sym h) (tt, tt)

swap_resolved : (b : Block) (t : Scope) (p : Pos) → HasUpdate t.outside → AreResolved b t (swap p)
swap_resolved b t p h =
    let transform = merged_name Xform (codes "dsu_transform") in (
      set_flag b t p (outside_means t now_name (Cell Int) h.now),
      ((tt, subst (λ (m : Means). IsResolvedCall t m Nowhere []) (sym (outside_means t transform (Code [] false None None) h.transform)) (refl, tt, tt)), tt),
    )

pub forcing_resolved : (b : Block) (t : Scope) (p : Pos) → HasUpdate t.outside → IsResolvedStatement b t (forcing p)
forcing_resolved b t p h =
    (zero_test (names_of t) now_name (outside_means t now_name (Cell Int) h.now), swap_resolved (block_in t) (entered t (swap p)) p h, tt)

-- ---- what a point becomes

module _ (t : Scope) (h : HasUpdate t.outside) (apart : found t.locals choice_name ≡ None) (told : is_another (found t.told choice_name) Int ≡ false)
    (ahead : found t.ahead choice_name ≡ None) (code : t.xform ≡ false) (p : Pos) (k : ℕ) where
  abbrev within : Scope
  within = entered t (question p k)

  choice_free : in_scope t choice_name ≡ None
  choice_free = ap₂ option_or h.choice apart

  choice_fresh : IsFresh (block_in t) within Int choice_name
  choice_fresh = record {
    new = absent_from (length t.locals) t.locals choice_name apart;
    alike = told;
    free = choice_free;
    kept = added_behind t.ahead choice_name (Cell Int) ahead;
    own = ap (λ (y : Bool). y && names_version choice_name) code;
  }

  abbrev behind : Scope
  behind = scope_after within (choice p (Fresh Int choice_name) k)

  choice_means : names_of behind choice_name ≡ Cell Int
  choice_means =
      ap meant (ap₂ option_or h.choice (found_added t.locals choice_name choice_name (Cell Int) ∙ ap (λ (o : Option Means). option_or o (one choice_name choice_name (Cell Int))) apart))

  pub asking_resolved : (b : Block) → IsResolvedStatement b t (asking p k)
  asking_resolved b = (
    zero_test (names_of t) now_name (outside_means t now_name (Cell Int) h.now),
    (
      ((choice_fresh, tt), code, (refl, refl)),
      ((set_test (names_of behind) choice_name choice_means, swap_resolved (block_in behind) (entered behind (swap p)) p h, tt), tt),
    ),
    tt,
  )
