-- Parameters change only the locals of a scope, and so does a body in which no force may stand.
use Rattle.std.specs.Prelude.{if◌then◌else◌}
use Rattle.std.proofs.Common.{◌≡◌, Bool, List, [], ◌∷◌, Option, None, refl, sym, ap, ◌∙◌, subst, true, false, ap₂}
use Rattle.c_lang.specs.Names.{Bytes}
use Rattle.c_lang.specs.Trees.{Statement, Statements, none, more}
use Rattle.c_lang.specs.declared.stmt.Kind.{Kind}
use Rattle.c_types.specs.Names.{Entries}
use Rattle.c_types.specs.Scopes.{Scope, Picks, Block}
use Rattle.c_types.specs.Typing.{MayForce, IsPick}
use Rattle.c_types.specs.Functions.{with_param, with_params, start_of, scope_of, IsPlain, body_scope}
use Rattle.c_types.specs.Statements.{outside_after, forced_after, outside_after_all, forced_after_all, scope_after, begun, entered, after_body, after_block, is_force}
use Rattle.c_lang.specs.declared.program.Func.{Func}

pub params_start : (s : Scope) (ps : List (Kind × Bytes)) (gives : Bool) → start_of (with_params s ps) gives ≡ start_of s gives
params_start s [] gives = refl
params_start s (p ∷ ps) gives = params_start (with_param s p) ps gives

pub params_forced : (s : Scope) (ps : List (Kind × Bytes)) → (with_params s ps).forced ≡ s.forced
params_forced s [] = refl
params_forced s (p ∷ ps) = params_forced (with_param s p) ps

-- ---- where no force may stand

both_alike : {X : Type 0} (b : Bool) (x : X) → (if b then x else x) ≡ x
both_alike true x = refl
both_alike false x = refl

pub sees_the_same : (outside : Entries) (forced : Option Entries) (s : Statement) → forced ≡ None → outside_after outside forced s ≡ outside
sees_the_same outside forced s h = ap (λ (o : Option Entries). outside_after outside o s) h ∙ both_alike (is_force s) outside

pub still_unforced : (forced : Option Entries) (s : Statement) → forced ≡ None → forced_after forced s ≡ None
still_unforced forced s h = ap (λ (o : Option Entries). forced_after o s) h ∙ both_alike (is_force s) None

pub outside_stays : (outside : Entries) (ss : Statements) → outside_after_all outside None ss ≡ outside
outside_stays outside none = refl
outside_stays outside (more s ss) =
    ap₂ (λ (es : Entries) (o : Option Entries). outside_after_all es o ss) (sees_the_same outside None s refl) (still_unforced None s refl)
    ∙ outside_stays outside ss

pub forced_stays : (ss : Statements) → forced_after_all None ss ≡ None
forced_stays none = refl
forced_stays (more s ss) = ap (λ (o : Option Entries). forced_after_all o ss) (still_unforced None s refl) ∙ forced_stays ss

-- a body is entered as every block
pub begun_is_entered : (s : Scope) (ss : Statements) → s.forced ≡ None → begun s ss ≡ entered s ss
begun_is_entered s ss h = ap (λ (o : Option Entries). record (entered s ss) { forced = o }) h

pub body_stays : (s : Scope) (ss : Statements) (gives : Bool) → s.forced ≡ None → start_of (after_body s ss) gives ≡ start_of s gives
body_stays s ss gives h =
    let outside : outside_after_all s.outside s.forced ss ≡ s.outside =
    ap (λ (o : Option Entries). outside_after_all s.outside o ss) h ∙ outside_stays s.outside ss in
    let forced : forced_after_all s.forced ss ≡ s.forced = ap (λ (o : Option Entries). forced_after_all o ss) h ∙ forced_stays ss ∙ sym h in
    (λ i. record (start_of s gives) { outside = outside i; forced = forced i })

-- what a block in a block leaves, once a force may stand again
pub inner_left : (s t : Scope) (ss : Statements) (emptied forced : Option Entries) → emptied ≡ None → forced ≡ s.forced
    → t ≡ after_body (record s { forced = emptied }) ss → ◌≡◌ {A = Scope} (record t { forced = forced }) (after_block s ss)
inner_left s t ss emptied forced taken given h =
    let left = ap (λ (o : Option Entries). outside_after_all s.outside o ss) taken ∙ outside_stays s.outside ss in
    ap (λ (u : Scope). record u { forced = forced }) h ∙ (λ i. record (after_block s ss) { outside = left i; forced = given i })

-- ---- scopes without force and picks

pub plain_start : (s : Scope) (gives : Bool) → IsPlain s → start_of s gives ≡ scope_of s.outside s.xform gives
plain_start s gives h = (λ i. record (start_of s gives) { forced = h.0 i; picks = h.1 i })

pub plain_params : (s : Scope) (ps : List (Kind × Bytes)) → IsPlain s → IsPlain (with_params s ps)
plain_params s [] h = h
plain_params s (p ∷ ps) h = plain_params (with_param s p) ps h

pub plain_after : (s : Scope) (t : Statement) → IsPlain s → IsPlain (scope_after s t)
plain_after s t h = (still_unforced s.forced t h.0, h.1)

-- of a version's or a transformer's function
pub plain_body : (outside : Entries) (xform : Bool) (f : Func) → IsPlain (body_scope outside xform f)
plain_body outside xform f = plain_params (scope_of outside xform f.gives) f.params (refl, refl)

pub no_force : (s : Scope) → IsPlain s → MayForce s.forced → ⊥
no_force s h may = subst MayForce h.0 may

pub no_pick : (b : Block) (s : Scope) (x y : Statement) → IsPlain s → IsPick b s s.picks x y → ⊥
no_pick b s x y h may = subst (λ (o : Option Picks). IsPick b s o x y) h.1 may

-- a scope without force and picks in which these names are visible in the whole unit
pub record Sees (outside : Entries) (s : Scope) : Type 0 where
  pub here : s.outside ≡ outside
  pub plain : IsPlain s

pub sees_after : (outside : Entries) (s : Scope) (t : Statement) → Sees outside s → Sees outside (scope_after s t)
sees_after outside s t e = record {
  here = sees_the_same s.outside s.forced t e.plain.0 ∙ e.here;
  plain = (still_unforced s.forced t e.plain.0, e.plain.1);
}

pub sees_entered : (outside : Entries) (s : Scope) (ss : Statements) → Sees outside s → Sees outside (entered s ss)
sees_entered outside s ss e = record { here = e.here; plain = (refl, e.plain.1) }

pub sees_begun : (outside : Entries) (s : Scope) (ss : Statements) → Sees outside s → Sees outside (begun s ss)
sees_begun outside s ss e = record { here = e.here; plain = e.plain }

pub sees_after_block : (outside : Entries) (s : Scope) (ss : Statements) → Sees outside s → Sees outside (after_block s ss)
sees_after_block outside s ss e = record { here = e.here; plain = e.plain }

pub sees_params : (outside : Entries) (s : Scope) (ps : List (Kind × Bytes)) → Sees outside s → Sees outside (with_params s ps)
sees_params outside s [] e = e
sees_params outside s (p ∷ ps) e = sees_params outside (with_param s p) ps (record { here = e.here; plain = e.plain })

pub sees_outside : (outside : Entries) (xform gives : Bool) → Sees outside (scope_of outside xform gives)
sees_outside outside xform gives = record { here = refl; plain = (refl, refl) }
