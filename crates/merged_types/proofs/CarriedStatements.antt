-- Merged statements are typed and in resolved form where the code's own are.
use Rattle.std.proofs.Common.{◌≡◌, ℕ, Bool, true, false, ◌&&◌, Option, Some, None, refl, sym, ap, ◌∙◌, subst}
use Rattle.std.specs.Prelude.{if◌then◌else◌, unwrap_or}
use Rattle.c_lang.specs.Names.{Bytes}
use Rattle.c_lang.specs.Trees.{Statement, Statements, skip, set, set_element, call, call_by, if_else, while_loop, break_loop, return_with, assert_that, input, output, point, choice, force, pick, none, more}
use Rattle.c_lang.specs.declared.unit.Pos.{Pos}
use Rattle.c_lang.specs.declared.stmt.Dest.{Dest}
use Rattle.c_lang.specs.declared.stmt.Dest.TheVariants.{Nowhere}
use Rattle.c_lang.specs.declared.stmt.Kind.{Kind}
use Rattle.c_lang.specs.declared.stmt.Kind.TheVariants.{Int}
use Rattle.c_types.specs.Names.{Cell, Entries, found}
use Rattle.c_types.specs.Scopes.{Picks, Scope, Block, in_pick, names_of, with_dest}
use Rattle.c_types.specs.Calls.{place_in}
use Rattle.c_types.specs.Statements.{is_force, dest_of, with_locals, told_by, told_by_all, scope_after, block_in, begun, entered, after_block, outside_after, forced_after}
use Rattle.c_types.specs.Typing.{MayForce}
use Rattle.c_types.proofs.FunctionLaws.{sees_the_same, plain_after}
use Rattle.version_names.specs.Parts.{Parts}
use Rattle.version_names.specs.Provenance.{Provenance, may_update}
use Rattle.client_specs.specs.declared.region.Region.{Region}
use Rattle.client_specs.specs.declared.region.Region.TheVariants.{Behind, After, Before}
use Rattle.client_specs.specs.Spelled.{region_after, spelled_statement, spelled_statements}
use Rattle.merged_program.specs.Names.{now_name, choice_name}
use Rattle.merged_program.specs.Expressions.{renamed_dest}
use Rattle.merged_program.specs.Statements.{asking, merged_statement, merged_statements}
use Rattle.merged_types.proofs.EntryLaws.{renamed_entries, apart_found}
use Rattle.merged_types.proofs.Carrying.{expression_here}
use Rattle.merged_types.proofs.CarriedScopes.{IsNaming, HasUpdate, Renaming, IsAt, SeesBehind, SeesPicks, IsSeen, AreTold, IsCarried, dest_carried, block_carried, locals_dest, cells_dest, told_dest, told_choice}
use Rattle.merged_types.proofs.CarriedCalls.{expression, array, place, call_carried, call_by_carried, return_carried, answer_carried, from_picked, in_each_block, still_ahead}
use Rattle.resolved_types.proofs.ResolvedTyping.{IsResolved, IsResolvedPicked, IsResolvedPick, picked_has, IsResolvedStatement, AreResolved}
use Rattle.merged_types.proofs.AskingTyped.{set_test, outside_means, asking_resolved, forcing_resolved}

may_force : (b : Block) (s : Scope) (x : Statement) → IsResolvedStatement b s x → is_force x ≡ true → MayForce s.forced
may_force b s (force p) h e = h
may_force b s _ h e = absurd cc

module _ (permits : ℕ → Bool) (ρs κs : Provenance → Bytes → Bytes) (o : Provenance) (naming : IsNaming (ρs o)) (parts : Parts) where
  abbrev pub R : Renaming
  R = record { variables = ρs o; functions = κs o; naming = naming; parts = parts }

  abbrev merged : Region → Statement → Statement
  merged r x = merged_statement permits ρs κs o (spelled_statement parts r x)

  abbrev pub all_merged : Region → Statements → Statements
  all_merged r xs = merged_statements permits ρs κs o (spelled_statements parts r xs)

  dest_merged : (r : Region) (x : Statement) → dest_of (merged r x) ≡ renamed_dest (ρs o) (dest_of x)
  dest_merged r (skip p) = refl
  dest_merged r (set p d e) = refl
  dest_merged r (set_element p a i e) = refl
  dest_merged r (call p d f es) = refl
  dest_merged r (call_by p d f es) = refl
  dest_merged r (if_else p e xs ys) = refl
  dest_merged r (while_loop p e xs) = refl
  dest_merged r (break_loop p) = refl
  dest_merged r (return_with p e) = refl
  dest_merged r (assert_that p e) = refl
  dest_merged r (input p d) = refl
  dest_merged r (output p e) = refl
  dest_merged r (point p k) = by_test (may_update o && permits k)
    where
      by_test : (b : Bool) → dest_of (if b then asking p k else skip p) ≡ Nowhere
      by_test true = refl
      by_test false = refl
  dest_merged r (choice p d k) = refl
  dest_merged r (force p) = refl
  dest_merged r (pick p a b) = refl

  locals_merged : (r : Region) (es : Entries) (xs : Statements) → with_locals (renamed_entries (ρs o) es) (all_merged r xs) ≡ renamed_entries (ρs o) (with_locals es xs)
  locals_merged r es none = refl
  locals_merged r es (more x xs) =
      ap (λ (d : Dest). with_locals (with_dest (renamed_entries (ρs o) es) d) (all_merged (region_after r x) xs)) (dest_merged r x)
      ∙ ap (λ (fs : Entries). with_locals fs (all_merged (region_after r x) xs)) (locals_dest R es (dest_of x))
      ∙ locals_merged (region_after r x) (with_dest es (dest_of x)) xs

  -- ---- locals of blocks that have ended

  told_after_dest : (r : Region) (s t : Entries) (x : Statement) → AreTold R s t → AreTold R (with_dest s (dest_of x)) (with_dest t (dest_of (merged r x)))
  told_after_dest r s t x h =
      subst (λ (d : Dest). AreTold R (with_dest s (dest_of x)) (with_dest t d)) (sym (dest_merged r x)) (told_dest R s t (dest_of x) h)

  told_locals : (r : Region) (s t : Entries) (xs : Statements) → AreTold R s t → AreTold R (with_locals s xs) (with_locals t (all_merged r xs))
  told_locals r s t none h = h
  told_locals r s t (more x xs) h =
      told_locals (region_after r x) (with_dest s (dest_of x)) (with_dest t (dest_of (merged r x))) xs (told_after_dest r s t x h)

  -- the block of a pick's call
  abbrev alone : Region → Statement → Statements
  alone r x = more (merged r x) none

  told_alone : (r : Region) (told : Entries) (b : Block) (s : Scope) (outside : Entries) (x : Statement) → IsResolvedPicked b s outside x
      → with_locals (told_by_all told (alone r x)) (alone r x) ≡ told
  told_alone r told = picked_has (λ (x : Statement). with_locals (told_by_all told (alone r x)) (alone r x) ≡ told) (λ p f es. refl) (λ p y f es. refl)

  told_pick : (b : Block) (u : Scope) (s t : Entries) (r : Region) (p : Pos) (picks : Option Picks) (x y : Statement) → IsResolvedPick b u picks x y → AreTold R s t
      → AreTold R s (told_by t (merged r (pick p x y)))
  told_pick b u s t r p None x y h told = absurd h
  told_pick b u s t r p (Some names) x y h told =
      subst (AreTold R s)
      (sym (told_alone Before (with_locals (told_by_all t (alone After x)) (alone After x)) b u names.before y h.1 ∙ told_alone After t b u names.after x h.0)) told

  mutual
    told_statement : (r : Region) (b : Block) (u : Scope) (s t : Entries) (x : Statement) → IsResolvedStatement b u x → AreTold R s t
        → AreTold R (told_by s x) (told_by t (merged r x))
    told_statement r b u s t (skip p) h told = told
    told_statement r b u s t (set p d e) h told = told
    told_statement r b u s t (set_element p a i e) h told = told
    told_statement r b u s t (call p d f es) h told = told
    told_statement r b u s t (call_by p d f es) h told = told
    told_statement r b u s t (if_else p e xs ys) h told =
        let s' = with_locals (told_by_all s xs) xs in
        let t' = with_locals (told_by_all t (all_merged r xs)) (all_merged r xs) in
        let first = told_locals r (told_by_all s xs) (told_by_all t (all_merged r xs)) xs (told_all r (block_in u) (entered u xs) s t xs h.1 told) in
        told_locals r (told_by_all s' ys) (told_by_all t' (all_merged r ys)) ys (told_all r (block_in u) (entered (after_block u xs) ys) s' t' ys h.2 first)
    told_statement r b u s t (while_loop p e xs) h told =
        told_locals r (told_by_all s xs) (told_by_all t (all_merged r xs)) xs (told_all r (block_in u) (entered u xs) s t xs h.1 told)
    told_statement r b u s t (break_loop p) h told = told
    told_statement r b u s t (return_with p e) h told = told
    told_statement r b u s t (assert_that p e) h told = told
    told_statement r b u s t (input p d) h told = told
    told_statement r b u s t (output p e) h told = told
    told_statement r b u s t (point p k) h told = by_test (may_update o && permits k)
      where
        by_test : (y : Bool) → AreTold R s (told_by t (if y then asking p k else skip p))
        by_test true = told_choice R s t told
        by_test false = told
    told_statement r b u s t (choice p d k) h told = told
    told_statement r b u s t (force p) h told = told
    told_statement r b u s t (pick p x y) h told = told_pick b u s t r p u.picks x y h told

    told_all : (r : Region) (b : Block) (u : Scope) (s t : Entries) (xs : Statements) → AreResolved b u xs → AreTold R s t
        → AreTold R (told_by_all s xs) (told_by_all t (all_merged r xs))
    told_all r b u s t none h told = told
    told_all r b u s t (more x xs) h told =
        told_all (region_after r x) b (scope_after u x) (told_by s x) (told_by t (merged r x)) xs h.1 (told_statement r b u s t x h.0 told)

  told_block : (r : Region) (b : Block) (u : Scope) (s t : Entries) (xs : Statements) → AreResolved b u xs → AreTold R s t
      → AreTold R (with_locals (told_by_all s xs) xs) (with_locals (told_by_all t (all_merged r xs)) (all_merged r xs))
  told_block r b u s t xs h told = told_locals r (told_by_all s xs) (told_by_all t (all_merged r xs)) xs (told_all r b u s t xs h told)

  -- ---- scopes that correspond

  behind_here : (here : Entries) (forced : Option Entries) (t : Entries) → MayForce forced → SeesBehind R forced t → IsAt R Behind (unwrap_or forced here) t
  behind_here here None t may h = absurd may
  behind_here here (Some s) t may h = h

  module _ (r : Region) (s t : Scope) (c : IsCarried R r s t) where
    seen_after : (y : Bool) → (y ≡ true → MayForce s.forced)
        → IsSeen R (if y then Behind else r) (if y then unwrap_or s.forced s.outside else s.outside) (if y then None else s.forced) s.picks t.outside
    seen_after false may = c.seen
    seen_after true may = record { here = behind_here s.outside s.forced t.outside (may refl) c.seen.behind; behind = tt; picks = c.seen.picks }

    after_carried : (b : Block) (x : Statement) → IsResolvedStatement b s x → IsCarried R (region_after r x) (scope_after s x) (scope_after t (merged r x))
    after_carried b x h = record {
      seen =
          subst (λ (es : Entries). IsSeen R (region_after r x) (outside_after s.outside s.forced x) (forced_after s.forced x) s.picks es)
          (sym (sees_the_same t.outside t.forced (merged r x) c.plain.0)) (seen_after (is_force x) (may_force b s x h));
      plain = plain_after t (merged r x) c.plain;
      locals =
          ap (λ (d : Dest). with_dest t.locals d) (dest_merged r x)
          ∙ ap (λ (es : Entries). with_dest es (renamed_dest (ρs o) (dest_of x))) c.locals
          ∙ locals_dest R s.locals (dest_of x);
      cells = cells_dest R s.locals (dest_of x) c.cells;
      told = told_statement r b s s.told t.told x h c.told;
      ahead = c.ahead;
      gives = c.gives;
      code = c.code;
    }

    begun_carried : (xs : Statements) → IsCarried R r (begun s xs) (begun t (all_merged r xs))
    begun_carried xs = record {
      seen = c.seen;
      plain = c.plain;
      locals = c.locals;
      cells = c.cells;
      told = c.told;
      ahead = ap (λ (es : Entries). with_locals es (all_merged r xs)) c.ahead ∙ locals_merged r s.ahead xs;
      gives = c.gives;
      code = c.code;
    }

    entered_carried : (xs : Statements) → IsCarried R r (entered s xs) (entered t (all_merged r xs))
    entered_carried xs = record {
      seen = record { here = c.seen.here; behind = tt; picks = c.seen.picks };
      plain = (refl, c.plain.1);
      locals = c.locals;
      cells = c.cells;
      told = c.told;
      ahead = (begun_carried xs).ahead;
      gives = c.gives;
      code = c.code;
    }

    after_block_carried : (b : Block) (u : Scope) (xs : Statements) → AreResolved b u xs → IsCarried R r (after_block s xs) (after_block t (all_merged r xs))
    after_block_carried b u xs h = record {
      seen = c.seen;
      plain = c.plain;
      locals = c.locals;
      cells = c.cells;
      told = told_block r b u s.told t.told xs h c.told;
      ahead = c.ahead;
      gives = c.gives;
      code = c.code;
    }

    asked : HasUpdate t.outside → (b : Block) (p : Pos) (k : ℕ) → IsResolvedStatement b t (asking p k)
    asked u b p k =
        let apart : (es : Entries) → found (renamed_entries (ρs o) es) choice_name ≡ None = λ es. apart_found (ρs o) es choice_name naming.choice in
        asking_resolved t u (ap (λ (es : Entries). found es choice_name) c.locals ∙ apart s.locals) c.told.choice
        (ap (λ (es : Entries). found es choice_name) c.ahead ∙ apart s.ahead) c.code p k b

    -- ---- picks

    -- one call, in a block of its own
    alone_carried : (q : Region) (outside : Entries) → IsAt R q outside t.outside → (b : Block) (x : Statement) → IsResolvedPicked b s outside x
        → AreResolved (block_in t) (entered t (alone q x)) (alone q x)
    alone_carried q outside at b (call p d f es) h =
        let inside = in_pick s outside in
        let here : IsCarried R q inside (entered t (alone q (call p d f es))) = record {
          seen = record { here = at; behind = c.seen.behind; picks = tt };
          plain = (refl, c.plain.1);
          locals = c.locals;
          cells = c.cells;
          told = c.told;
          ahead = still_ahead t.ahead d (ρs o) h.0 ∙ c.ahead;
          gives = c.gives;
          code = c.code;
        } in
        let t' = entered t (alone q (call p d f es)) in (
          (
            in_each_block b (block_in t) t' d (ρs o) h.0 (dest_carried R q inside t' here b d h.1),
            call_carried R q inside t' here b d f es h.1 (from_picked inside (names_of inside f) d es h.2),
          ),
          tt,
        )
    alone_carried q outside at b _ h = absurd h

    past_alone : (q : Region) (outside : Entries) (b : Block) (x : Statement) → IsResolvedPicked b s outside x → IsCarried R r s (after_block t (alone q x))
    past_alone q outside b x h = record {
      seen = c.seen;
      plain = c.plain;
      locals = c.locals;
      cells = c.cells;
      told = subst (AreTold R s.told) (sym (told_alone q t.told b s outside x h)) c.told;
      ahead = c.ahead;
      gives = c.gives;
      code = c.code;
    }

  pick_carried : (r : Region) (b : Block) (s t : Scope) → IsCarried R r s t → HasUpdate t.outside → (p : Pos) (picks : Option Picks) → SeesPicks R picks t.outside
      → (x y : Statement) → IsResolvedPick b s picks x y → IsResolvedStatement b t (merged r (pick p x y))
  pick_carried r b s t c u p None seen x y h = absurd h
  pick_carried r b s t c u p (Some names) seen x y h = (
    set_test (names_of t) now_name (outside_means t now_name (Cell Int) u.now),
    alone_carried r s t c After names.after seen.0 b x h.0,
    alone_carried r s (after_block t (alone After x)) (past_alone r s t c After names.after b x h.0) Before names.before seen.1 b y h.1,
  )

  -- ---- the law

  at_block : (r : Region) (s t w : Scope) → IsCarried R r s t → (ys : Statements) → AreResolved (block_in s) w ys → AreResolved (block_in t) w ys
  at_block r s t w c ys h = subst (λ (q : Block). AreResolved q w ys) (sym (block_carried R r s t c)) h

  mutual
    statement_carried : (r : Region) (b : Block) (s t : Scope) → IsCarried R r s t → HasUpdate t.outside → (x : Statement) → IsResolvedStatement b s x
        → IsResolvedStatement b t (merged r x)
    statement_carried r b s t c u (skip p) h = tt
    statement_carried r b s t c u (set p d e) h = (
      dest_carried R r s t c b d h.0,
      subst (λ (k : Kind). IsResolved (names_of t) k (expression_here (ρs o) (κs o) parts r e)) (sym (place R r s t c b d e h.0 h.1))
          (expression R r s t c (place_in s d e) e h.1),
    )
    statement_carried r b s t c u (set_element p a i e) h =
        (array R r s t c a h.0, expression R r s t c Int i h.1, expression R r s t c Int e h.2)
    statement_carried r b s t c u (call p d f es) h =
        (dest_carried R r s t c b d h.0, call_carried R r s t c b d f es h.0 h.1)
    statement_carried r b s t c u (call_by p d x es) h =
        (dest_carried R r s t c b d h.0, call_by_carried R r s t c b d x es h.0 h.1)
    statement_carried r b s t c u (if_else p e xs ys) h =
        let second = after_block_carried r s t c (block_in s) (entered s xs) xs h.1 in
        let t' = entered (after_block t (all_merged r xs)) (all_merged r ys) in (
          expression R r s t c Int e h.0,
          at_block r s t (entered t (all_merged r xs)) c (all_merged r xs)
              (list_carried r (block_in s) (entered s xs) (entered t (all_merged r xs)) (entered_carried r s t c xs) u xs h.1),
          at_block r s t t' c (all_merged r ys)
              (list_carried r (block_in s) (entered (after_block s xs) ys) t' (entered_carried r (after_block s xs) (after_block t (all_merged r xs)) second ys) u ys h.2),
        )
    statement_carried r b s t c u (while_loop p e xs) h = (
      expression R r s t c Int e h.0,
      at_block r s t (entered t (all_merged r xs)) c (all_merged r xs)
          (list_carried r (block_in s) (entered s xs) (entered t (all_merged r xs)) (entered_carried r s t c xs) u xs h.1),
    )
    statement_carried r b s t c u (break_loop p) h = tt
    statement_carried r b s t c u (return_with p e) h = return_carried R r s t c e h
    statement_carried r b s t c u (assert_that p e) h = expression R r s t c Int e h
    statement_carried r b s t c u (input p d) h = answer_carried R r s t c b d h
    statement_carried r b s t c u (output p e) h = (c.code, expression R r s t c Int e h.1)
    statement_carried r b s t c u (point p k) h = by_test (may_update o && permits k)
      where
        by_test : (y : Bool) → IsResolvedStatement b t (if y then asking p k else skip p)
        by_test true = asked r s t c u b p k
        by_test false = tt
    statement_carried r b s t c u (choice p d k) h = answer_carried R r s t c b d h
    statement_carried r b s t c u (force p) h = forcing_resolved b t p u
    statement_carried r b s t c u (pick p x y) h = pick_carried r b s t c u p s.picks c.seen.picks x y h

    list_carried : (r : Region) (b : Block) (s t : Scope) → IsCarried R r s t → HasUpdate t.outside → (xs : Statements) → AreResolved b s xs
        → AreResolved b t (all_merged r xs)
    list_carried r b s t c u none h = tt
    list_carried r b s t c u (more x xs) h = (
      statement_carried r b s t c u x h.0,
      list_carried (region_after r x) b (scope_after s x) (scope_after t (merged r x)) (after_carried r s t c b x h.0)
          (subst HasUpdate (sym (sees_the_same t.outside t.forced (merged r x) c.plain.0)) u) xs h.1,
    )

  -- a body that begins here
  pub body_carried : (r : Region) (s t : Scope) → IsCarried R r s t → HasUpdate t.outside → (xs : Statements) → AreResolved (block_in s) (begun s xs) xs
      → AreResolved (block_in t) (begun t (all_merged r xs)) (all_merged r xs)
  body_carried r s t c u xs h =
      at_block r s t (begun t (all_merged r xs)) c (all_merged r xs)
      (list_carried r (block_in s) (begun s xs) (begun t (all_merged r xs)) (begun_carried r s t c xs) u xs h)
