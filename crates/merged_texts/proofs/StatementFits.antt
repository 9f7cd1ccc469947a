-- The statements of a merged program can be printed, and are read back without temporaries.
use Rattle.std.specs.Prelude.{◌≡◌, ◌≤◌, ◌&&◌, ℕ, pos, Bool, true, false, List, [], ◌∷◌, map, Option, Some, None, codes}
use Rattle.std.proofs.Common.{refl, subst, inl, inr, arith}
use Rattle.std.specs.List.{Contains}
use Rattle.c_lang.specs.Names.{Bytes}
use Rattle.c_lang.specs.Trees.{Expression, literal, variable, element, function, null, negation, logical_not, binary, Statement, Statements, skip, set, set_element, call, call_by, if_else, while_loop, break_loop, return_with, assert_that, input, output, point, choice, force, pick, none, more}
use Rattle.c_lang.specs.declared.unit.Pos.{Pos}
use Rattle.c_lang.specs.declared.stmt.Dest.{Dest}
use Rattle.c_lang.specs.declared.stmt.Dest.TheVariants.{Nowhere, Into, Fresh}
use Rattle.c_grammar.specs.Scopes.{Scope, is_declared, declare}
use Rattle.c_types.specs.Plain.{plain_expression, plain_statement, plain_statements}
use Rattle.version_names.specs.Provenance.{Provenance, may_update}
use Rattle.version_names.specs.declared.part.Origin.TheVariants as prefix
use Rattle.merged_program.specs.Expressions.{renamed_dest, renamed}
use Rattle.merged_program.specs.Names.{now_name, choice_name}
use Rattle.merged_program.specs.Statements.{swap, answered, asking, forcing, merged_statement, merged_statements}
use Rattle.merge_printer.proofs.ExpressionLaw.{IsLiteral, ExpressionFits}
use Rattle.merge_printer.proofs.SideLaw.{ExpressionsFit}
use Rattle.merge_printer.proofs.Fitting.{DestFits, TargetFits, StatementFits, StatementsFit, GoesAtOnce, declared_by, scope_behind, scope_behind_all, Keeps, KeepsAll}
use Rattle.merge_printer.proofs.ReadScopes.{declared_before, declared_now}
use Rattle.merge_printer.proofs.Words.{IsName}
use Rattle.written_laws.specs.Walk.{Context, with_dest, told, told_all, in_loop, in_pick, past, past_all, Throughout, ThroughoutAll}
use Rattle.written_laws.proofs.TypedLocals.{one_of}
use Rattle.merged_texts.proofs.NameFits.{now_fits, choice_fits, merged_fits}
use Rattle.merged_texts.proofs.SourceStatements.{IsSound, AreSound, ReturnsSound, IsHere, IsGood}
use Rattle.merged_texts.proofs.PlacedStatements.{still_told}

-- ---- what no source has

pub small : (n : ℕ) → n ≤ 1 → IsLiteral (pos n)
small n le = (n, refl, omega (arith, le))

pub tested : (x : Bytes) → IsName x → IsName x × IsLiteral (pos 0)
tested x h = (h, small 0 (omega arith))

swap_fits : (b : Bool) (p : Pos) → StatementsFit b (plain_statements (swap p))
swap_fits b p = ((now_fits, small 1 (omega arith)), ((tt, merged_fits prefix.Xform (codes "dsu_transform") refl, tt), tt))

answered_fits : (b : Bool) (p : Pos) → StatementFits b (plain_statement (answered p))
answered_fits b p = (tested choice_name choice_fits, swap_fits b p, tt)

asking_fits : (b : Bool) (p : Pos) (k : ℕ) → k ≤ 2147483647 → StatementFits b (plain_statement (asking p k))
asking_fits b p k le = (tested now_name now_fits, (((tt, choice_fits), le), (answered_fits b p, tt)), tt)

forcing_fits : (b : Bool) (p : Pos) → StatementFits b (plain_statement (forcing p))
forcing_fits b p = (tested now_name now_fits, swap_fits b p, tt)

-- ---- under other names

module _ (permits : ℕ → Bool) (ρ κ : Provenance → Bytes → Bytes) (o : Provenance)
    (variable_fits : (x : Bytes) → IsName x → IsName (ρ o x)) (function_fits : (f : Bytes) → IsName f → IsName (κ o f)) where
  abbrev read : Statement → Statement
  read s = plain_statement (merged_statement permits ρ κ o s)

  abbrev read_all : Statements → Statements
  read_all ss = plain_statements (merged_statements permits ρ κ o ss)

  expression_fits : (e : Expression) → IsSound e → ExpressionFits (plain_expression (renamed (ρ o) (κ o) e))
  expression_fits (literal z) h = h
  expression_fits (variable x) h = variable_fits x h
  expression_fits (element a i) h = (variable_fits a h.0, expression_fits i h.1)
  expression_fits (function f) h = function_fits f h
  expression_fits null h = h
  expression_fits (negation e) h = expression_fits e h
  expression_fits (logical_not e) h = expression_fits e h
  expression_fits (binary op a b) h = (expression_fits a h.0, expression_fits b h.1)

  expressions_fit : (es : List Expression) → AreSound es → ExpressionsFit (map plain_expression (map (renamed (ρ o) (κ o)) es))
  expressions_fit [] h = tt
  expressions_fit (e ∷ es) h = (expression_fits e h.0, expressions_fit es h.1)

  dest_fits : (d : Dest) → DestFits d → DestFits (renamed_dest (ρ o) d)
  dest_fits Nowhere h = tt
  dest_fits (Into x) h = variable_fits x h
  dest_fits (Fresh k x) h = (h.0, variable_fits x h.1)

  target_fits : (d : Dest) → TargetFits d → TargetFits (renamed_dest (ρ o) d)
  target_fits Nowhere h = absurd h
  target_fits (Into x) h = variable_fits x h
  target_fits (Fresh k x) h = (h.0, variable_fits x h.1)

  -- ---- what is declared

  -- the names are declared under their other names
  abbrev pub Covers : List Bytes → Scope → Type 0
  Covers names sc = (x : Bytes) → Contains names x → is_declared sc (ρ o x) ≡ true

  covers_more : (names : List Bytes) (sc : Scope) (y : Bytes) → Covers names sc → Covers names (declare sc y)
  covers_more names sc y h x there = declared_before sc y (ρ o x) (h x there)

  covers_one : (names : List Bytes) (sc : Scope) (y : Bytes) → Covers names sc → Covers (y ∷ names) (declare sc (ρ o y))
  covers_one names sc y h x there = elim (one_of y x names there) [
    | inl same ↦ subst (λ (z : Bytes). is_declared (declare sc (ρ o y)) (ρ o z) ≡ true) same (declared_now sc (ρ o y))
    | inr old ↦ covers_more names sc (ρ o y) h x old
  ]

  covers_dest : (names : List Bytes) (sc : Scope) (d : Dest) → Covers names sc → Covers (with_dest names d) (declared_by (renamed_dest (ρ o) d) sc)
  covers_dest names sc Nowhere h = h
  covers_dest names sc (Into x) h = h
  covers_dest names sc (Fresh k x) h = covers_one names sc x h

  at_once : (at : Context) (sc : Scope) (d : Dest) → Covers at.declared sc → IsHere at d → GoesAtOnce sc (renamed_dest (ρ o) d)
  at_once at sc Nowhere h k = tt
  at_once at sc (Into x) h k = h x k
  at_once at sc (Fresh kind x) h k = tt

  -- ---- statements

  pub record Reads (at : Context) (sc : Scope) (s : Statement) : Type 0 where
    pub fits : StatementFits at.in_loop (read s)
    pub keeps : Keeps sc (read s)
    pub covers : Covers (told at.declared s) (scope_behind (read s) sc)

  pub record AllRead (at : Context) (sc : Scope) (ss : Statements) : Type 0 where
    pub fits : StatementsFit at.in_loop (read_all ss)
    pub keeps : KeepsAll sc (read_all ss)
    pub covers : Covers (told_all at.declared ss) (scope_behind_all (read_all ss) sc)

  return_fits : (b : Bool) (p : Pos) (e : Option Expression) → ReturnsSound e → StatementFits b (read (return_with p e))
  return_fits b p None h = tt
  return_fits b p (Some e) h = expression_fits e h

  point_reads : (at : Context) (sc : Scope) (p : Pos) (k : ℕ) → k ≤ 2147483647 → Covers at.declared sc → Reads at sc (point p k)
  point_reads at sc p k le h = by_test (may_update o && permits k) refl
    where
      by_test : (b : Bool) → (may_update o && permits k) ≡ b → Reads at sc (point p k)
      by_test true is = record {
        fits = rw is (asking_fits at.in_loop p k le);
        keeps = rw is ((tt, (((tt, (tt, tt)), tt), tt)), tt);
        covers = rw is (covers_more at.declared sc choice_name h);
      }
      by_test false is = record { fits = rw is tt; keeps = rw is tt; covers = rw is h }

  mutual
    reads : (at : Context) (sc : Scope) (s : Statement) → Covers at.declared sc → Throughout IsGood at s → Reads at sc s
    reads at sc (skip p) h good = record { fits = tt; keeps = tt; covers = h }
    reads at sc (set p d e) h good = record { fits = (target_fits d good.0, expression_fits e good.1); keeps = tt; covers = covers_dest at.declared sc d h }
    reads at sc (set_element p a i e) h good = record { fits = (variable_fits a good.0, expression_fits i good.1, expression_fits e good.2); keeps = tt; covers = h }
    reads at sc (call p d f es) h good = record {
      fits = (dest_fits d good.0.0, function_fits f good.1, expressions_fit es good.2);
      keeps = at_once at sc d h good.0.1;
      covers = covers_dest at.declared sc d h;
    }
    reads at sc (call_by p d x es) h good = record {
      fits = (dest_fits d good.0.0, variable_fits x good.1, expressions_fit es good.2);
      keeps = at_once at sc d h good.0.1;
      covers = covers_dest at.declared sc d h;
    }
    reads at sc (if_else p e a b) h good =
        let first = all_read at sc a h good.1 in
        let second = all_read (past_all at a) (scope_behind_all (read_all a) sc) b first.covers good.2 in
        record { fits = (expression_fits e good.0, first.fits, second.fits); keeps = (first.keeps, second.keeps); covers = second.covers }
    reads at sc (while_loop p e a) h good =
        let body = all_read (in_loop at) sc a h good.1 in
        record { fits = (expression_fits e good.0, body.fits); keeps = body.keeps; covers = body.covers }
    reads at sc (break_loop p) h good = record { fits = good; keeps = tt; covers = h }
    reads at sc (return_with p e) h good = record { fits = return_fits at.in_loop p e good; keeps = tt; covers = h }
    reads at sc (assert_that p e) h good = record { fits = expression_fits e good; keeps = tt; covers = h }
    reads at sc (input p d) h good = record { fits = dest_fits d good.0; keeps = at_once at sc d h good.1; covers = covers_dest at.declared sc d h }
    reads at sc (output p e) h good = record { fits = expression_fits e good; keeps = tt; covers = h }
    reads at sc (point p k) h good = point_reads at sc p k good h
    reads at sc (choice p d k) h good = record { fits = (dest_fits d good.0.0, good.1); keeps = at_once at sc d h good.0.1; covers = covers_dest at.declared sc d h }
    reads at sc (force p) h good = record { fits = forcing_fits at.in_loop p; keeps = ((tt, (tt, tt)), tt); covers = h }
    reads at sc (pick p a b) h good =
        let first = reads (in_pick at) sc a h good.1 in
        let second = reads (in_pick at) (scope_behind (read a) sc) b (λ x there. first.covers x (still_told at.declared a x there)) good.2 in
        record {
          fits = (tested now_name now_fits, (first.fits, tt), (second.fits, tt));
          keeps = ((first.keeps, tt), (second.keeps, tt));
          covers = λ x there. second.covers x (still_told at.declared b x there);
        }

    pub all_read : (at : Context) (sc : Scope) (ss : Statements) → Covers at.declared sc → ThroughoutAll IsGood at ss → AllRead at sc ss
    all_read at sc none h good = record { fits = tt; keeps = tt; covers = h }
    all_read at sc (more s ss) h good =
        let first = reads at sc s h good.0 in
        let rest = all_read (past at s) (scope_behind (read s) sc) ss first.covers good.1 in
        record { fits = (first.fits, rest.fits); keeps = (first.keeps, rest.keeps); covers = rest.covers }
