-- A client's resolved form has the points of the client as it is written.
use Rattle.std.proofs.Common.{◌≡◌, List, [], ◌∷◌, ◌++◌, Option, Some, None, refl, sym, ap, ap₂, ◌∙◌}
use Rattle.std.specs.List.{flat_map}
use Rattle.c_lang.specs.Names.{Bytes}
use Rattle.c_lang.specs.Trees.{Statement, Statements, skip, set, set_element, call, call_by, if_else, while_loop, break_loop, return_with, assert_that, input, output, point, choice, force, pick, none, more}
use Rattle.c_lang.specs.declared.program.Func.{Func}
use Rattle.c_lang.specs.declared.program.Program.{Program}
use Rattle.c_lang.proofs.TreeLemmas.{statements_back}
use Rattle.c_types.specs.Bodies.{body_of}
use Rattle.c_types.specs.Functions.{resolved_from}
use Rattle.c_types.specs.Names.{Entries}
use Rattle.c_types.specs.Plain.{PlainFunc, plain_statement, plain_statements}
use Rattle.c_types.specs.Programs.{with_func}
use Rattle.c_types.specs.Types.{IsTypedFrom}
use Rattle.c_types.proofs.PlainLaws.{plain_from_resolved}
use Rattle.version_names.specs.Parts.{Parts, part_of}
use Rattle.update_points.specs.Points.{points_at, points_in, points_of, points_of_func}
use Rattle.update_points.specs.declared.gathering.PointAt.{PointAt}
use Rattle.client_specs.specs.Clients.{AreOwnFuncs, IsClient}
use Rattle.client_specs.specs.Refusals.{resolved_client, resolved_own}
use Rattle.client_specs.specs.Spelled.{region_after, spelled_statement, spelled_statements, spelled_func}
use Rattle.client_specs.specs.Starts.{start}
use Rattle.client_specs.specs.declared.region.Region.{Region}
use Rattle.client_specs.specs.declared.region.Region.TheVariants.{Here, After, Before}

abbrev both : List PointAt → List PointAt → List PointAt
both xs ys = xs ++ ys

-- ---- without what resolution adds

mutual
  plain_at : (s : Statement) → points_at (plain_statement s) ≡ points_at s
  plain_at (skip p) = refl
  plain_at (set p d e) = refl
  plain_at (set_element p a i e) = refl
  plain_at (call p d f es) = refl
  plain_at (call_by p d x es) = refl
  plain_at (if_else p e xs ys) = ap₂ both (plain_in xs) (plain_in ys)
  plain_at (while_loop p e xs) = plain_in xs
  plain_at (break_loop p) = refl
  plain_at (return_with p e) = refl
  plain_at (assert_that p e) = refl
  plain_at (input p d) = refl
  plain_at (output p e) = refl
  plain_at (point p k) = refl
  plain_at (choice p d k) = refl
  plain_at (force p) = refl
  plain_at (pick p a b) = ap₂ both (plain_at a) (plain_at b)

  plain_in : (ss : Statements) → points_in (plain_statements ss) ≡ points_in ss
  plain_in none = refl
  plain_in (more s ss) = ap₂ both (plain_at s) (plain_in ss)

-- ---- with spelled names

module _ (parts : Parts) where
  mutual
    spelled_at : (region : Region) (s : Statement) → points_at (spelled_statement parts region s) ≡ points_at s
    spelled_at region (skip p) = refl
    spelled_at region (set p d e) = refl
    spelled_at region (set_element p a i e) = refl
    spelled_at region (call p d f es) = refl
    spelled_at region (call_by p d x es) = refl
    spelled_at region (if_else p e xs ys) = ap₂ both (spelled_in region xs) (spelled_in region ys)
    spelled_at region (while_loop p e xs) = spelled_in region xs
    spelled_at region (break_loop p) = refl
    spelled_at region (return_with p e) = refl
    spelled_at region (assert_that p e) = refl
    spelled_at region (input p d) = refl
    spelled_at region (output p e) = refl
    spelled_at region (point p k) = refl
    spelled_at region (choice p d k) = refl
    spelled_at region (force p) = refl
    spelled_at region (pick p a b) = ap₂ both (spelled_at After a) (spelled_at Before b)

    spelled_in : (region : Region) (ss : Statements) → points_in (spelled_statements parts region ss) ≡ points_in ss
    spelled_in region none = refl
    spelled_in region (more s ss) = ap₂ both (spelled_at region s) (spelled_in (region_after region s) ss)

  spelled_points : (f : Func) → points_of_func (spelled_func parts f) ≡ points_of_func f
  spelled_points f = ap points_in (statements_back (spelled_statements parts Here (body_of f.body))) ∙ spelled_in Here (body_of f.body)

  module _ (first second p : Program) (spec : Bytes) where
    own_points : (f : Func) → IsTypedFrom (start parts first second p spec f) f
        → points_of_func (spelled_func parts (resolved_from (start parts first second p spec f) f)) ≡ points_of_func f
    own_points f h =
        let r = resolved_from (start parts first second p spec f) f in
        spelled_points r ∙ sym (plain_in (body_of r.body))
        ∙ ap (λ (q : PlainFunc). points_in q.body) (plain_from_resolved (start parts first second p spec f) f h) ∙ plain_in (body_of f.body)

    all_points : (seen : Entries) (fs : List Func) → AreOwnFuncs parts first second p spec seen fs
        → flat_map points_of_func (resolved_own parts first second p spec fs) ≡ flat_map points_of_func fs
    all_points seen [] h = refl
    all_points seen (f ∷ fs) h = ap₂ both (own_points f h.1) (all_points (with_func seen f) fs h.2)

pub same_points : (first second p : Program) (spec : Bytes) → IsClient first second spec p
    → points_of (resolved_client (part_of first second) first second p spec) ≡ points_of p
same_points first second p spec h = all_points (part_of first second) first second p spec [] p.funcs h.funcs
