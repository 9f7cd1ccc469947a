-- What a walk has still to make.
use Rattle.std.specs.Prelude.{⊤, ℕ, ◌≤◌, List, [], ◌∷◌, ◌++◌, map, reverse}
use Rattle.weakest_preconditions.specs.Wp.{Condition}
use Rattle.loop_invariants.specs.Context.{Context}
use Rattle.annotated_bodies.specs.Seen.{seen_annotated}
use Rattle.symbolic_state.specs.declared.step.Step.{Step}
use Rattle.symbolic_state.specs.Steps.{finished, outermost}
use Rattle.wp_conditions.specs.declared.edge.Edge as code_edge
use Rattle.wp_conditions.specs.declared.edge.Edge.TheVariants as variant
use Rattle.wp_conditions.specs.declared.edge.Waiting as code_waiting
use Rattle.wp_conditions.specs.Code.Edges.{Edge, straight, behind, holds, fails, reached, edge_steps}

-- an edge that is to be followed to the node with a number, where so many steps stand round it
pub record Waiting : Type 0 where
  pub mark : ℕ
  pub edge : Edge
  pub number : ℕ

-- What is made along these, one after the other. Each goes on from the first steps that stood round the one before,
-- as many as it says.
abbrev pub left : Context → (next : ℕ → List Condition) → List Step → List Waiting → List Condition
left c next steps [] = []
left c next steps (w ∷ ws) = map (finished (edge_steps c w.edge (outermost w.mark steps))) (next w.number) ++ left c next (outermost w.mark steps) ws

-- each has no more steps than the one before
abbrev pub Stacked : ℕ → List Waiting → Type 0
Stacked n [] = ⊤
Stacked n (w ∷ ws) = (w.mark ≤ n) × Stacked w.mark ws

abbrev pub at_mark : ℕ → List (Edge × ℕ) → List Waiting
at_mark m es = map (λ e. record { mark = m; edge = e.0; number = e.1 }) es

-- ---- those of the code, the last one first

abbrev pub seen_edge : code_edge.Edge → Edge
seen_edge variant.Straight = straight
seen_edge (variant.Behind t) = behind (seen_annotated t.now)
seen_edge (variant.Holds t) = holds (seen_annotated t.now)
seen_edge (variant.Fails t) = fails (seen_annotated t.now)
seen_edge (variant.Reached t f) = reached (seen_annotated t.now) f.now.name

abbrev pub seen_waiting : code_waiting.Waiting → Waiting
seen_waiting w = record { mark = w.mark; edge = seen_edge w.edge; number = w.number }

abbrev pub seen_stack : List code_waiting.Waiting → List Waiting
seen_stack ws = reverse (map seen_waiting ws)
