-- What stands round a condition behind an edge has what stood round it before as its outermost part.
use Rattle.std.proofs.Common.{◌≡◌, ℕ, ◌≤◌, List, [], ◌∷◌, ◌++◌, length, map, refl, ◌∙◌, arith}
use Rattle.c_lang.specs.Names.{Bytes}
use Rattle.terms.specs.declared.sym.Sym.{Sym}
use Rattle.terms.specs.declared.fact.Fact.{Fact}
use Rattle.terms.specs.Trees.{TermTree}
use Rattle.terms.specs.Replacing.{replaced_fact}
use Rattle.expression_conditions.specs.Meanings.{val}
use Rattle.weakest_preconditions.specs.Changing.{change, renewing, returning}
use Rattle.weakest_preconditions.specs.Wp.{is_function, cells_of}
use Rattle.symbolic_state.specs.declared.step.Step.{Step}
use Rattle.symbolic_state.specs.declared.step.Step.TheVariants as stepped
use Rattle.symbolic_state.specs.Steps.{assumed, outermost}
use Rattle.symbolic_state.proofs.ValueLaws.{outer_less, outer_more}
use Rattle.loop_invariants.specs.Context.{Context}
use Rattle.weakest_preconditions.specs.Annotated.{Annotated, aside, set, set_element, call, call_by, if_else, while_loop, break_loop, return_with, assert_that, input, output, choice}
use Rattle.wp_conditions.specs.Code.Edges.{Edge, straight, behind, holds, fails, reached, call_steps, given_step, edge_steps}

-- `longer` is `steps` with more steps in it
pub record Extends (steps longer : List Step) : Type 0 where
  pub longer_is : length steps ≤ length longer
  pub outer : (n : ℕ) → n ≤ length steps → outermost n longer ≡ outermost n steps

pub itself : (steps : List Step) → Extends steps steps
itself steps = record { longer_is = omega arith; outer = λ n within. refl }

one_more : (s : Step) (steps longer : List Step) → Extends steps longer → Extends steps (s ∷ longer)
one_more s steps longer e = record {
  longer_is = let before : length steps ≤ length longer = e.longer_is in omega (arith, before);
  outer = λ n within. let before : length steps ≤ length longer = e.longer_is in
      outer_less n s longer (omega (arith, before, within)) ∙ e.outer n within;
}

all_more : (fs : List Fact) (steps longer : List Step) → Extends steps longer → Extends steps (assumed fs longer)
all_more [] steps longer e = e
all_more (f ∷ fs) steps longer e = all_more fs steps (stepped.Assumes f ∷ longer) (one_more (stepped.Assumes f) steps longer e)

one : (s : Step) (steps : List Step) → Extends steps (s ∷ steps)
one s steps = one_more s steps steps (itself steps)

pub turned : (invariants : List Fact) (s : Step) (steps : List Step) → Extends steps (assumed invariants (s ∷ steps))
turned invariants s steps = all_more invariants steps (s ∷ steps) (one s steps)

called : (c : Context) (f : Bytes) (args : List TermTree) (result cells : List Sym) (steps longer : List Step) → Extends steps longer
    → Extends steps (call_steps c f args result cells longer)
called c f args result cells steps longer e =
    let promises : List Fact = map (replaced_fact (change (returning c.globals args result cells))) (c.promises f) in
    one_more (stepped.Replaces (renewing (result ++ cells))) steps (assumed promises longer) (all_more promises steps longer e)

tested : (invariants : List Fact) (s t : Step) (steps : List Step) → Extends steps (t ∷ assumed invariants (s ∷ steps))
tested invariants s t steps = one_more t steps (assumed invariants (s ∷ steps)) (turned invariants s steps)

module _ (c : Context) (steps : List Step) where
  behind_more : (t : Annotated) → Extends steps (edge_steps c (behind t) steps)
  behind_more (set p d e) = one _ steps
  behind_more (set_element p a i e) = one _ steps
  behind_more (assert_that p e) = one _ steps
  behind_more (input p d fresh) = one _ steps
  behind_more (choice p d k fresh) = one _ steps
  behind_more (call p d f es result cells) = called c f (map (val c.numbers) es) result cells steps steps (itself steps)
  behind_more (aside s) = itself steps
  behind_more (call_by p d x es result cells) = itself steps
  behind_more (if_else p e a b) = itself steps
  behind_more (while_loop p e a invariants fresh) = itself steps
  behind_more (break_loop p) = itself steps
  behind_more (return_with p e) = itself steps
  behind_more (output p e) = itself steps

  holds_more : (t : Annotated) → Extends steps (edge_steps c (holds t) steps)
  holds_more (if_else p e a b) = one _ steps
  holds_more (while_loop p e a invariants fresh) = tested invariants _ _ steps
  holds_more (set p d e) = itself steps
  holds_more (set_element p a i e) = itself steps
  holds_more (assert_that p e) = itself steps
  holds_more (input p d fresh) = itself steps
  holds_more (choice p d k fresh) = itself steps
  holds_more (call p d f es result cells) = itself steps
  holds_more (aside s) = itself steps
  holds_more (call_by p d x es result cells) = itself steps
  holds_more (break_loop p) = itself steps
  holds_more (return_with p e) = itself steps
  holds_more (output p e) = itself steps

  fails_more : (t : Annotated) → Extends steps (edge_steps c (fails t) steps)
  fails_more (if_else p e a b) = one _ steps
  fails_more (while_loop p e a invariants fresh) = tested invariants _ _ steps
  fails_more (set p d e) = itself steps
  fails_more (set_element p a i e) = itself steps
  fails_more (assert_that p e) = itself steps
  fails_more (input p d fresh) = itself steps
  fails_more (choice p d k fresh) = itself steps
  fails_more (call p d f es result cells) = itself steps
  fails_more (aside s) = itself steps
  fails_more (call_by p d x es result cells) = itself steps
  fails_more (break_loop p) = itself steps
  fails_more (return_with p e) = itself steps
  fails_more (output p e) = itself steps

  reached_more : (t : Annotated) (f : _) → Extends steps (edge_steps c (reached t f) steps)
  reached_more (call_by p d x es result cells) f =
      let given : List Step = given_step (is_function c x f) steps in
      called c f (map (val c.numbers) es) result (cells_of c f cells) steps given (one _ steps)
  reached_more (set p d e) f = itself steps
  reached_more (set_element p a i e) f = itself steps
  reached_more (assert_that p e) f = itself steps
  reached_more (input p d fresh) f = itself steps
  reached_more (choice p d k fresh) f = itself steps
  reached_more (call p d g es result cells) f = itself steps
  reached_more (aside s) f = itself steps
  reached_more (if_else p e a b) f = itself steps
  reached_more (while_loop p e a invariants fresh) f = itself steps
  reached_more (break_loop p) f = itself steps
  reached_more (return_with p e) f = itself steps
  reached_more (output p e) f = itself steps

  pub edge_more : (e : Edge) → Extends steps (edge_steps c e steps)
  edge_more straight = itself steps
  edge_more (behind t) = behind_more t
  edge_more (holds t) = holds_more t
  edge_more (fails t) = fails_more t
  edge_more (reached t f) = reached_more t f

-- what is taken back to its old length is as it was
pub taken_back : (steps longer : List Step) → Extends steps longer → outermost (length steps) longer ≡ steps
taken_back steps longer e = e.outer (length steps) (omega arith) ∙ outer_more (length steps) steps (omega arith)
