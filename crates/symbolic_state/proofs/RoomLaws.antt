-- Facts that are made within a room.
use Rattle.std.proofs.Common.{◌≡◌, ℕ, zero, suc, ◌+◌, ◌-◌, ◌<◌, ◌≤◌, Bool, true, false, List, [], ◌∷◌, ◌++◌, map, reverse, length, take, drop, slice_index_or, Bor, refl, sym, ap, ◌∙◌, arith, append_assoc, append-nil}
use Rattle.terms.specs.declared.node.Node.{Node}
use Rattle.terms.specs.declared.node.NodeKind.{NodeKind}
use Rattle.terms.specs.declared.node.NodeKind.TheVariants as kind
use Rattle.terms.specs.declared.fact.Fact.{Fact}
use Rattle.terms.specs.declared.fact.Fact.TheVariants as fact
use Rattle.terms.specs.Trees.{TermTree, FormTree}
use Rattle.terms.specs.Nodes.{node, term_size, form_size, term_nodes, array_nodes, form_nodes}
use Rattle.terms.proofs.OperandLaws.{term_count, form_count}
use Rattle.terms.proofs.RewritingLaws.{term_put, form_put}
use Rattle.terms.specs.Sizes.{facts_size}
use Rattle.terms.specs.Replacing.{Change, replaced_term, replaced_form, replaced_fact}
use Rattle.terms.specs.Code.Rewriting.{operands_size, put_operator, put_node, put_nodes}
use Rattle.std.proofs.lemmas.List.{length-append, map-append, take_more}
use Rattle.symbolic_state.specs.declared.step.Step.{Step}
use Rattle.symbolic_state.specs.declared.step.Step.TheVariants as step
use Rattle.symbolic_state.specs.declared.gathered.Gathered.{Gathered}
use Rattle.symbolic_state.specs.Steps.{outermost}
use Rattle.symbolic_state.specs.Code.Joined.{change_of, given_of, given_first}
use Rattle.symbolic_state.specs.Code.Room.{IsPut}
use Rattle.symbolic_state.specs.Code.Writing.{written, frame_of, written_in, finished_forms}

-- ---- nodes

longer : (ms ns : List Node) → length ms ≤ length (ms ++ ns)
longer ms ns = omega (arith, length-append ms ns)

operator_longer : (ns : List Node) (k : NodeKind) → length ns ≤ length (put_operator ns k)
unfolding put_operator
operator_longer ns k = longer ns (node k (1 + operands_size k ns) ∷ [])

node_longer : (c : Change) (ns : List Node) (k : NodeKind) → length ns ≤ length (put_node c ns k)
unfolding put_node
node_longer c ns (kind.Of x) = longer ns (term_nodes (c.number x))
node_longer c ns (kind.Base x) = longer ns (array_nodes (c.array x))
node_longer c ns (kind.Num z) = operator_longer ns (kind.Num z)
node_longer c ns kind.Add = operator_longer ns kind.Add
node_longer c ns kind.Sub = operator_longer ns kind.Sub
node_longer c ns kind.Mul = operator_longer ns kind.Mul
node_longer c ns kind.Div = operator_longer ns kind.Div
node_longer c ns kind.Rem = operator_longer ns kind.Rem
node_longer c ns kind.Read = operator_longer ns kind.Read
node_longer c ns kind.Truth = operator_longer ns kind.Truth
node_longer c ns kind.Store = operator_longer ns kind.Store
node_longer c ns kind.True = operator_longer ns kind.True
node_longer c ns kind.False = operator_longer ns kind.False
node_longer c ns kind.Le = operator_longer ns kind.Le
node_longer c ns kind.Eq = operator_longer ns kind.Eq
node_longer c ns kind.Not = operator_longer ns kind.Not
node_longer c ns kind.And = operator_longer ns kind.And
node_longer c ns kind.Or = operator_longer ns kind.Or

nodes_longer : (c : Change) (out ns : List Node) → length out ≤ length (put_nodes c out ns)
nodes_longer c out [] = omega arith
nodes_longer c out (n ∷ ns) = omega (arith, node_longer c out n.kind, nodes_longer c (put_node c out n.kind) ns)

-- what is written so far isn't longer than the whole
pub written_longer : (out : List Node) (frames : List (Change × List Node)) → length out ≤ length (written out frames)
written_longer out [] = omega arith
written_longer out (frame ∷ frames) = omega (arith, nodes_longer frame.0 out frame.1, written_longer (put_nodes frame.0 out frame.1) frames)

-- so the whole is past the room, too
pub written_past : (steps : List Step) (out : List Node) (parts : List (Bor (List Node) × ℕ)) (whole : List Node) (room : ℕ)
    → written_in steps out parts ≡ whole → room < length out → room < length whole
written_past steps out parts whole room is past =
    omega (arith, written_longer out (map (frame_of steps) (reverse parts)), ap length is, past)

-- ---- how long formulas are as nodes

pub term_length : (c : Change) (t : TermTree) → length (put_nodes c [] (term_nodes t)) ≡ term_size (replaced_term c t)
term_length c t = ap length (term_put c [] t) ∙ term_count (replaced_term c t)

pub form_length : (c : Change) (f : FormTree) → length (put_nodes c [] (form_nodes f)) ≡ form_size (replaced_form c f)
form_length c f = ap length (form_put c [] f) ∙ form_count (replaced_form c f)

-- ---- facts

pub size_append : (xs ys : List Fact) → facts_size (xs ++ ys) ≡ facts_size xs + facts_size ys
size_append [] ys = omega arith
size_append (x ∷ xs) ys = let rest = size_append xs ys in omega (arith, rest)

pub put_nothing : (a : Gathered) → IsPut a a [] true
put_nothing a = (sym (append-nil a.facts.items), omega arith)

-- facts behind others, whether there is room for them or not
pub put_behind : (a b c : Gathered) (xs ys : List Fact) (done : Bool) → IsPut a b xs true → IsPut b c ys done → IsPut a c (xs ++ ys) done
put_behind a b c xs ys true p q = (
  q.0 ∙ ap (λ l. l ++ ys) p.0 ∙ append_assoc a.facts.items xs ys,
  omega (arith, p.1, q.1, size_append xs ys),
)
put_behind a b c xs ys false p q = omega (arith, p.1, q, size_append xs ys)

-- there is no room for the whole where there is none for a part of it
pub put_fails : (a b c : Gathered) (xs ys zs : List Fact) → IsPut a b xs true → IsPut b c ys false → facts_size xs + facts_size ys ≤ facts_size zs → IsPut a c zs false
put_fails a b c xs ys zs p q size = omega (arith, p.1, q, size)

-- ---- forms that are given

module _ (c : Change) where
  forms_within : (n : ℕ) (fs : List FormTree) → facts_size (finished_forms c (take n fs)) ≤ facts_size (finished_forms c fs)
  forms_within zero fs = omega arith
  forms_within (suc n) [] = omega arith
  forms_within (suc n) (f ∷ fs) = omega (arith, forms_within n fs)

  module _ (fs : List FormTree) (i : ℕ) (f : FormTree) (within : i < length fs) (is : f ≡ slice_index_or fs i f) where
    -- one form more
    pub forms_next : finished_forms c (take (i + 1) fs) ≡ finished_forms c (take i fs) ++ (fact.Plain (replaced_form c f) ∷ [])
    forms_next = ap (finished_forms c) (take_more fs i f within ∙ ap (λ g. take i fs ++ (g ∷ [])) (sym is))
        ∙ map-append (λ h. fact.Plain (replaced_form c h)) (take i fs) (f ∷ [])

    -- which is no larger than all
    pub forms_size : facts_size (finished_forms c (take i fs)) + facts_size (fact.Plain (replaced_form c f) ∷ []) ≤ facts_size (finished_forms c fs)
    forms_size = omega (arith, forms_within (i + 1) fs, ap facts_size forms_next, size_append (finished_forms c (take i fs)) (fact.Plain (replaced_form c f) ∷ []))

-- ---- the facts that steps give

drop_split : (k : ℕ) (steps : List Step) → k < length steps → given_of (drop k steps) ≡ given_of (drop (suc k) steps) ++ given_first (drop k steps)
drop_split k [] within = let never : ⊥ = omega (arith, within) in absurd never
drop_split zero (step.Replaces c ∷ steps) within = sym (append-nil (given_of steps))
drop_split zero (step.Assumes f ∷ steps) within = refl
drop_split (suc k) (s ∷ steps) within = drop_split k steps (omega (arith, within))

-- one step more
pub given_next : (n : ℕ) (steps : List Step) → n < length steps → given_of (outermost (n + 1) steps) ≡ given_of (outermost n steps) ++ given_first (outermost (n + 1) steps)
given_next n steps within =
    let less : suc (length steps - (n + 1)) ≡ length steps - n = omega (arith, within) in
    drop_split (length steps - (n + 1)) steps (omega (arith, within))
    ∙ ap (λ k. given_of (drop k steps) ++ given_first (outermost (n + 1) steps)) less

drop_size : (k : ℕ) (steps : List Step) → facts_size (given_of (drop k steps)) ≤ facts_size (given_of steps)
drop_size zero steps = omega arith
drop_size (suc k) [] = omega arith
drop_size (suc k) (step.Replaces c ∷ steps) = drop_size k steps
drop_size (suc k) (step.Assumes f ∷ steps) = omega (arith, drop_size k steps, size_append (given_of steps) (replaced_fact (change_of steps) f ∷ []))

-- the first steps give no more than all
pub outer_size : (n : ℕ) (steps : List Step) → facts_size (given_of (outermost n steps)) ≤ facts_size (given_of steps)
outer_size n steps = drop_size (length steps - n) steps

pub next_size : (n : ℕ) (steps : List Step) → n < length steps
    → facts_size (given_of (outermost n steps)) + facts_size (given_first (outermost (n + 1) steps)) ≤ facts_size (given_of steps)
next_size n steps within = omega (
  arith,
  outer_size (n + 1) steps,
  ap facts_size (given_next n steps within),
  size_append (given_of (outermost n steps)) (given_first (outermost (n + 1) steps)),
)
