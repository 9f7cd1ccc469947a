-- A finished formula, written node by node: where a name stands for something, the nodes of this come next.
use Rattle.std.specs.Prelude.{◌≡◌, ℕ, List, [], ◌∷◌, map, reverse, Option, Some, None}
use Rattle.std.specs.Borrow.{Bor}
use Rattle.terms.specs.declared.sym.Sym.{Sym}
use Rattle.terms.specs.declared.node.Node.{Node}
use Rattle.terms.specs.declared.node.NodeKind.{NodeKind}
use Rattle.terms.specs.declared.node.NodeKind.TheVariants as kind
use Rattle.terms.specs.declared.fact.Fact.{Fact}
use Rattle.terms.specs.declared.fact.Fact.TheVariants as fact
use Rattle.terms.specs.Trees.{TermTree, name, ArrayTree, array, FormTree}
use Rattle.terms.specs.Nodes.{term_nodes, array_nodes}
use Rattle.terms.specs.Replacing.{Change, replaced_term, replaced_array, replaced_form}
use Rattle.terms.specs.Code.Rewriting.{put_nodes}
use Rattle.symbolic_state.specs.declared.step.Step.{Step}
use Rattle.symbolic_state.specs.Steps.{outermost}
use Rattle.symbolic_state.specs.Code.Joined.{change_of}

-- the nodes that are still to be written, those that come next first, each list with the change that counts for it
abbrev pub written : List Node → List (Change × List Node) → List Node
written out [] = out
written out (frame ∷ frames) = written (put_nodes frame.0 out frame.1) frames

-- the change of the first n steps
abbrev pub change_at : List Step → ℕ → Change
change_at steps n = change_of (outermost n steps)

-- forms that are given, with what their names stand for
abbrev pub finished_forms : Change → List FormTree → List Fact
finished_forms c hyps = map (λ h. fact.Plain (replaced_form c h)) hyps

-- nodes, and how many steps count for them
abbrev pub frame_of : List Step → Bor (List Node) × ℕ → Change × List Node
frame_of steps part = (change_at steps part.1, part.0.now)

-- the parts that are still to be written, the next one last
abbrev pub written_in : List Step → List Node → List (Bor (List Node) × ℕ) → List Node
written_in steps out parts = written out (map (frame_of steps) (reverse parts))

-- ---- what a name stands for, as nodes

pub record NumberStands (steps : List Step) (n : ℕ) (x : Sym) (part : Bor (List Node) × ℕ) : Type 0 where
  pub tree : TermTree
  pub nodes : part.0.now ≡ term_nodes tree
  pub is : (change_at steps n).number x ≡ replaced_term (change_at steps part.1) tree

pub record ArrayStands (steps : List Step) (n : ℕ) (x : Sym) (part : Bor (List Node) × ℕ) : Type 0 where
  pub tree : ArrayTree
  pub nodes : part.0.now ≡ array_nodes tree
  pub is : (change_at steps n).array x ≡ replaced_array (change_at steps part.1) tree

-- the name stands for these nodes, or for itself
abbrev pub NumberAt : List Step → ℕ → Sym → Option (Bor (List Node) × ℕ) → Type 0
NumberAt steps n x None = (change_at steps n).number x ≡ name x
NumberAt steps n x (Some part) = NumberStands steps n x part

abbrev pub ArrayAt : List Step → ℕ → Sym → Option (Bor (List Node) × ℕ) → Type 0
ArrayAt steps n x None = (change_at steps n).array x ≡ array x
ArrayAt steps n x (Some part) = ArrayStands steps n x part

-- what comes in place of a node
abbrev pub ValueAt : List Step → ℕ → NodeKind → Option (Bor (List Node) × ℕ) → Type 0
ValueAt steps n (kind.Of x) part = NumberAt steps n x part
ValueAt steps n (kind.Base x) part = ArrayAt steps n x part
ValueAt steps n k part = part ≡ None
