-- What comes next, in place of a node.
use Rattle.std.proofs.Common.{◌≡◌, ℕ, List, [], ◌∷◌, ◌++◌, map, reverse, length, Option, Some, None, Bor, refl, sym, ap, ◌∙◌, subst, arith}
use Rattle.std.proofs.lemmas.List.{reverse-append}
use Rattle.terms.specs.declared.sym.Sym.{Sym}
use Rattle.terms.specs.declared.node.Node.{Node}
use Rattle.terms.specs.declared.node.NodeKind.{NodeKind}
use Rattle.terms.specs.declared.node.NodeKind.TheVariants as kind
use Rattle.terms.specs.Nodes.{node}
use Rattle.terms.specs.Replacing.{Change}
use Rattle.terms.specs.Code.Rewriting.{operands_size, put_operator, put_node}
use Rattle.symbolic_state.specs.declared.step.Step.{Step}
use Rattle.symbolic_state.specs.Code.Writing.{written, change_at, frame_of, written_in, NumberAt, ArrayAt, ValueAt}
use Rattle.symbolic_state.proofs.WritingLaws.{number_stays, array_stays, into_number, into_array}

abbrev Part : Type 0
Part = Bor (List Node) × ℕ

module _ (steps : List Step) (n : ℕ) (out rest : List Node) (size : ℕ) (frames : List (Change × List Node)) where
  abbrev pub continued : NodeKind → Option Part → List Node
  continued k None = written (put_operator out k) ((change_at steps n, rest) ∷ frames)
  continued k (Some part) = written out (frame_of steps part ∷ ((change_at steps n, rest) ∷ frames))

  abbrev pub Goes : NodeKind → Option Part → Type 0
  Goes k o = written out ((change_at steps n, node k size ∷ rest) ∷ frames) ≡ continued k o

  number_goes : (x : Sym) (o : Option Part) → NumberAt steps n x o → Goes (kind.Of x) o
  unfolding put_operator operands_size
  number_goes x None e = number_stays (change_at steps n) out x size rest frames e
  number_goes x (Some part) e = into_number (change_at steps n) out x size rest frames (change_at steps part.1) e.tree e.is
      ∙ ap (λ ns. written out ((change_at steps part.1, ns) ∷ ((change_at steps n, rest) ∷ frames))) (sym e.nodes)

  array_goes : (x : Sym) (o : Option Part) → ArrayAt steps n x o → Goes (kind.Base x) o
  unfolding put_operator operands_size
  array_goes x None e = array_stays (change_at steps n) out x size rest frames e
  array_goes x (Some part) e = into_array (change_at steps n) out x size rest frames (change_at steps part.1) e.tree e.is
      ∙ ap (λ ns. written out ((change_at steps part.1, ns) ∷ ((change_at steps n, rest) ∷ frames))) (sym e.nodes)

  pub goes : (k : NodeKind) (o : Option Part) → ValueAt steps n k o → Goes k o
  unfolding put_node
  goes (kind.Of x) o e = number_goes x o e
  goes (kind.Base x) o e = array_goes x o e
  goes (kind.Num z) o e = subst (Goes (kind.Num z)) (sym e) refl
  goes kind.Add o e = subst (Goes kind.Add) (sym e) refl
  goes kind.Sub o e = subst (Goes kind.Sub) (sym e) refl
  goes kind.Mul o e = subst (Goes kind.Mul) (sym e) refl
  goes kind.Div o e = subst (Goes kind.Div) (sym e) refl
  goes kind.Rem o e = subst (Goes kind.Rem) (sym e) refl
  goes kind.Read o e = subst (Goes kind.Read) (sym e) refl
  goes kind.Truth o e = subst (Goes kind.Truth) (sym e) refl
  goes kind.Store o e = subst (Goes kind.Store) (sym e) refl
  goes kind.True o e = subst (Goes kind.True) (sym e) refl
  goes kind.False o e = subst (Goes kind.False) (sym e) refl
  goes kind.Le o e = subst (Goes kind.Le) (sym e) refl
  goes kind.Eq o e = subst (Goes kind.Eq) (sym e) refl
  goes kind.Not o e = subst (Goes kind.Not) (sym e) refl
  goes kind.And o e = subst (Goes kind.And) (sym e) refl
  goes kind.Or o e = subst (Goes kind.Or) (sym e) refl

-- ---- the parts that are still to be written

pub part_next : (steps : List Step) (out : List Node) (parts : List Part) (part : Part)
    → written_in steps out (parts ++ (part ∷ [])) ≡ written out (frame_of steps part ∷ map (frame_of steps) (reverse parts))
part_next steps out parts part = ap (λ ps. written out (map (frame_of steps) ps)) (reverse-append parts (part ∷ []))

pub turn_end : (steps : List Step) (out : List Node) (old parts : List Part) (part : Part) → old ≡ parts ++ (part ∷ []) → part.0.now ≡ []
    → written_in steps out parts ≡ written_in steps out old
turn_end steps out old parts part whole empty = sym (ap (written_in steps out) whole ∙ part_next steps out parts part
    ∙ ap (λ ns. written out ((change_at steps part.1, ns) ∷ map (frame_of steps) (reverse parts))) empty)

module _ (steps : List Step) (out : List Node) (old parts : List Part) (part : Part) (head : Node) (rest : Bor (List Node))
    (whole : old ≡ parts ++ (part ∷ [])) (nodes : part.0.now ≡ head ∷ rest.now) where
  abbrev left : List Part
  left = parts ++ ((rest, part.1) ∷ [])

  before : (o : Option Part) → ValueAt steps part.1 head.kind o → written_in steps out old ≡ continued steps part.1 out rest.now head.size (map (frame_of steps) (reverse parts)) head.kind o
  before o value = ap (written_in steps out) whole ∙ part_next steps out parts part
      ∙ ap (λ ns. written out ((change_at steps part.1, ns) ∷ map (frame_of steps) (reverse parts))) nodes
      ∙ goes steps part.1 out rest.now head.size (map (frame_of steps) (reverse parts)) head.kind o value

  pub turn_into : (v : Part) → ValueAt steps part.1 head.kind (Some v) → written_in steps out ((parts ++ ((rest, part.1) ∷ [])) ++ (v ∷ [])) ≡ written_in steps out old
  turn_into v value = part_next steps out left v
      ∙ ap (λ ps. written out (frame_of steps v ∷ map (frame_of steps) ps)) (reverse-append parts ((rest, part.1) ∷ []))
      ∙ sym (before (Some v) value)

  pub turn_on : ValueAt steps part.1 head.kind None → (new : List Node) → new ≡ put_operator out head.kind → written_in steps new (parts ++ ((rest, part.1) ∷ [])) ≡ written_in steps out old
  turn_on value new put = part_next steps new parts (rest, part.1)
      ∙ ap (λ ns. written ns (frame_of steps (rest, part.1) ∷ map (frame_of steps) (reverse parts))) put
      ∙ sym (before None value)

pub nothing_left : {X : Type 0} (xs : List X) → length xs ≡ 0 → xs ≡ []
nothing_left [] e = refl
nothing_left (x ∷ xs) e = let never : ⊥ = omega (arith, e) in absurd never
