-- What a look at a number finds in a graph.
use Rattle.std.specs.Option.{option_map, option_copied}
use Rattle.std.proofs.Common.{◌≡◌, ℕ, ◌<◌, ◌≤◌, true, List, map, length, reverse, get_or, unwrap_or, is_some, Option, Some, None, sym, ap, ◌∙◌, subst, []}
use Rattle.std.proofs.Math.ListN.{get_or-map}
use Rattle.std.proofs.Math.Dec.{ltb}
use Rattle.std.proofs.lemmas.List.{length-reverse, length-map, reverse-reverse}
use Rattle.std.proofs.lemmas.Bool.{ltb-true, ltb-false}
use Rattle.std.specs.Borrow.{Bor}
use Rattle.weakest_preconditions.specs.Conditions.{at_end}
use Rattle.annotated_bodies.specs.Sources.{context_in}
use Rattle.control_flow.specs.declared.node.Node as code
use Rattle.control_flow.specs.declared.graph.Graph.{Graph}
use Rattle.control_flow.specs.Kept.{seen_node, nodes_of, are_ordered}
use Rattle.control_flow.specs.Seen.{IsNode, IsNodeAt}
use Rattle.control_flow.specs.Steps.{conditions_at}
use Rattle.control_flow.proofs.NodeLaws.{IsFound, found, past}
use Rattle.c_lang.specs.Names.{Bytes}
use Rattle.loop_invariants.specs.Context.{Context}
use Rattle.weakest_preconditions.specs.Wp.{Condition}

length_of : (l : List code.Node) → length (nodes_of l) ≡ length l
length_of l = length-reverse (map seen_node l) ∙ length-map l seen_node

node_of : (l : List code.Node) (n : ℕ) (d : code.Node) → get_or (reverse (nodes_of l)) n (seen_node d) ≡ seen_node (get_or l n d)
node_of l n d = ap (λ x. get_or x n (seen_node d)) (reverse-reverse (map seen_node l)) ∙ get_or-map seen_node l n d

module _ (c : Context) (func : Bytes) (end : List Condition) (l : List code.Node) (n : ℕ) where
  -- the node that stands at a number
  pub found_in : (d : code.Node) → are_ordered (nodes_of l) ≡ true → n < length l → IsFound c func end (nodes_of l) n (seen_node (get_or l n d))
  found_in d ordered less = subst (IsFound c func end (nodes_of l) n) (node_of l n d)
      (found c func end (nodes_of l) n (seen_node d) ordered (subst (λ m. n < m) (sym (length_of l)) less))

  -- where no node stands, there are no conditions
  pub past_in : length l ≤ n → conditions_at c func end (nodes_of l) n ≡ []
  past_in over = past c func end (nodes_of l) n (subst (λ m. m ≤ n) (sym (length_of l)) over)

pub look : (g : Graph) (n : ℕ) (o : Option (Bor code.Node)) → are_ordered (nodes_of g.nodes.items) ≡ true
    → is_some o ≡ ltb n (length g.nodes.items) → ((d : code.Node) → unwrap_or (option_map (λ x. x.now) o) d ≡ get_or g.nodes.items n d)
    → IsNodeAt g n (option_copied o)
look g n None ordered some value =
    past_in (context_in g.context.now) g.func.now.name (at_end (context_in g.context.now) g.func.now) g.nodes.items n
    (ltb-false n (length g.nodes.items) (sym some))
look g n (Some x) ordered some value =
    let is = found_in (context_in g.context.now) g.func.now.name (at_end (context_in g.context.now) g.func.now) g.nodes.items n x.now ordered
    (ltb-true n (length g.nodes.items) (sym some)) in
    subst (λ y. IsNode g n y) (ap seen_node (sym (value x.now))) (record { above = is.above; conditions = is.conditions })
