-- What is made of the parts that are still to do, where a term is exchanged for another one wherever it stands.
use Rattle.std.specs.Prelude.{ℕ, ◌+◌, ◌*◌, List, [], ◌∷◌, ◌++◌}
use Rattle.terms.specs.declared.node.Node.{Node}
use Rattle.terms.specs.Trees.{TermTree}
use Rattle.terms.specs.Nodes.{term_nodes, array_nodes, form_nodes, term_size, array_size, form_size}
use Rattle.terms.specs.Code.Rewriting.{put_operator}
use Rattle.cert_checker.specs.Places.{exchanged_term, exchanged_array, exchanged_form}
use Rattle.cert_checker.specs.declared.part.Part.{Part}
use Rattle.cert_checker.specs.declared.part.Part.TheVariants as part

abbrev pub exchanged_after : TermTree → TermTree → List Part → List Node → List Node
exchanged_after a b [] done = done
exchanged_after a b (part.Term t ∷ parts) done = exchanged_after a b parts (done ++ term_nodes (exchanged_term a b t))
exchanged_after a b (part.Array r ∷ parts) done = exchanged_after a b parts (done ++ array_nodes (exchanged_array a b r))
exchanged_after a b (part.Form f ∷ parts) done = exchanged_after a b parts (done ++ form_nodes (exchanged_form a b f))
exchanged_after a b (part.Operator k ∷ parts) done = exchanged_after a b parts (put_operator done k)

-- how much is left to do
abbrev pub parts_work : List Part → ℕ
parts_work [] = 0
parts_work (part.Term t ∷ parts) = 2 * term_size t + parts_work parts
parts_work (part.Array r ∷ parts) = 2 * array_size r + parts_work parts
parts_work (part.Form f ∷ parts) = 2 * form_size f + parts_work parts
parts_work (part.Operator k ∷ parts) = 1 + parts_work parts
