-- What is made of the parts that are still to do, where the truth with some place has a term put for it. The
-- state says how many truths come before that place still, or that the term was put.
use Rattle.std.specs.Prelude.{ℕ, zero, suc, List, [], ◌∷◌, ◌++◌, Option, Some, None}
use Rattle.terms.specs.declared.node.Node.{Node}
use Rattle.terms.specs.Trees.{TermTree, number, name, plus, minus, times, divided, remainder, read, truth, ArrayTree, array, stored, FormTree, always, never, at_most, equal, denied, both, either}
use Rattle.terms.specs.Nodes.{term_nodes, array_nodes, form_nodes}
use Rattle.terms.specs.Code.Rewriting.{put_operator}
use Rattle.cert_checker.specs.declared.part.Part.{Part}
use Rattle.cert_checker.specs.declared.part.Part.TheVariants as part

abbrev pub Left : Type 0
Left = Option ℕ

abbrev pub Putting : Type 0 → Type 0
Putting Whole = Left → Whole × Left

abbrev pub unchanged : {Whole : Type 0} → Whole → Putting Whole
unchanged w s = (w, s)

abbrev pub in_one : {Part Whole : Type 0} → (Part → Whole) → Putting Part → Putting Whole
in_one make put s = (make (put s).0, (put s).1)

abbrev pub in_two : {One Two Whole : Type 0} → (One → Two → Whole) → Putting One → Putting Two → Putting Whole
in_two make put puts s = (make (put s).0 (puts (put s).1).0, (puts (put s).1).1)

abbrev pub in_three : {One Two Three Whole : Type 0} → (One → Two → Three → Whole) → Putting One → Putting Two → Putting Three → Putting Whole
in_three make put puts putting s = (make (put s).0 (puts (put s).1).0 (putting (puts (put s).1).1).0, (putting (puts (put s).1).1).1)

abbrev pub in_truth : TermTree → Putting FormTree → Putting TermTree
in_truth v put (Some zero) = (v, None)
in_truth v put (Some (suc k)) = in_one truth put (Some k)
in_truth v put None = in_one truth put None

abbrev mutual
  pub put_term : TermTree → TermTree → Putting TermTree
  put_term v (number z) = unchanged (number z)
  put_term v (name x) = unchanged (name x)
  put_term v (plus t u) = in_two plus (put_term v t) (put_term v u)
  put_term v (minus t u) = in_two minus (put_term v t) (put_term v u)
  put_term v (times t u) = in_two times (put_term v t) (put_term v u)
  put_term v (divided t u) = in_two divided (put_term v t) (put_term v u)
  put_term v (remainder t u) = in_two remainder (put_term v t) (put_term v u)
  put_term v (read r i) = in_two read (put_array v r) (put_term v i)
  put_term v (truth f) = in_truth v (put_form v f)

  pub put_array : TermTree → ArrayTree → Putting ArrayTree
  put_array v (array x) = unchanged (array x)
  put_array v (stored a i t) = in_three stored (put_array v a) (put_term v i) (put_term v t)

  pub put_form : TermTree → FormTree → Putting FormTree
  put_form v always = unchanged always
  put_form v never = unchanged never
  put_form v (at_most t u) = in_two at_most (put_term v t) (put_term v u)
  put_form v (equal t u) = in_two equal (put_term v t) (put_term v u)
  put_form v (both f g) = in_two both (put_form v f) (put_form v g)
  put_form v (either f g) = in_two either (put_form v f) (put_form v g)
  put_form v (denied f) = in_one denied (put_form v f)

abbrev pub put_after : TermTree → List Part → Left → List Node → List Node
put_after v [] s done = done
put_after v (part.Term t ∷ parts) s done = put_after v parts (put_term v t s).1 (done ++ term_nodes (put_term v t s).0)
put_after v (part.Array r ∷ parts) s done = put_after v parts (put_array v r s).1 (done ++ array_nodes (put_array v r s).0)
put_after v (part.Form f ∷ parts) s done = put_after v parts (put_form v f s).1 (done ++ form_nodes (put_form v f s).0)
put_after v (part.Operator k ∷ parts) s done = put_after v parts s (put_operator done k)
