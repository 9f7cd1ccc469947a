-- What is still to be put.
use Rattle.std.specs.Prelude.{ℕ, ◌+◌, ◌*◌, List, [], ◌∷◌, ◌++◌}
use Rattle.c_lang.specs.Names.{Bytes}
use Rattle.terms.specs.Nodes.{term_size, array_size, form_size}
use Rattle.formula_texts.specs.Written.{term_text, array_text, form_text, term_part, form_part}
use Rattle.formula_texts.specs.declared.pending.Pending.{Pending}
use Rattle.formula_texts.specs.declared.pending.Pending.TheVariants as pending

abbrev pub pending_text : Pending → Bytes
pending_text (pending.Text text) = text.now
pending_text (pending.Term t) = term_text t
pending_text (pending.TermPart t) = term_part t (term_text t)
pending_text (pending.Array a) = array_text a
pending_text (pending.Form f) = form_text f
pending_text (pending.FormPart f) = form_part f (form_text f)

-- the text of a stack, from its top, which is its end
unfoldable pub stack_text : List Pending → Bytes
stack_text [] = []
stack_text (x ∷ xs) = stack_text xs ++ pending_text x

abbrev pub weight : Pending → ℕ
weight (pending.Text text) = 1
weight (pending.Term t) = 16 * term_size t
weight (pending.TermPart t) = 16 * term_size t + 4
weight (pending.Array a) = 16 * array_size a
weight (pending.Form f) = 16 * form_size f
weight (pending.FormPart f) = 16 * form_size f + 4

-- it falls at each step
unfoldable pub weights : List Pending → ℕ
weights [] = 0
weights (x ∷ xs) = weights xs + weight x
