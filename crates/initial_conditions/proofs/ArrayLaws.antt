-- Which arrays a fact speaks of, by the parts of the fact.
use Rattle.std.proofs.Common.{◌≡◌, Bool, true, false, not, ◌||◌, List, ◌++◌, filter, refl, sym, ap, ap₂, ◌∙◌}
use Rattle.std.proofs.lemmas.List.Folds.{list_any-append}
use Rattle.std.proofs.lemmas.Map.Views.{any-filter_same}
use Rattle.c_lang.specs.Names.{Bytes}
use Rattle.terms.specs.declared.sym.Sym.{Sym}
use Rattle.terms.specs.declared.fact.Fact.TheVariants as fact
use Rattle.terms.specs.declared.node.Node.{Node}
use Rattle.terms.specs.Trees.{TermTree, FormTree}
use Rattle.terms.specs.Nodes.{term_nodes, form_nodes}
use Rattle.terms.specs.Names.{Occurrence, as_number, as_array, is_number, term_names, form_names}
use Rattle.terms.specs.Code.Occurrences.{nodes_pass}
use Rattle.terms.proofs.OccurrenceLaws.{term_passes, form_passes}
use Rattle.expression_conditions.specs.Meanings.{current}
use Rattle.weakest_preconditions.specs.Conditions.{is_array}
use Rattle.initial_conditions.specs.Code.Arrays.{mentions_array}

-- an array isn't the bound number
not_bound : (a x : Sym) (o : Occurrence) → is_array a o ≡ true → not (is_number x o) ≡ true
not_bound a x (as_array y) e = refl
not_bound a x (as_number y) e = absurd (let never : false ≡ true = e in cc)

module _ (x : Bytes) where
  abbrev passes : List Node → Bool
  passes nodes = nodes_pass (is_array (current x)) nodes

  in_parts : (v : Sym) (lo hi : TermTree) (f : FormTree)
      → mentions_array (fact.All v lo hi f) x ≡ (passes (term_nodes lo) || (passes (term_nodes hi) || passes (form_nodes f)))
  in_parts v lo hi f =
      let a = current x in
      let rest = filter (λ o. not (is_number v o)) (form_names f) in
      list_any-append (is_array a) (term_names lo) (term_names hi ++ rest)
      ∙ ap₂ (λ b c. b || c) (sym (term_passes (is_array a) lo))
      (list_any-append (is_array a) (term_names hi) rest
      ∙ ap₂ (λ b c. b || c) (sym (term_passes (is_array a) hi))
      (any-filter_same (is_array a) (λ o. not (is_number v o)) true (not_bound a v) (form_names f) ∙ sym (form_passes (is_array a) f)))

  one_after_the_other : (a b c d : Bool) → (((a || b) || c) || d) ≡ (a || (b || (c || d)))
  one_after_the_other true b c d = refl
  one_after_the_other false true c d = refl
  one_after_the_other false false c d = refl

  -- what was found before, and what the fact speaks of
  pub with_form : (old : Bool) (f : FormTree) (ns : List Node) → ns ≡ form_nodes f
      → (old || passes ns) ≡ (old || mentions_array (fact.Plain f) x)
  with_form old f ns is = ap (λ b. old || b) (ap passes is ∙ form_passes (is_array (current x)) f)

  pub with_parts : (old : Bool) (v : Sym) (lo hi : TermTree) (f : FormTree) (ns ms ls : List Node)
      → ns ≡ term_nodes lo → ms ≡ term_nodes hi → ls ≡ form_nodes f
      → (((old || passes ns) || passes ms) || passes ls) ≡ (old || mentions_array (fact.All v lo hi f) x)
  with_parts old v lo hi f ns ms ls is js ks =
      one_after_the_other old (passes ns) (passes ms) (passes ls)
      ∙ ap (λ b. old || b) (ap₂ (λ b c. b || c) (ap passes is) (ap₂ (λ b c. b || c) (ap passes js) (ap passes ks)) ∙ sym (in_parts v lo hi f))
