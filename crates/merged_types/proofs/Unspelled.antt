-- Where no version has a name of its own, spelling changes nothing.
use Rattle.std.proofs.Common.{◌≡◌, List, [], ◌∷◌, map, Option, Some, None, refl, ap, ap₂}
use Rattle.std.specs.Option.{option_map}
use Rattle.c_lang.specs.Trees.{Expression, literal, variable, element, function, null, negation, logical_not, binary, Statement, Statements, skip, set, set_element, call, call_by, if_else, while_loop, break_loop, return_with, assert_that, input, output, point, choice, force, pick, none, more}
use Rattle.version_names.specs.Parts.{Parts}
use Rattle.client_specs.specs.declared.region.Region.{Region}
use Rattle.client_specs.specs.declared.region.Region.TheVariants.{After, Before}
use Rattle.client_specs.specs.Spelled.{region_after, spelled_expression, spelled_statement, spelled_statements}

-- versions and transformers are spelled as they are
abbrev pub no_parts : Parts
no_parts v s x = None

same_expression : (r : Region) (e : Expression) → spelled_expression no_parts r e ≡ e
same_expression r (literal z) = refl
same_expression r (variable x) = refl
same_expression r (element a i) = ap (element a) (same_expression r i)
same_expression r (function f) = refl
same_expression r null = refl
same_expression r (negation a) = ap negation (same_expression r a)
same_expression r (logical_not a) = ap logical_not (same_expression r a)
same_expression r (binary o a b) = ap₂ (binary o) (same_expression r a) (same_expression r b)

same_expressions : (r : Region) (es : List Expression) → map (spelled_expression no_parts r) es ≡ es
same_expressions r [] = refl
same_expressions r (e ∷ es) = ap₂ (λ (x : Expression) (xs : List Expression). x ∷ xs) (same_expression r e) (same_expressions r es)

same_option : (r : Region) (e : Option Expression) → option_map (spelled_expression no_parts r) e ≡ e
same_option r None = refl
same_option r (Some e) = ap Some (same_expression r e)

mutual
  same_statement : (r : Region) (t : Statement) → spelled_statement no_parts r t ≡ t
  same_statement r (skip p) = refl
  same_statement r (set p d e) = ap (set p d) (same_expression r e)
  same_statement r (set_element p a i e) = ap₂ (set_element p a) (same_expression r i) (same_expression r e)
  same_statement r (call p d f es) = ap (call p d f) (same_expressions r es)
  same_statement r (call_by p d x es) = ap (call_by p d x) (same_expressions r es)
  same_statement r (if_else p e xs ys) =
      let c = same_expression r e in
      let first = same_statements r xs in
      let second = same_statements r ys in
      (λ i. if_else p (c i) (first i) (second i))
  same_statement r (while_loop p e xs) = ap₂ (while_loop p) (same_expression r e) (same_statements r xs)
  same_statement r (break_loop p) = refl
  same_statement r (return_with p e) = ap (return_with p) (same_option r e)
  same_statement r (assert_that p e) = ap (assert_that p) (same_expression r e)
  same_statement r (input p d) = refl
  same_statement r (output p e) = ap (output p) (same_expression r e)
  same_statement r (point p k) = refl
  same_statement r (choice p d k) = refl
  same_statement r (force p) = refl
  same_statement r (pick p a b) = ap₂ (pick p) (same_statement After a) (same_statement Before b)

  pub same_statements : (r : Region) (ts : Statements) → spelled_statements no_parts r ts ≡ ts
  same_statements r none = refl
  same_statements r (more t ts) = ap₂ more (same_statement r t) (same_statements (region_after r t) ts)
