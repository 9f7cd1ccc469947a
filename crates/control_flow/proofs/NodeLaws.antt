-- Nodes by their numbers, and the conditions at them.
use Rattle.std.proofs.Common.{◌≡◌, ℕ, ◌<◌, ◌≤◌, ◌==◌, nat_lt, Bool, true, false, ◌&&◌, List, [], ◌∷◌, ◌++◌, length, reverse, get_or, refl, sym, ap, ap₂, ◌∙◌, subst, arith}
use Rattle.std.proofs.Math.Seq.{get_or-append_seam}
use Rattle.std.proofs.lemmas.List.{get_or_append_left, length-reverse}
use Rattle.std.proofs.lemmas.Bool.{ltb-true, ne_eqb, eqb-false}
use Rattle.std.proofs.lemmas.Bool.Decides.{Decides-eqb}
use Rattle.std.proofs.lemmas.Grind.{reverse_onto}
use Rattle.c_lang.specs.Names.{Bytes}
use Rattle.loop_invariants.specs.Context.{Context}
use Rattle.terms.proofs.Choices.{by_bool}
use Rattle.weakest_preconditions.specs.Wp.{Condition}
use Rattle.control_flow.specs.Nodes.{Node, ends, turns, does}
use Rattle.control_flow.specs.Steps.{step, at_node, conditions_at}
use Rattle.control_flow.specs.Kept.{is_above, are_ordered}
use Rattle.control_flow.specs.Seen.{IsAbove}

and_left : (a b : Bool) → (a && b) ≡ true → a ≡ true
and_left true b e = refl
and_left false b e = e

and_right : (a b : Bool) → (a && b) ≡ true → b ≡ true
and_right true b e = e
and_right false true e = refl
and_right false false e = e

is_last : (n : ℕ) → (n == n) ≡ true
is_last n = (Decides-eqb n n).1 refl

not_last : (n m : ℕ) → n < m → (n == m) ≡ false
not_last n m less = ne_eqb n m (λ same. omega (arith, less, same))

pub is_above-is : (n : ℕ) (node : Node) → is_above n node ≡ true → IsAbove n node
is_above-is n (does t i j) e = (ltb-true i n (and_left (nat_lt i n) (nat_lt j n) e), ltb-true j n (and_right (nat_lt i n) (nat_lt j n) e))
is_above-is n ends e = tt
is_above-is n (turns p invariants) e = tt

module _ (c : Context) (func : Bytes) (end : List Condition) where
  -- at an earlier node they are what they were before the last one
  pub earlier : (node : Node) (nodes : List Node) (n : ℕ) → n < length nodes →
      conditions_at c func end (node ∷ nodes) n ≡ conditions_at c func end nodes n
  earlier node nodes n less = rw (not_last n (length nodes) less) refl

  pub at_last : (node : Node) (nodes : List Node) →
      conditions_at c func end (node ∷ nodes) (length nodes) ≡ at_node c func end node (conditions_at c func end nodes)
  at_last node nodes = rw (is_last (length nodes)) refl

  pub past : (nodes : List Node) (n : ℕ) → length nodes ≤ n → conditions_at c func end nodes n ≡ []
  past [] n le = refl
  past (node ∷ nodes) n le = rw (ne_eqb n (length nodes) (λ same. omega (arith, le, same))) (past nodes n (omega (arith, le)))

  -- what follows a node is earlier, so it may be looked up among all nodes
  same_next : (node x : Node) (nodes : List Node) → IsAbove (length nodes) node →
      at_node c func end node (conditions_at c func end nodes) ≡ at_node c func end node (conditions_at c func end (x ∷ nodes))
  same_next ends x nodes e = refl
  same_next (turns p invariants) x nodes e = refl
  same_next (does t i j) x nodes e = ap₂ (step c func t) (sym (earlier x nodes i e.0)) (sym (earlier x nodes j e.1))

  -- the node with a number
  pub record IsFound (nodes : List Node) (n : ℕ) (node : Node) : Type 0 where
    pub above : IsAbove n node
    pub conditions : conditions_at c func end nodes n ≡ at_node c func end node (conditions_at c func end nodes)

  above_more : (n m : ℕ) (node : Node) → n ≤ m → IsAbove n node → IsAbove m node
  above_more n m (does t i j) le e = (omega (arith, le, e.0), omega (arith, le, e.1))
  above_more n m ends le e = tt
  above_more n m (turns p invariants) le e = tt

  last_node : (x : Node) (nodes : List Node) (d : Node) → get_or (reverse (x ∷ nodes)) (length nodes) d ≡ x
  last_node x nodes d = ap (λ l. get_or l (length nodes) d) (reverse_onto nodes x [])
      ∙ (ap (λ n. get_or (reverse nodes ++ (x ∷ [])) n d) (sym (length-reverse nodes)) ∙ get_or-append_seam (reverse nodes) x [] d)

  earlier_node : (x : Node) (nodes : List Node) (n : ℕ) (d : Node) → n < length nodes → get_or (reverse (x ∷ nodes)) n d ≡ get_or (reverse nodes) n d
  earlier_node x nodes n d less = ap (λ l. get_or l n d) (reverse_onto nodes x [])
      ∙ get_or_append_left (reverse nodes) (x ∷ []) d n (subst (λ m. n < m) (sym (length-reverse nodes)) less)

  found_last : (x : Node) (nodes : List Node) → is_above (length nodes) x ≡ true → IsFound (x ∷ nodes) (length nodes) x
  found_last x nodes e =
      let above = is_above-is (length nodes) x e in
      record { above = above; conditions = at_last x nodes ∙ same_next x x nodes above }

  found_earlier : (x : Node) (nodes : List Node) (n : ℕ) (node : Node) → n < length nodes → IsFound nodes n node → IsFound (x ∷ nodes) n node
  found_earlier x nodes n node less is = record {
    above = is.above;
    conditions = earlier x nodes n less ∙ (is.conditions ∙ same_next node x nodes (above_more n (length nodes) node (omega (arith, less)) is.above));
  }

  pub found : (nodes : List Node) (n : ℕ) (d : Node) → are_ordered nodes ≡ true → n < length nodes →
      IsFound nodes n (get_or (reverse nodes) n d)
  found [] n d ordered within = elim within [ ]
  found (x ∷ nodes) n d ordered within = by_bool (n == length nodes) last (λ e. before (found nodes n d (and_right (is_above (length nodes) x) (are_ordered nodes) ordered)) e)
    where
      last : (n == length nodes) ≡ true → IsFound (x ∷ nodes) n (get_or (reverse (x ∷ nodes)) n d)
      last e = subst (λ m. IsFound (x ∷ nodes) m (get_or (reverse (x ∷ nodes)) m d)) (sym ((Decides-eqb n (length nodes)).0 e))
          (subst (λ y. IsFound (x ∷ nodes) (length nodes) y) (sym (last_node x nodes d))
          (found_last x nodes (and_left (is_above (length nodes) x) (are_ordered nodes) ordered)))

      before : (n < length nodes → IsFound nodes n (get_or (reverse nodes) n d)) → (n == length nodes) ≡ false
          → IsFound (x ∷ nodes) n (get_or (reverse (x ∷ nodes)) n d)
      before rest e =
          let less : n < length nodes = omega (arith, within, eqb-false n (length nodes) e) in
          subst (λ y. IsFound (x ∷ nodes) n y) (sym (earlier_node x nodes n d less)) (found_earlier x nodes n (get_or (reverse nodes) n d) less (rest less))
