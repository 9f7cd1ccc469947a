-- The loop that is looked for is the one of its number.
use Rattle.std.proofs.Common.{◌≡◌, ◌≤◌, ◌-◌, ℕ, zero, suc, List, [], ◌∷◌, ◌++◌, map, None, refl, sym, ap, ◌∙◌}
use Rattle.c_lang.specs.Names.{Bytes}
use Rattle.c_lang.specs.Trees.{Statement, Statements, statements, statement_of}
use Rattle.c_lang.specs.declared.program.Func.{Func}
use Rattle.loop_invariants.proofs.Operands.{above}
use Rattle.c_lang.specs.Trees as tree
use Rattle.loop_invariants.specs.Loops.{declared, loops, loops_in, loops_of, nth, visible_at}
use Rattle.loop_invariants.specs.Code.Seeking.{Sought, found, left, or_else, seek, seek_in, visible_in}

-- in a list of what is visible at loops
pub sought : ℕ → List (List Bytes) → Sought
sought n [] = left n
sought zero (x ∷ xs) = found x
sought (suc n) (x ∷ xs) = sought n xs

sought_append : (n : ℕ) (xs ys : List (List Bytes)) → or_else (sought n xs) (λ m. sought m ys) ≡ sought n (xs ++ ys)
unfolding sought
sought_append n [] ys = refl
sought_append zero (x ∷ xs) ys = refl
sought_append (suc n) (x ∷ xs) ys = sought_append n xs ys

or_both : (s t : Sought) (f g : ℕ → Sought) → s ≡ t → ((m : ℕ) → f m ≡ g m) → or_else s f ≡ or_else t g
or_both s t f g e go = ap (λ s. or_else s f) e ∙ by t
  where
    by : (t : Sought) → or_else t f ≡ or_else t g
    by (found names) = refl
    by (left m) = go m

mutual
  unfolding sought

  pub seek_is : (n : ℕ) (visible : List Bytes) (s : Statement) → seek n visible s ≡ sought n (loops visible s)
  seek_is zero visible (tree.while_loop p e a) = refl
  seek_is (suc n) visible (tree.while_loop p e a) = seek_in_is n visible a
  seek_is n visible (tree.if_else p e a b) = or_both (seek_in n visible a) (sought n (loops_in visible a)) (λ m. seek_in m visible b)
      (λ m. sought m (loops_in visible b)) (seek_in_is n visible a) (λ m. seek_in_is m visible b) ∙ sought_append n (loops_in visible a) (loops_in visible b)
  seek_is n visible (tree.skip p) = refl
  seek_is n visible (tree.set p d e) = refl
  seek_is n visible (tree.set_element p a i e) = refl
  seek_is n visible (tree.call p d f es) = refl
  seek_is n visible (tree.call_by p d x es) = refl
  seek_is n visible (tree.break_loop p) = refl
  seek_is n visible (tree.return_with p e) = refl
  seek_is n visible (tree.assert_that p e) = refl
  seek_is n visible (tree.input p d) = refl
  seek_is n visible (tree.output p e) = refl
  seek_is n visible (tree.point p k) = refl
  seek_is n visible (tree.choice p d k) = refl
  seek_is n visible (tree.force p) = refl
  seek_is n visible (tree.pick p a b) = refl

  pub seek_in_is : (n : ℕ) (visible : List Bytes) (ss : Statements) → seek_in n visible ss ≡ sought n (loops_in visible ss)
  seek_in_is n visible tree.none = refl
  seek_in_is n visible (tree.more s ss) = or_both (seek n visible s) (sought n (loops visible s)) (λ m. seek_in m (visible ++ declared s) ss)
      (λ m. sought m (loops_in (visible ++ declared s) ss)) (seek_is n visible s) (λ m. seek_in_is m (visible ++ declared s) ss)
      ∙ sought_append n (loops visible s) (loops_in (visible ++ declared s) ss)

nth_is : (n : ℕ) (xs : List (List Bytes)) → visible_in (sought n xs) ≡ nth (suc n) xs
unfolding sought
nth_is n [] = refl
nth_is zero (x ∷ xs) = refl
nth_is (suc n) (x ∷ xs) = nth_is n xs

pub visible_is : (n : ℕ) (visible : List Bytes) (ss : Statements) → visible_in (seek_in n visible ss) ≡ nth (suc n) (loops_in visible ss)
visible_is n visible ss = ap visible_in (seek_in_is n visible ss) ∙ nth_is n (loops_in visible ss)

no_loop : (xs : List (List Bytes)) → nth zero xs ≡ None
no_loop [] = refl
no_loop (x ∷ xs) = refl

pub none_at_zero : (f : Func) (n : ℕ) → n ≡ 0 → None ≡ visible_at f n
none_at_zero f n e = sym (ap (λ n. nth n (loops_of f)) e ∙ no_loop (loops_of f))

pub visible_above : (f : Func) (n m : ℕ) → 1 ≤ n → m ≡ n - 1 →
    visible_in (seek_in m (map (λ p. p.1) f.params) (statements (map statement_of f.body))) ≡ visible_at f n
visible_above f n m le e = visible_is m (map (λ p. p.1) f.params) (statements (map statement_of f.body)) ∙ ap (λ k. nth k (loops_of f)) (above n m le e)
