-- Branches that share facts.
use Rattle.std.proofs.Common.{◌≡◌, ◌∙◌, ℕ, ◌≤◌, zero, suc, true, false, List, [], ◌∷◌, ◌++◌, reverse, length, take, map, Option, Some, None, Ok, ap, ap₂, sym, subst, refl, arith}
use Rattle.std.proofs.lemmas.List.{reverse-append}
use Rattle.terms.specs.declared.fact.Fact.{Fact}
use Rattle.terms.specs.declared.sequent.Sort.{Sort}
use Rattle.terms.specs.declared.sym.Sym.{Sym}
use Rattle.cert_form.specs.declared.cert.Rule.{Rule}
use Rattle.cert_checker.specs.declared.branch.Branch.{Branch}
use Rattle.cert_checker.specs.Rules.{children}
use Rattle.cert_checker.specs.Checks.{goes_on, checks}
use Rattle.cert_checker.specs.Code.Branches.{Shared, seen_branches, with_shared, all_facts, AreShared, IsStepDone, IsChecking}

pub map-append : {X Y : Type 0} (f : X → Y) (xs ys : List X) → map f (xs ++ ys) ≡ map f xs ++ map f ys
map-append f [] ys = refl
map-append f (x ∷ xs) ys = ap (λ l. f x ∷ l) (map-append f xs ys)

-- ---- what is taken of facts that were replaced

take-short : (n k : ℕ) (xs ys : List Fact) → k ≤ n → n ≤ length xs → take k (take n xs ++ ys) ≡ take k xs
take-short n zero xs ys h l = refl
take-short zero (suc k) xs ys h l = absurd (omega arith)
take-short (suc n) (suc k) [] ys h l = absurd (none n l)
  where
    none : (n : ℕ) → suc n ≤ length {A = Fact} [] → ⊥
    none n h = omega arith
take-short (suc n) (suc k) (x ∷ xs) ys h l = ap (λ r. x ∷ r) (take-short n k xs ys (less k n h) (less n (length xs) l))
  where
    less : (a b : ℕ) → suc a ≤ suc b → a ≤ b
    less a b h = omega arith

take-all : (xs : List Fact) → take (length xs) xs ≡ xs
take-all [] = refl
take-all (x ∷ xs) = ap (λ r. x ∷ r) (take-all xs)

le-trans : (a b c : ℕ) → a ≤ b → b ≤ c → a ≤ c
le-trans a b c h k = omega arith

facts-kept : (n : ℕ) (facts added : List Fact) (bs : List Shared) → n ≤ length facts → AreShared n bs → all_facts (take n facts ++ added) bs ≡ all_facts facts bs
facts-kept n facts added [] l h = refl
facts-kept n facts added (b ∷ bs) l h = ap₂ (λ x rest. (x ++ b.1) ∷ rest) (take-short n b.0 facts added h.0 l) (go bs b.0 h.0 h.1)
  where
    go : (cs : List Shared) (m : ℕ) → m ≤ n → AreShared m cs → all_facts (take n facts ++ added) cs ≡ all_facts facts cs
    go [] m k h = refl
    go (c ∷ cs) m k h = ap₂ (λ x rest. (x ++ c.1) ∷ rest) (take-short n c.0 facts added (le-trans c.0 m n h.0 k) l) (go cs c.0 (le-trans c.0 m n h.0 k) h.1)

shared-more : (m n : ℕ) (bs : List Shared) → m ≤ n → AreShared m bs → AreShared n bs
shared-more m n [] k h = tt
shared-more m n (b ∷ bs) k h = (le-trans b.0 m n h.0 k, h.1)

same-le : (n : ℕ) → n ≤ n
same-le n = omega arith

shared-with : (n : ℕ) (made : List (List Fact)) (bs : List Shared) → AreShared n bs → AreShared n (with_shared n made ++ bs)
shared-with n [] bs h = h
shared-with n (forms ∷ made) bs h = (same-le n, shared-with n made bs h)

children-facts : (facts : List Fact) (made : List (List Fact)) → all_facts facts (with_shared (length facts) made) ≡ map (λ forms. facts ++ forms) made
children-facts facts [] = refl
children-facts facts (forms ∷ made) = ap₂ (λ x rest. (x ++ forms) ∷ rest) (take-all facts) (children-facts facts made)

long : (n : ℕ) (xs ys : List Fact) → n ≤ length xs → n ≤ length (take n xs ++ ys)
long zero xs ys h = omega arith
long (suc n) [] ys h = absurd (none n h)
  where
    none : (n : ℕ) → suc n ≤ length {A = Fact} [] → ⊥
    none n h = omega arith
long (suc n) (x ∷ xs) ys h = more n (length (take n xs ++ ys)) (long n xs ys (less n (length xs) h))
  where
    less : (a b : ℕ) → suc a ≤ suc b → a ≤ b
    less a b h = omega arith

    more : (a b : ℕ) → a ≤ b → suc a ≤ suc b
    more a b h = omega arith

-- ---- a rule is done

-- the branch at work has these facts, and the others are those that wait
pub step-applies : (sorts : List (Sym × Sort)) (rule : Rule) (facts now : List Fact) (n : ℕ) (added : List Fact) (bs more : List Shared) (made : List (List Fact))
    → AreShared (length facts) ((n, added) ∷ bs) → now ≡ take n facts ++ added → children sorts now rule ≡ Some made → more ≡ with_shared (length now) made ++ bs
    → IsStepDone sorts rule facts ((n, added) ∷ bs) (Ok true) now more
step-applies sorts rule facts now n added bs more made shared is applies put =
    let kept : all_facts now bs ≡ all_facts facts bs = ap (λ l. all_facts l bs) is ∙ facts-kept n facts added bs shared.0 shared.1 in
    let after : all_facts now more ≡ map (λ forms. now ++ forms) made ++ all_facts facts bs
    = ap (all_facts now) put ∙ map-append (λ b. take b.0 now ++ b.1) (with_shared (length now) made) bs ∙ ap₂ (λ a b. a ++ b) (children-facts now made) kept in (
      λ rules. ap (λ l. checks sorts (rule ∷ rules) (l ∷ all_facts facts bs)) (sym is) ∙ ap (goes_on (checks sorts rules) now (all_facts facts bs)) applies ∙ ap (checks sorts rules) (sym after),
      subst (AreShared (length now)) (sym put) (shared-with (length now) made bs
          (shared-more n (length now) bs (subst (λ l. n ≤ length l) (sym is) (long n facts added shared.0)) shared.1)),
    )

pub step-fails : (sorts : List (Sym × Sort)) (rule : Rule) (facts now : List Fact) (n : ℕ) (added : List Fact) (bs more : List Shared)
    → now ≡ take n facts ++ added → children sorts now rule ≡ None → IsStepDone sorts rule facts ((n, added) ∷ bs) (Ok false) now more
step-fails sorts rule facts now n added bs more is applies = λ rules. ap (λ l. checks sorts (rule ∷ rules) (l ∷ all_facts facts bs)) (sym is)
    ∙ ap (goes_on (checks sorts rules) now (all_facts facts bs)) applies

pub step-left : (sorts : List (Sym × Sort)) (rule : Rule) (facts now : List Fact) (more : List Shared) → IsStepDone sorts rule facts [] (Ok false) now more
step-left sorts rule facts now more = λ rules. refl

-- ---- the code's step

pub seen-popped : (old new : List Branch) (b : Branch) → old ≡ new ++ (b ∷ []) → seen_branches (reverse old) ≡ (b.shared, b.added.items) ∷ seen_branches (reverse new)
seen-popped old new b e = ap (λ l. seen_branches (reverse l)) e ∙ ap seen_branches (reverse-append new (b ∷ []))

pub done-answer : (sorts : List (Sym × Sort)) (rule : Rule) (facts now slice : List Fact) (old popped new : List Branch) (b : Branch) (made : List (List Fact)) (n : ℕ) (o : Option (List (List Fact)))
    → old ≡ popped ++ (b ∷ []) → AreShared (length facts) (seen_branches (reverse old)) → now ≡ take b.shared facts ++ b.added.items → slice ≡ now → o ≡ children sorts slice rule → o ≡ Some made
    → n ≡ length now → seen_branches (reverse new) ≡ with_shared n made ++ seen_branches (reverse popped) → IsStepDone sorts rule facts (seen_branches (reverse old)) (Ok true) now (seen_branches (reverse new))
done-answer sorts rule facts now slice old popped new b made n o pop shared is view gives some len put =
    let seen : seen_branches (reverse old) ≡ (b.shared, b.added.items) ∷ seen_branches (reverse popped) = seen-popped old popped b pop in
    subst (λ l. IsStepDone sorts rule facts l (Ok true) now (seen_branches (reverse new))) (sym seen)
    (step-applies sorts rule facts now b.shared b.added.items (seen_branches (reverse popped)) (seen_branches (reverse new)) made
    (subst (AreShared (length facts)) seen shared) is (ap (λ l. children sorts l rule) (sym view) ∙ sym gives ∙ some) (put ∙ ap (λ k. with_shared k made ++ seen_branches (reverse popped)) len))

pub checking-more : (sorts : List (Sym × Sort)) (rules rest : List Rule) (rule : Rule) (start facts now : List Fact) (branches more : List Shared) → IsChecking sorts rules (rule ∷ rest) start facts branches
    → IsStepDone sorts rule facts branches (Ok true) now more → IsChecking sorts rules rest start now more
checking-more sorts rules rest rule start facts now branches more c h = record { left = sym (h.0 rest) ∙ c.left; shared = h.1 }

pub checking-fails : (sorts : List (Sym × Sort)) (rules rest : List Rule) (rule : Rule) (start facts now : List Fact) (branches more : List Shared) → IsChecking sorts rules (rule ∷ rest) start facts branches
    → IsStepDone sorts rule facts branches (Ok false) now more → false ≡ checks sorts rules (start ∷ [])
checking-fails sorts rules rest rule start facts now branches more c h = sym (h rest) ∙ c.left

pub checking-begins : (sorts : List (Sym × Sort)) (rules : List Rule) (start facts : List Fact) (branches : List Branch) (b : Branch) → facts ≡ [] → branches ≡ b ∷ [] → b.shared ≡ 0 → b.added.items ≡ start
    → IsChecking sorts rules rules start facts (seen_branches (reverse branches))
checking-begins sorts rules start facts branches b none is first same = record {
  left = ap₂ (λ l bs. checks sorts rules (all_facts l (seen_branches (reverse bs)))) none is ∙ ap (λ l. checks sorts rules (l ∷ [])) (ap (λ n. take n [] ++ b.added.items) first ∙ same);
  shared = subst (λ bs. AreShared (length facts) (seen_branches (reverse bs))) (sym is) (subst (λ n. n ≤ length facts) (sym first) (least (length facts)), tt);
}
  where
    least : (n : ℕ) → 0 ≤ n
    least n = omega arith

no-branches : (branches : List Branch) → seen_branches branches ≡ [] → branches ≡ []
no-branches [] e = refl
no-branches (b ∷ bs) e = absurd cc

none-reversed : (branches : List Branch) → reverse branches ≡ [] → branches ≡ []
none-reversed [] e = refl
none-reversed (b ∷ bs) e = absurd (ends-in (reverse bs) b (sym (reverse-append (b ∷ []) bs) ∙ e))
  where
    ends-in : (xs : List Branch) (x : Branch) → xs ++ (x ∷ []) ≡ [] → ⊥
    ends-in [] x e = absurd cc
    ends-in (y ∷ ys) x e = absurd cc

pub checking-ends : (sorts : List (Sym × Sort)) (rules : List Rule) (start facts : List Fact) (branches : List Branch) → IsChecking sorts rules [] start facts (seen_branches (reverse branches))
    → (branches ≡ [] → true ≡ checks sorts rules (start ∷ [])) × ((branches ≡ [] → ⊥) → false ≡ checks sorts rules (start ∷ []))
checking-ends sorts rules start facts branches c = (
  λ e. sym (ap (λ bs. checks sorts [] (all_facts facts (seen_branches (reverse bs)))) e) ∙ c.left,
  λ some. go (seen_branches (reverse branches)) refl some ∙ c.left,
)
  where
    go : (bs : List Shared) → seen_branches (reverse branches) ≡ bs → (branches ≡ [] → ⊥) → false ≡ checks sorts [] (all_facts facts (seen_branches (reverse branches)))
    go [] e some = absurd (some (none-reversed branches (no-branches (reverse branches) e)))
    go (b ∷ bs) e some = ap (λ l. checks sorts [] (all_facts facts l)) (sym e)
