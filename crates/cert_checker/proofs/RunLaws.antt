-- Steps are taken until none is left.
use Rattle.std.proofs.Common.{◌≡◌, ◌∙◌, ℕ, ◌+◌, ◌*◌, ◌<◌, ◌≤◌, suc, true, ℤ, List, [], ◌∷◌, ◌++◌, reverse, length, Option, Some, None, Result, Ok, Err, ap, sym, subst, refl, arith}
use Rattle.std.specs.List.{list_all, AllZip}
use Rattle.std.specs.Prelude.{OnOk}
use Rattle.std.proofs.lemmas.List.{reverse-append}
use Rattle.std.proofs.lemmas.Option.{same_Some}
use Rattle.linear_rows.specs.declared.row.Row.{Row}
use Rattle.linear_rows.specs.declared.row.RowFail.{RowFail}
use Rattle.linear_rows.specs.declared.row.RowFail.TheVariants.{NoMemory, Wide}
use Rattle.linear_rows.specs.Sums.{row_fits}
use Rattle.terms.specs.Nodes.{term_size, array_size, form_size}
use Rattle.terms.specs.Trees.{TermTree, number, name, plus, minus, times, divided, remainder, read, truth}
use Rattle.cert_checker.specs.declared.step.Step.{Step}
use Rattle.cert_checker.specs.declared.step.Step.TheVariants as step
use Rattle.cert_checker.specs.declared.step.Operation.{Operation}
use Rattle.cert_checker.specs.Linear.{Sum}
use Rattle.cert_checker.specs.Code.SumRows.{IsSumRow}
use Rattle.cert_checker.specs.Code.Steps.{operands, work, sum_after, are_small_after, atoms_after, Goal, ComesTo, GoesOn, HasOperands, IsMade, Makes, shape_of, product_shape, literal_of, opened_steps, IsOpened}
use Rattle.cert_checker.proofs.Choices.{and_left}
use Rattle.cert_checker.proofs.StepLaws.{fit-reversed}
use Rattle.cert_checker.proofs.GoalLaws.{enough-rows}

twice-reversed : {X : Type 0} (xs : List X) → reverse (reverse xs) ≡ xs
twice-reversed [] = refl
twice-reversed (x ∷ xs) = ap reverse (reverse-append (x ∷ []) xs) ∙ reverse-append (reverse xs) (x ∷ []) ∙ ap (λ l. x ∷ l) (twice-reversed xs)

length-reversed : {X : Type 0} (xs : List X) → length (reverse xs) ≡ length xs
length-reversed [] = refl
length-reversed (x ∷ xs) = ap length (reverse-append (x ∷ []) xs) ∙ last (reverse xs) x ∙ ap suc (length-reversed xs)
  where
    last : {X : Type 0} (ys : List X) (y : X) → length (ys ++ (y ∷ [])) ≡ suc (length ys)
    last [] y = refl
    last (z ∷ zs) y = ap suc (last zs y)

-- ---- what a step asks for

pub rows-fit : (goal : Goal) (steps : List Step) (rows : List Row) (atoms : List TermTree) → ComesTo goal steps (reverse rows) atoms → list_all row_fits rows ≡ true
rows-fit goal steps rows atoms c = ap (list_all row_fits) (sym (twice-reversed rows)) ∙ fit-reversed (reverse rows) c.fit

pub has-operands : (goal : Goal) (next : Step) (steps : List Step) (rows : List Row) (atoms : List TermTree) → ComesTo goal (next ∷ steps) (reverse rows) atoms → HasOperands next rows
has-operands goal (step.Term t) steps rows atoms c = tt
has-operands goal (step.Apply o) steps rows atoms c = subst (λ n. operands o ≤ n) (length-reversed rows) (enough-rows goal o steps (reverse rows) atoms c)

-- ---- less is left

size-up : (n : ℕ) → 0 < 1 + n
size-up n = omega arith

one-up : 0 < 1
one-up = omega arith

term-up : (t : TermTree) → 0 < term_size t
term-up (number z) = one-up
term-up (name x) = one-up
term-up (plus t u) = size-up (term_size t + term_size u)
term-up (minus t u) = size-up (term_size t + term_size u)
term-up (times t u) = size-up (term_size t + term_size u)
term-up (divided t u) = size-up (term_size t + term_size u)
term-up (remainder t u) = size-up (term_size t + term_size u)
term-up (read a i) = size-up (array_size a + term_size i)
term-up (truth f) = size-up (form_size f)

less-none : (n w : ℕ) → 0 < n → w < 2 * n + w
less-none n w h = omega arith

less-two : (a b w : ℕ) → 2 * a + (2 * b + (1 + w)) < 2 * (1 + (a + b)) + w
less-two a b w = omega arith

less-first : (a b w : ℕ) → 2 * a + (1 + w) < 2 * (1 + (a + b)) + w
less-first a b w = omega arith

less-second : (a b w : ℕ) → 2 * b + (1 + w) < 2 * (1 + (a + b)) + w
less-second a b w = omega arith

product-less : (t u : TermTree) (p q : Option ℤ) (steps : List Step) → work (opened_steps (product_shape p q t u) steps) < 2 * (1 + (term_size t + term_size u)) + work steps
unfolding work
product-less t u (Some z) q steps = less-second (term_size t) (term_size u) (work steps)
product-less t u None (Some z) steps = less-first (term_size t) (term_size u) (work steps)
product-less t u None None steps = less-none (1 + (term_size t + term_size u)) (work steps) (size-up (term_size t + term_size u))

opened-less : (t : TermTree) (steps : List Step) → work (opened_steps (shape_of t) steps) < work (step.Term t ∷ steps)
unfolding work
opened-less (plus t u) steps = less-two (term_size t) (term_size u) (work steps)
opened-less (minus t u) steps = less-two (term_size t) (term_size u) (work steps)
opened-less (times t u) steps = product-less t u (literal_of t) (literal_of u) steps
opened-less (number z) steps = less-none 1 (work steps) one-up
opened-less (name x) steps = less-none 1 (work steps) one-up
opened-less (divided t u) steps = less-none (1 + (term_size t + term_size u)) (work steps) (size-up (term_size t + term_size u))
opened-less (remainder t u) steps = less-none (1 + (term_size t + term_size u)) (work steps) (size-up (term_size t + term_size u))
opened-less (read a i) steps = less-none (1 + (array_size a + term_size i)) (work steps) (size-up (array_size a + term_size i))
opened-less (truth f) steps = less-none (1 + form_size f) (work steps) (size-up (form_size f))

pub term-less : (t : TermTree) (steps more : List Step) → more ≡ opened_steps (shape_of t) steps → work more < work (step.Term t ∷ steps)
term-less t steps more e = subst (λ l. work l < work (step.Term t ∷ steps)) (sym e) (opened-less t steps)

pub operation-less : (o : Operation) (steps : List Step) → work steps < work (step.Apply o ∷ steps)
unfolding work
operation-less o steps = omega arith

-- ---- the end

pub at-end : (goal : Goal) (rows rest : List Row) (row : Row) (atoms : List TermTree) → ComesTo goal [] (reverse rows) atoms → reverse rows ≡ row ∷ rest → IsMade goal row atoms
unfolding sum_after are_small_after atoms_after
at-end goal rows rest row atoms c is = go c.sums (subst (λ l. AllZip (IsSumRow atoms) c.sums l) is c.stand) (and_left (row_fits row) (list_all row_fits rest) (ap (list_all row_fits) (sym is) ∙ c.fit)) c.sum c.small c.numbered
  where
    go : (sums : List Sum) → AllZip (IsSumRow atoms) sums (row ∷ rest) → row_fits row ≡ true → sum_after [] sums ≡ Some goal.sum → true ≡ goal.small → atoms ≡ goal.atoms → IsMade goal row atoms
    go [] stand fit sum small numbered = absurd stand
    go (s ∷ []) stand fit sum small numbered = record { is_row = subst (λ r. IsSumRow atoms r row) (same_Some s goal.sum sum) stand.0; fits = fit; small = sym small; atoms_are = numbered }
    go (s ∷ r ∷ ss) stand fit sum small numbered = absurd cc

pub some-row : (goal : Goal) (rows : List Row) (atoms : List TermTree) → ComesTo goal [] (reverse rows) atoms → 1 ≤ length rows
unfolding sum_after
some-row goal rows atoms c = subst (λ n. 1 ≤ n) (length-reversed rows) (go c.sums (reverse rows) c.stand c.sum)
  where
    go : (sums : List Sum) (rows : List Row) → AllZip (IsSumRow atoms) sums rows → sum_after [] sums ≡ Some goal.sum → 1 ≤ length rows
    go [] rows stand sum = absurd cc
    go (s ∷ sums) [] stand sum = absurd stand
    go (s ∷ sums) (row ∷ rest) stand sum = omega arith

-- ---- answers

pub on-ok : {P : Type 0} (result : Result (Unit {0}) RowFail) → P → OnOk result P
on-ok (Ok u) p = p
on-ok (Err fail) p = tt

pub opened-smaller : (t : TermTree) (steps more : List Step) (rows done : List Row) (atoms numbered : List TermTree) (result : Result (Unit {0}) RowFail)
    → IsOpened (shape_of t) t steps rows atoms result more done numbered → OnOk result (work more < work (step.Term t ∷ steps))
opened-smaller t steps more rows done atoms numbered (Ok u) h = term-less t steps more h.steps_are
opened-smaller t steps more rows done atoms numbered (Err fail) h = tt

pub popped : {X : Type 0} (old new : List X) (x : X) → old ≡ new ++ (x ∷ []) → reverse old ≡ x ∷ reverse new
popped old new x e = ap reverse e ∙ reverse-append new (x ∷ [])

pub fails-alike : (goal : Goal) (fail : RowFail) (steps : List Step) (rows : List Row) (atoms : List TermTree) → GoesOn goal (Err fail) steps rows atoms → Makes goal (Err fail) atoms
fails-alike goal Wide steps rows atoms h = h
fails-alike goal NoMemory steps rows atoms h = tt

pub fails-same : (goal : Goal) (fail : RowFail) (steps more : List Step) (rows done : List Row) (atoms numbered : List TermTree) → GoesOn goal (Err fail) steps rows atoms → GoesOn goal (Err fail) more done numbered
fails-same goal Wide steps more rows done atoms numbered h = h
fails-same goal NoMemory steps more rows done atoms numbered h = tt
