-- Items are the statements that they were put together from.
use Rattle.std.proofs.Common.{◌≡◌, ℕ, ◌≤◌, List, [], ◌∷◌, ◌++◌, map, length, Option, Some, None, refl, sym, ap, ◌∙◌, append_assoc, append-nil}
use Rattle.std.proofs.lemmas.List.{map-append}
use Rattle.c_lang.specs.Names.{Bytes}
use Rattle.hint_texts.specs.declared.fault.Fault.{Fault}
use Rattle.hint_texts.specs.declared.fault.Fault.TheVariants as fault
use Rattle.hint_texts.specs.declared.token.Token.{Token}
use Rattle.hint_texts.specs.declared.hints.Clause.{Clause}
use Rattle.hint_texts.specs.declared.hints.Head.{Head}
use Rattle.hint_texts.specs.declared.hints.Item.{Item}
use Rattle.hint_texts.specs.declared.hints.Statement.{Statement}
use Rattle.hint_texts.specs.declared.hints.Statement.TheVariants as statement
use Rattle.hint_texts.specs.Texts.{statements_of}
use Rattle.hint_texts.specs.Code.Reading.{begun, with_clause, statements_in, CannotStand, group, without_clauses, grouped, statement_at}
use Rattle.hint_texts.specs.Code.Runs.{Fails}
use Rattle.hint_texts.proofs.Turns.{IsLeft, stops}

pub statements_append : (items more : List Item) → statements_in (items ++ more) ≡ statements_in items ++ statements_in more
statements_append [] more = refl
statements_append (item ∷ items) more =
    ap (λ (x : List Statement). statements_of item ++ x) (statements_append items more) ∙ sym (append_assoc (statements_of item) (statements_in items) (statements_in more))

pub begin_added : (items : List Item) (line : ℕ) (h : Head) → statements_in (items ++ begun line h ∷ []) ≡ statements_in items ++ statement.Begins line h ∷ []
begin_added items line h = statements_append items (begun line h ∷ [])

one_item : (item : Item) → statements_in (item ∷ []) ≡ statements_of item
one_item item = append-nil (statements_of item)

pub clause_added : (items : List Item) (item : Item) (c : Clause) → statements_in (items ++ with_clause item c ∷ []) ≡ statements_in (items ++ item ∷ []) ++ statement.Says c ∷ []
clause_added items item c =
    let last : statements_in (with_clause item c ∷ []) ≡ statements_of item ++ statement.Says c ∷ [] =
    one_item (with_clause item c) ∙ ap (λ (x : List Statement). statement.Begins item.line item.head ∷ x) (map-append statement.Says item.clauses (c ∷ [])) in
    statements_append items (with_clause item c ∷ [])
    ∙ ap (λ (x : List Statement). statements_in items ++ x) last
    ∙ sym (append_assoc (statements_in items) (statements_of item) (statement.Says c ∷ []))
    ∙ ap (λ (x : List Statement). x ++ statement.Says c ∷ []) (sym (statements_append items (item ∷ []) ∙ ap (λ (x : List Statement). statements_in items ++ x) (one_item item)))

-- ---- items are got back from their statements

group_clauses : (cs : List Clause) (ss : List Statement) → group (map statement.Says cs ++ ss) ≡ (cs ++ (group ss).0, (group ss).1)
group_clauses [] ss = refl
group_clauses (c ∷ cs) ss = rw (group_clauses cs ss) refl

pub group_back : (items : List Item) → group (statements_in items) ≡ ([], items)
group_back [] = refl
group_back (item ∷ items) = rw (group_clauses item.clauses (statements_in items), group_back items, append-nil item.clauses) refl

pub grouped_back : (items : List Item) → grouped (statements_in items) ≡ Some items
grouped_back items = ap without_clauses (group_back items)

pub clause_first : (c : Clause) (ss : List Statement) → grouped (statement.Says c ∷ ss) ≡ None
clause_first c ss = refl

-- what is grouped is the items' statements
group_is : (ss : List Statement) → map statement.Says (group ss).0 ++ statements_in (group ss).1 ≡ ss
group_is [] = refl
group_is (statement.Says c ∷ ss) = ap (λ (x : List Statement). statement.Says c ∷ x) (group_is ss)
group_is (statement.Begins l h ∷ ss) = ap (λ (x : List Statement). statement.Begins l h ∷ x) (group_is ss)

without-is : (x : List Clause × List Item) (items : List Item) → without_clauses x ≡ Some items → x ≡ ([], items)
without-is ([], found) items e = let same : found ≡ items = cc in ap (λ (y : List Item). ([], y)) same
without-is (c ∷ cs, found) items e = absurd cc

pub grouped_is : (ss : List Statement) (items : List Item) → grouped ss ≡ Some items → statements_in items ≡ ss
grouped_is ss items e =
    let p = without-is (group ss) items e in
    sym (ap (λ (x : List Clause × List Item). map statement.Says x.0 ++ statements_in x.1) p) ∙ group_is ss

-- ---- the loop

pub grouped_more : (items more : List Item) (s : Statement) (ss : List Statement) → statements_in more ≡ statements_in items ++ s ∷ [] → grouped (statements_in items ++ s ∷ ss) ≡ grouped (statements_in more ++ ss)
grouped_more items more s ss m = rw m (ap grouped (sym (append_assoc (statements_in items) (s ∷ []) ss)))

pub cannot_stand : (number : Bytes → ℕ) (items : List Item) (s : Statement) (e : Fault) (rest after : List Token) (total : Option (List Item)) → 1 ≤ length rest → statement_at number rest ≡ Some (s, after) → CannotStand items s e
    → IsLeft (statement_at number) (λ ss. grouped (statements_in items ++ ss)) rest total → Fails e total
cannot_stand number items s fault.NoMemory rest after total some read alone left = tt
cannot_stand number items (statement.Begins l h) (fault.NoText line) rest after total some read alone left = absurd alone
cannot_stand number items (statement.Says c) (fault.NoText line) rest after total some read alone left =
    stops (statement_at number) (λ ss. grouped (statements_in items ++ ss)) rest after (statement.Says c) total some read (λ ss. rw alone refl) left

pub all_read : (items : List Item) (total : Option (List Item)) → total ≡ grouped (statements_in items ++ []) → total ≡ Some items
all_read items total e = e ∙ ap grouped (append-nil (statements_in items)) ∙ grouped_back items
