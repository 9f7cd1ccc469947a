-- The text of an expression is the tokens of a tree of that expression.
use Rattle.std.specs.Prelude.{◌≡◌, ℕ, ℤ, pos, ◌+◌, ◌<◌, ◌≤◌, Bool, true, false, cond, ltb, ◌==◌, [], ◌∷◌, ◌++◌, length, codes}
use Rattle.std.proofs.Common.{refl, sym, ap, ap₂, subst, append_assoc, arith}
use Rattle.std.specs.Fmt.{decimal}
use Rattle.std.specs.List.{list_all}
use Rattle.std.proofs.lemmas.Bool.{ltb-false, lt-ltb}
use Rattle.std.proofs.lemmas.Bool.Decides.{nat_tests}
use Rattle.c_lang.specs.Names.{Bytes, is_digit, is_word, is_letter}
use Rattle.c_lang.specs.Operators.{level}
use Rattle.c_lang.specs.declared.expr.Op.{Op}
use Rattle.c_lang.specs.declared.expr.Op.TheVariants as op
use Rattle.c_lang.specs.declared.expr.Expr.TheVariants as expr
use Rattle.c_lang.specs.Trees.{Expression, literal, variable, element, function, null, negation, logical_not, binary, expr_of}
use Rattle.c_grammar.specs.Bytes.{is_in_word, is_in_number, IsEnd}
use Rattle.c_grammar.specs.declared.piece.Place.{Place}
use Rattle.c_lexer.proofs.Cases.{and_both, or_false}
use Rattle.c_grammar.specs.Tokens.{At}
use Rattle.c_grammar.specs.Expressions.{Tree, IsGrouped}
use Rattle.c_grammar.specs.Expressions as tree
use Rattle.merge_printer.specs.Expressions.{binds, gap, in_place, expression_text}
use Rattle.merge_printer.specs.Heights.{height_in_place, expression_height}
use Rattle.merge_printer.proofs.Chains.{Prints, followed, as_tree, spaced}
use Rattle.merge_printer.proofs.Words.{IsName, IsNot, name_word, number_word, is_number, operator_mark, minus_mark, bang_mark, round_opens, round_closes, square_opens, square_closes}

-- a number that a text can have
abbrev pub IsLiteral : ℤ → Type 0
IsLiteral z = (n : ℕ) × (z ≡ pos n) × (n ≤ 2147483647)

-- an expression that a text can have: its names are no functions, and its numbers have no sign
abbrev pub ExpressionFits : Expression → Type 0
ExpressionFits (literal z) = IsLiteral z
ExpressionFits (variable x) = IsName x
ExpressionFits (element a i) = IsName a × ExpressionFits i
ExpressionFits (function f) = ⊥
ExpressionFits null = ⊥
ExpressionFits (negation e) = ExpressionFits e
ExpressionFits (logical_not e) = ExpressionFits e
ExpressionFits (binary o a b) = ExpressionFits a × ExpressionFits b

-- ---- how a text ends and begins

pub end_of_word : (rest : Bytes) → IsEnd is_in_number rest → IsEnd is_in_word rest
end_of_word [] h = tt
end_of_word (byte ∷ rest) h = (or_false (is_in_word byte) (byte == 46) h).0

-- neither `-` nor `=` begins it
abbrev Starts : Bytes → Type 0
Starts z = IsNot 45 z × IsNot 61 z

word_starts : (x rest : Bytes) → is_word x ≡ true → Starts (x ++ rest)
word_starts [] rest h = absurd cc
word_starts (byte ∷ x) rest h = let first = (and_both (is_letter byte) (list_all is_in_word x) h).0 in (no_minus first, no_equals first)
  where
    no_minus : is_letter byte ≡ true → (byte == 45) ≡ false
    no_minus h = grind (arith, nat_tests)

    no_equals : is_letter byte ≡ true → (byte == 61) ≡ false
    no_equals h = grind (arith, nat_tests)

pub digits_start : (ds rest : Bytes) → list_all is_digit ds ≡ true → 1 ≤ length ds → Starts (ds ++ rest)
digits_start [] rest h some = let never : ⊥ = omega arith in absurd never
digits_start (byte ∷ ds) rest h some = let first = (and_both (is_digit byte) (list_all is_digit ds) h).0 in (no_minus first, no_equals first)
  where
    no_minus : is_digit byte ≡ true → (byte == 45) ≡ false
    no_minus h = grind (arith, nat_tests)

    no_equals : is_digit byte ≡ true → (byte == 61) ≡ false
    no_equals h = grind (arith, nat_tests)

level_small : (o : Op) → level o < 7
level_small op.Or = omega arith
level_small op.And = omega arith
level_small op.Eq = omega arith
level_small op.Ne = omega arith
level_small op.Lt = omega arith
level_small op.Le = omega arith
level_small op.Gt = omega arith
level_small op.Ge = omega arith
level_small op.Add = omega arith
level_small op.Sub = omega arith
level_small op.Mul = omega arith
level_small op.Div = omega arith
level_small op.Rem = omega arith

-- what stands behind a sign
abbrev operand : Expression → Bytes
operand e = in_place 7 (binds e) (expression_text e)

-- a sign's operand can't be taken into the sign
abbrev Stands : Expression → Bytes → Type 0
Stands e rest = IsNot 45 ((gap e ++ operand e) ++ rest) × IsNot 61 (operand e ++ rest)

operand_stands : (e : Expression) (rest : Bytes) → ExpressionFits e → Stands e rest
operand_stands (literal z) rest h =
    let n = is_number h.0 h.2 in
    let starts = digits_start (decimal h.0) rest n.digits n.some in
    subst (λ (z : ℤ). Stands (literal z) rest) (sym h.1) starts
operand_stands (variable x) rest h = word_starts x rest h.0
operand_stands (element a i) rest h =
    let more = codes "[" ++ (expression_text i ++ codes "]") in
    subst (λ (z : Bytes). Starts z) (sym (append_assoc a more rest)) (word_starts a (more ++ rest) h.0.0)
operand_stands (function f) rest h = absurd h
operand_stands null rest h = absurd h
operand_stands (negation e) rest h = (refl, refl)
operand_stands (logical_not e) rest h = (refl, refl)
operand_stands (binary o a b) rest h = rw (lt-ltb (level o) 7 (level_small o)) (refl, refl)

-- ---- trees

pub record IsTreeOf (e : Expression) (t : Tree) : Type 0 where
  pub grouped : IsGrouped t
  pub binds_is : tree.binds t ≡ binds e
  pub program : tree.expr_of t ≡ expr_of e
  pub height_is : tree.height t ≡ expression_height e

record IsOperandOf (least : ℕ) (e : Expression) (t : Tree) : Type 0 where
  grouped : IsGrouped t
  binds_least : least ≤ tree.binds t
  program : tree.expr_of t ≡ expr_of e
  height_is : tree.height t ≡ height_in_place least (binds e) (expression_height e)

abbrev pub PrintsExpression : Expression → Place → Bytes → Type 0
PrintsExpression e p rest = Prints tree.tokens_of (IsTreeOf e) p (expression_text e) rest

-- wherever it stands, if no longer word or number would begin
abbrev pub IsPrinted : Expression → Type 0
IsPrinted e = (p : Place) (rest : Bytes) → IsEnd is_in_number rest → PrintsExpression e p rest

raised : {n m : ℕ} → n ≡ m → n + 1 ≡ m + 1
raised e = ap (λ (n : ℕ). n + 1) e

prints_operand : (least : ℕ) (e : Expression) → least ≤ 7 → IsPrinted e → {p : Place} {rest : Bytes} → IsEnd is_in_number rest
    → Prints tree.tokens_of (IsOperandOf least e) p (in_place least (binds e) (expression_text e)) rest
prints_operand least e le printed {p} {rest} end = by_test (ltb (binds e) least) refl
  where
    by_test : (b : Bool) → ltb (binds e) least ≡ b
        → Prints tree.tokens_of (IsOperandOf least e) p (cond b (codes "(" ++ (expression_text e ++ codes ")")) (expression_text e)) rest
    by_test true test =
        as_tree (λ (x : At × (Tree × At)). tree.brackets x.0 x.1.0 x.1.1) (λ x. refl)
        (λ x is. record { grouped = is.1.0.grouped; binds_least = le; program = is.1.0.program; height_is = rw test (raised is.1.0.height_is) })
        (followed round_opens (followed (printed _ _ refl) round_closes))
    by_test false test =
        as_tree (λ (t : Tree). t) (λ t. refl)
        (λ t is. record { grouped = is.grouped; binds_least = omega (arith, ltb-false _ _ test, is.binds_is); program = is.program; height_is = rw test is.height_is })
        (printed p rest end)

-- a space, where the operand begins with a sign
after_gap : {p : Place} {z rest : Bytes} {Is : Tree → Type 0} (e : Expression) → ((q : Place) → Prints tree.tokens_of Is q z rest) → Prints tree.tokens_of Is p (gap e ++ z) rest
after_gap (literal z) x = x _
after_gap (variable y) x = x _
after_gap (element a i) x = x _
after_gap (function f) x = x _
after_gap null x = x _
after_gap (negation e) x = spaced (x _)
after_gap (logical_not e) x = x _
after_gap (binary o a b) x = x _

pub prints : (e : Expression) → ExpressionFits e → IsPrinted e
prints (literal z) h p rest end =
    subst (λ (z : ℤ). PrintsExpression (literal z) p rest) (sym h.1)
    (as_tree (λ (at : At). tree.number at (pos h.0)) (λ at. refl) (λ at is. record { grouped = tt; binds_is = refl; program = refl; height_is = refl })
    (number_word h.0 h.2 end))
prints (variable x) h p rest end =
    as_tree (λ (at : At). tree.name at x) (λ at. refl) (λ at is. record { grouped = tt; binds_is = refl; program = refl; height_is = refl })
    (name_word h (end_of_word rest end))
prints (element a i) h p rest end =
    as_tree (λ (x : At × (At × (Tree × At))). tree.element x.0 a x.1.0 x.1.1.0 x.1.1.1) (λ x. refl)
    (λ x is. let inner = is.1.1.0 in record { grouped = inner.grouped; binds_is = refl; program = ap (expr.Elem a) inner.program; height_is = raised inner.height_is })
    (followed (name_word h.0 refl) (followed square_opens (followed (prints i h.1 _ _ refl) square_closes)))
prints (function f) h p rest end = absurd h
prints null h p rest end = absurd h
prints (negation e) h p rest end =
    as_tree (λ (x : At × Tree). tree.negation x.0 x.1) (λ x. refl)
    (λ x is. record { grouped = (is.1.binds_least, is.1.grouped); binds_is = refl; program = ap expr.Neg is.1.program; height_is = raised is.1.height_is })
    (followed (minus_mark (operand_stands e rest h).0) (after_gap e (λ q. prints_operand 7 e (omega arith) (prints e h) end)))
prints (logical_not e) h p rest end =
    as_tree (λ (x : At × Tree). tree.logical_not x.0 x.1) (λ x. refl)
    (λ x is. record { grouped = (is.1.binds_least, is.1.grouped); binds_is = refl; program = ap expr.Not is.1.program; height_is = raised is.1.height_is })
    (followed (bang_mark (operand_stands e rest h).1) (prints_operand 7 e (omega arith) (prints e h) end))
prints (binary o a b) h p rest end =
    as_tree (λ (x : Tree × (At × Tree)). tree.joined x.0 x.1.0 o x.1.1) (λ x. refl)
    (λ x is. record {
      grouped = (is.0.binds_least, omega (arith, is.1.1.binds_least), is.0.grouped, is.1.1.grouped);
      binds_is = refl;
      program = ap₂ (expr.Bin o) is.0.program is.1.1.program;
      height_is = rw (is.0.height_is, is.1.1.height_is) refl;
    })
    (followed (prints_operand (level o) a (omega (arith, level_small o)) (prints a h.0) refl)
    (spaced (followed (operator_mark o) (spaced (prints_operand (level o + 1) b (omega (arith, level_small o)) (prints b h.1) end)))))
