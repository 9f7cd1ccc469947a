-- The text of an expression, with brackets only where grouping needs them.
use Rattle.std.specs.Prelude.{ℕ, ◌+◌, if◌then◌else◌, nat_lt, List, [], ◌∷◌, ◌++◌, codes}
use Rattle.std.specs.Fmt.{signed_decimal}
use Rattle.c_lang.specs.Names.{Bytes}
use Rattle.c_lang.specs.Operators.{level, operator_text}
use Rattle.c_lang.specs.Trees.{Expression, literal, variable, element, function, null, negation, logical_not, binary}

-- how tightly the outermost operator binds; 7 where there is none, or a unary one
abbrev pub binds : Expression → ℕ
binds (binary o a b) = level o
binds _ = 7

-- a space keeps two signs apart
abbrev pub gap : Expression → Bytes
gap (negation e) = codes " "
gap _ = []

-- in brackets where it binds less tightly than its place asks
abbrev pub in_place : ℕ → ℕ → Bytes → Bytes
in_place least binding text = if nat_lt binding least then codes "(" ++ (text ++ codes ")") else text

abbrev pub expression_text : Expression → Bytes
expression_text (literal z) = signed_decimal z
expression_text (variable x) = x
expression_text (element a i) = a ++ (codes "[" ++ (expression_text i ++ codes "]"))
expression_text (function f) = f
expression_text null = codes "0"
expression_text (negation e) = codes "-" ++ (gap e ++ in_place 7 (binds e) (expression_text e))
expression_text (logical_not e) = codes "!" ++ in_place 7 (binds e) (expression_text e)
expression_text (binary o a b) =
    in_place (level o) (binds a) (expression_text a)
    ++ (codes " " ++ (operator_text o ++ (codes " " ++ in_place (level o + 1) (binds b) (expression_text b))))

-- what stands behind the first of some texts: a comma, a space and the next one
abbrev pub more_expressions : List Expression → Bytes
more_expressions [] = []
more_expressions (e ∷ es) = codes ", " ++ (expression_text e ++ more_expressions es)

abbrev pub expressions_text : List Expression → Bytes
expressions_text [] = []
expressions_text (e ∷ es) = expression_text e ++ more_expressions es
