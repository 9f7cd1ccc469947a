-- The binary operators: how tightly they bind, from `||` with 1 to `*` with 6, and their texts.
use Rattle.std.specs.Prelude.{ℕ, codes}
use Rattle.c_lang.specs.Names.{Bytes}
use Rattle.c_lang.specs.declared.expr.Op.{Op}
use Rattle.c_lang.specs.declared.expr.Op.TheVariants as op

abbrev pub level : Op → ℕ
level op.Or = 1
level op.And = 2
level op.Eq = 3
level op.Ne = 3
level op.Lt = 4
level op.Le = 4
level op.Gt = 4
level op.Ge = 4
level op.Add = 5
level op.Sub = 5
level op.Mul = 6
level op.Div = 6
level op.Rem = 6

abbrev pub operator_text : Op → Bytes
operator_text op.Or = codes "||"
operator_text op.And = codes "&&"
operator_text op.Eq = codes "=="
operator_text op.Ne = codes "!="
operator_text op.Lt = codes "<"
operator_text op.Le = codes "<="
operator_text op.Gt = codes ">"
operator_text op.Ge = codes ">="
operator_text op.Add = codes "+"
operator_text op.Sub = codes "-"
operator_text op.Mul = codes "*"
operator_text op.Div = codes "/"
operator_text op.Rem = codes "%"
