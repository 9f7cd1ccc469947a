-- What the operations of terms are worth.
use Rattle.std.specs.Prelude.{ℤ, ◌+ℤ◌, ◌-ℤ◌, ◌*ℤ◌, if◌then◌else◌}
use Rattle.std.specs.Ordering.{int_eq}
use Rattle.terms.specs.declared.evaluate.Operation.{Operation}
use Rattle.terms.specs.declared.evaluate.Operation.TheVariants as operation
use Rattle.terms.specs.Truth.{quotient_of, remainder_of}

unfoldable pub worth : Operation → ℤ → ℤ → ℤ
worth operation.Sum a b = a +ℤ b
worth operation.Difference a b = a -ℤ b
worth operation.Product a b = a *ℤ b
worth operation.Quotient a b = quotient_of a b
worth operation.Remainder a b = remainder_of a b

-- what an array holds at index k behind the storing of a value, where it held `before`
unfoldable pub written : ℤ → ℤ → ℤ → ℤ → ℤ
written k before index value = if int_eq index k then value else before
