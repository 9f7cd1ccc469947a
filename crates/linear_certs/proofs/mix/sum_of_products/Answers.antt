use Rattle.std.proofs.Common.{◌∙◌, ◌≤◌, ◌^◌, ◌+ℤ◌, ◌*ℤ◌, ap, arith, sym, subst, to_z, of_z, FitsSigned}
use Rattle.std.specs.Prelude.{unsigned_abs}
use Rattle.std.specs.Int.{w128}
use Rattle.linear_certs.proofs.HalfLaws.{made-products, products-small, fits-128, read}
use Rattle.linear_certs.proofs.mix.sum_of_products.Goals as goal

pub overflow_add-result : goal.overflow_add-result
overflow_add-result c =
    let h = c.requires in
    subst (FitsSigned w128) (sym (made-products c.args.a c.args.b c.args.c c.args.d h.a h.b h.c h.d))
    (fits-128 (c.args.a *ℤ c.args.b +ℤ c.args.c *ℤ c.args.d) (2 ^ 101) (products-small c.args.a c.args.b c.args.c c.args.d h.a h.b h.c h.d) (omega arith))

pub returns-clause-value : goal.returns-clause-value
returns-clause-value c =
    let h = c.requires in
    ap (λ z. to_z w128 (of_z w128 z)) (made-products c.args.a c.args.b c.args.c c.args.d h.a h.b h.c h.d)
    ∙ read (c.args.a *ℤ c.args.b +ℤ c.args.c *ℤ c.args.d) (2 ^ 101) (products-small c.args.a c.args.b c.args.c c.args.d h.a h.b h.c h.d) (omega arith)

pub returns-clause-small : goal.returns-clause-small
returns-clause-small c =
    let h = c.requires in
    subst (λ z. unsigned_abs z ≤ 2 ^ 101) (sym (ap (λ z. to_z w128 (of_z w128 z)) (made-products c.args.a c.args.b c.args.c c.args.d h.a h.b h.c h.d)
    ∙ read (c.args.a *ℤ c.args.b +ℤ c.args.c *ℤ c.args.d) (2 ^ 101) (products-small c.args.a c.args.b c.args.c c.args.d h.a h.b h.c h.d) (omega arith)))
    (products-small c.args.a c.args.b c.args.c c.args.d h.a h.b h.c h.d)
