use Rattle.std.proofs.Common.{◌≡◌, ◌∙◌, ap, sym, subst, length, false, true, arith}
use Rattle.std.specs.List.{list_all}
use Rattle.linear_rows.specs.Numbers.{fits}
use Rattle.linear_rows.specs.Sums.{row_fits}
use Rattle.linear_certs.specs.Stages.{is_false}
use Rattle.linear_certs.specs.Code.Building.{IsDerived, IsGood}
use Rattle.linear_certs.proofs.DerivedLaws.{combined-derived, combined-good}
use Rattle.linear_certs.proofs.closing.close.Goals as goal

pub returns-then-not-is_false-clause-ok : goal.returns-then-not-is_false-clause-ok
returns-then-not-is_false-clause-ok c =
    let pair = c.requires.pair in
    let is = c.requires.is in
    let true_row : is_false c.args.entry ≡ false = grind (arith, c.if-not-is_false.true, c.is_false.ensures) in (
      is,
      subst (IsGood c.args.rows.now) (sym is) (combined-good c.args.rows.now c.args.atom c.args.upper.now c.args.lower.now pair.upper_good pair.lower_good
          (subst (λ e. row_fits e.row ≡ true) is c.requires.narrow)
          (subst (λ e. list_all fits e.multipliers ≡ true) is c.requires.small)
          (subst (λ e. is_false e ≡ false) is true_row)),
    )

pub sums_fit-requires-clause-count : goal.sums_fit-requires-clause-count
sums_fit-requires-clause-count c =
    let pair = c.requires.pair in
    let derived = combined-derived c.args.rows.now c.args.atom c.args.upper.now c.args.lower.now pair.upper_good.derived pair.lower_good.derived in
    ap length c.as_slice.ensures ∙ ap (λ e. length e.multipliers) c.requires.is ∙ derived.count

pub found-requires-clause-derived : goal.found-requires-clause-derived
found-requires-clause-derived c =
    let pair = c.requires.pair in
    subst (IsDerived c.args.rows.now) (sym c.requires.is) (combined-derived c.args.rows.now c.args.atom c.args.upper.now c.args.lower.now pair.upper_good.derived pair.lower_good.derived)
