use Rattle.std.proofs.Common.{◌≡◌, ◌∙◌, ◌<◌, ◌^◌, pos, ap, sym, subst}
use Rattle.std.specs.Prelude.{unsigned_abs}
use Rattle.std.specs.Int.{w128}
use Rattle.std.proofs.lemmas.Int.{fits_signed_from_abs, to_z_pos, to_z-of_z}
use Rattle.cert_checker.proofs.SizeLaws.{small-size}
use Rattle.cert_checker.proofs.divide.size.Goals as goal

pub overflow_cast-result : goal.overflow_cast-result
overflow_cast-result c =
    let value : c.unsigned_abs.result ≡ unsigned_abs c.args.by = c.unsigned_abs.ensures.value ∙ ap unsigned_abs (to_z-of_z w128 c.args.by c.ranges.by) in
    fits_signed_from_abs w128 (pos c.unsigned_abs.result) (subst (λ n. n < 2 ^ 127) (sym value) (small-size c.args.by c.requires))

pub returns : goal.returns
returns c =
    let value : c.unsigned_abs.result ≡ unsigned_abs c.args.by = c.unsigned_abs.ensures.value ∙ ap unsigned_abs (to_z-of_z w128 c.args.by c.ranges.by) in
    to_z_pos w128 c.unsigned_abs.result (subst (λ n. n < 2 ^ 127) (sym value) (small-size c.args.by c.requires)) ∙ ap pos value
