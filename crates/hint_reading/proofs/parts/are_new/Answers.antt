use Rattle.std.proofs.Common.{rules, ◌≡◌, ◌==◌, false, length, ◌∙◌}
use Rattle.hint_reading.specs.Code.Parts.{seen_parts}
use Rattle.hint_reading.proofs.DemandLaws.{all_new}
use Rattle.hint_reading.proofs.parts.are_new.Goals as goal

pub returns-then-not-is_empty : goal.returns-then-not-is_empty
returns-then-not-is_empty c =
    let some : (length c.args.funcs.now == 0) ≡ false = search rules in
    c.none_has_contract.ensures ∙ all_new (seen_parts c.args.parts.now) c.args.funcs.now some
