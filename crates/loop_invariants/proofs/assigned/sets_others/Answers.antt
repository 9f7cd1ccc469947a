use Rattle.std.proofs.Common.{◌≡◌, map, ap, ◌∙◌}
use Rattle.c_lang.specs.Trees.{statements, statement_of}
use Rattle.loop_invariants.specs.SetNames.{sets_in}
use Rattle.loop_invariants.specs.Code.Listing.{some_missing, context_by}
use Rattle.loop_invariants.specs.declared.assigned.Listing.{Listing}
use Rattle.loop_invariants.proofs.ListingLaws.{others_is}
use Rattle.loop_invariants.proofs.assigned.sets_others.Goals as goal

pub returns : goal.returns
returns c values =
    let listing : Listing = record { names = c.args.names; hints = c.args.hints; values = c.args.values; listed = c.in_ok-set_of.field-0 } in
    let body : c.as_slice.result.now ≡ c.args.func.now.body = c.as_slice.ensures in
    c.misses_set_in.ensures ∙ ap (λ ss. some_missing listing (sets_in (context_by listing) (statements (map statement_of ss)))) body
    ∙ others_is listing c.args.listed.now c.args.func.now c.in_ok-set_of.ensures values
