use Rattle.std.proofs.Common.{rules, ◌≡◌, ap, ◌∙◌}
use Rattle.std.specs.List.{list_any}
use Rattle.c_lang.specs.declared.program.GlobalVar.{GlobalVar}
use Rattle.loop_invariants.specs.Code.Listing.{is_missing}
use Rattle.loop_invariants.proofs.ListingLaws.{some_global}
use Rattle.loop_invariants.proofs.assigned.Listing.misses_global.Goals as goal

pub returns : goal.returns
returns c =
    let all : c.as_slice.result.now ≡ c.args.self.now.names.now.globals = search rules in
    c.misses_some_global.ensures ∙ ap (list_any (λ (g : GlobalVar). is_missing c.args.self.now g.name)) all ∙ some_global c.args.self.now
