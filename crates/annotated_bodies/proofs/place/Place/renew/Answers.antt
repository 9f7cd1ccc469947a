use Rattle.std.proofs.Common.{map, ap, ◌∙◌}
use Rattle.annotated_bodies.specs.Sources.{names_in}
use Rattle.annotated_bodies.specs.Code.Given.{seen_fresh}
use Rattle.annotated_bodies.proofs.PlaceLaws.{renewed_is}
use Rattle.annotated_bodies.proofs.place.Place.renew.Goals as goal

pub returns : goal.returns
returns c = renewed_is c.args.self.now.loops c.args.self.now.counts c.put_all.new.counts
    (map seen_fresh c.deref.result.now) (names_in c.args.bases.now)
    (ap (map seen_fresh) c.deref.ensures.value ∙ c.in_ok-names.ensures) c.in_ok-put_all.ensures
