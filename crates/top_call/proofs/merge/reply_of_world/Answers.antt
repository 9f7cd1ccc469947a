use Rattle.std.proofs.Common.{inr, refl}
use Rattle.update_semantics.specs.Worlds.{world_of}
use Rattle.top_call.specs.Seen.{seen_merge}
use Rattle.top_call.proofs.MergedTextLemmas.{is-merged-text}
use Rattle.top_call.proofs.merge.reply_of_world.Goals as goal

pub returns : goal.returns
returns c = λ ts is.
    inr (
      c.in_ok-print.field-0.items,
      is-merged-text (seen_merge c.args.request.now).points ts c.in_ok-print.field-0.items (world_of c.args.world.now) c.in_ok-merged.merged
          is c.in_ok-print.ensures.checked c.in_ok-merged.ensures.shows,
      refl,
    )
