use Rattle.top_call.specs.Seen.{seen_texts}
use Rattle.top_call.proofs.merge.merge_reply.Goals as goal

pub returns-clause-reply : goal.returns-clause-reply
returns-clause-reply g c = (seen_texts c.in_ok-texts.texts, c.in_ok-texts.ensures.texts, c.in_ok-reply_to_texts.ensures)
