use Rattle.hint_texts.proofs.read.hints_in.Goals as goal

pub returns : goal.returns
returns c = rw c.in_ok-tokens.ensures (rw (← c.as_slice.ensures.value) c.hints_of.ensures)
