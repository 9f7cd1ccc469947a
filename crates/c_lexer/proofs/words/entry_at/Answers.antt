use Rattle.std.proofs.Common.{ℕ, List, [], sym, Bor}
use Rattle.std.proofs.lemmas.List.{get_or-map}
use Rattle.c_lexer.proofs.words.entry_at.Goals as goal

pub returns : goal.returns
returns c = sym (get_or-map (λ (entry : Bor (List ℕ)). entry.now) c.args.table.now c.args.place _ [] c.requires)
