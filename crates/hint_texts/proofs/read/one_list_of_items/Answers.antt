use Rattle.name_tables.specs.Declarations.{function_number}
use Rattle.hint_texts.proofs.TextLaws.{one_list}
use Rattle.hint_texts.proofs.read.one_list_of_items.Goals as goal

pub returns : goal.returns
returns c = λ p text some other h k. one_list (function_number p) text some other h k
