use Rattle.std.proofs.Common.{◌∙◌, string_bytes}
use Rattle.std.proofs.lemmas.Iterator.Consumers.{count_from_yields_List}
use Rattle.ndtables.proofs.TextWords.{words-given}
use Rattle.ndtables.proofs.source.records_given.Goals as goal

pub returns-in-Ok-clause-count : goal.returns-in-Ok-clause-count
returns-in-Ok-clause-count g c = count_from_yields_List c.split_ascii_whitespace.result c.count-count.result c.count-count.ensures.ran (words-given _ (string_bytes c.in-Ok.text) (c.split_ascii_whitespace.ensures.text ∙ c.as_str-in-Ok.ensures.value))
