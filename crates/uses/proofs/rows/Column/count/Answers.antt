use Rattle.ndarray.proofs.Common.{◌∙◌, ap, sym, count_from_yields_List}
use Rattle.uses.specs.Rows.{columns_of}
use Rattle.uses.proofs.Words.{words-given}
use Rattle.uses.proofs.rows.Column.count.Goals as goal

pub returns-in-Word : goal.returns-in-Word
returns-in-Word c =
    count_from_yields_List c.split_ascii_whitespace.result c.count.result c.count.ensures.ran (words-given _ c.args.row.now c.split_ascii_whitespace.ensures.text)
    ∙ ap (λ k. columns_of k c.args.row.now) (sym c.in-Word.is)
