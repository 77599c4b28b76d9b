use Rattle.std.proofs.Common.{sym, ◌∙◌, ap, length}
use Rattle.ndarray.proofs.strides.Rows.{length-indexed_row}
use Rattle.ndarray.proofs.places.indexed_rows.IndexedRow.len.Goals as goal

pub returns : goal.returns
returns g c = sym (length-indexed_row _ _ _ _ _) ∙ ap length c.self.view_is
