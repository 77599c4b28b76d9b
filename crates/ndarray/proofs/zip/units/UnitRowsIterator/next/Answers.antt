use Rattle.std.proofs.Common.{◌∙◌, ◌∷◌, ap, length, map, sym}
use Rattle.ndarray.proofs.strides.Rows.{length-row_from}
use Rattle.ndarray.proofs.zip.units.UnitRowsIterator.next.Goals as goal

pub returns-clause-steps : goal.returns-clause-steps
returns-clause-steps g c =
    ap (λ r. r.rows) (sym c.self.view_is)
    ∙ (ap (map length) c.in-Some.ensures ∙ ap (λ n. n ∷ map length c.next.new.self) (length-row_from _ _ c.in-Some.row.count ∙ sym c.repeat_n.ensures.count))
