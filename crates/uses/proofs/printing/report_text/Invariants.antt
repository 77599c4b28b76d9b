-- The text, with the rows and sums to come, is that of all rows.
use Rattle.ndarray.proofs.Common.{◌≡◌, ◌++◌, zip, flat_map, string_bytes, lanes_of}
use Rattle.uses.specs.Printing.{sum_text}
use Rattle.uses.proofs.printing.report_text.Given as goal

abbrev pub invariant-loop-row : goal.invariant-loop-row
invariant-loop-row l =
    string_bytes l.text ++ flat_map (λ p. sum_text p.0.cells p.1) (zip l.row-iterator.a l.row-iterator.b) ≡ flat_map (λ p. sum_text p.0.cells p.1) (zip (lanes_of l.table 1).cells l.rows.cells)
