use Rattle.ndarray.proofs.Common.{AllByRecursion, axis_items, map, ◌++◌, ◌≡◌}
use Rattle.ndarray_examples.specs.Callers.{AreSumsInRange, sum_of}
use Rattle.ndarray_examples.proofs.tables.list_row_sums.Given as goal

abbrev pub invariant-loop-row : goal.invariant-loop-row
invariant-loop-row g l = (l.sums.items ++ map sum_of l.row-iterator ≡ map sum_of (axis_items l.table 0)) × AllByRecursion AreSumsInRange l.row-iterator
