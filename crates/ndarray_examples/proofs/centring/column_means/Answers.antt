use Rattle.ndarray.proofs.Common.{rules, ints, arith, ◌≡◌, ◌∙◌, int_div, int_sums, pos, slice_index, to_z, total, w64, mapped-array_by}
use Rattle.ndarray_examples.proofs.centring.column_means.Goals as goal

pub returns-clause-means : goal.returns-clause-means
returns-clause-means g c =
    let sums = c.in_ok-sums.ensures.values (λ column. total int_sums column.cells) (λ column z e. e) in
    let rows : to_z w64 c.nrows.result ≡ pos (slice_index c.args.table.now.lengths 0) = omega (arith, ints) in
    c.in_ok-mapv.ensures.values (λ sum. int_div sum (to_z w64 c.nrows.result)) (λ x r call. search (rules, call)) ∙ rw (sums, rows) (mapped-array_by _ _ _)
