use Rattle.ndarray.proofs.Common.{rules, ◌≡◌, ◌∙◌, ap, int_sums, total, cells-transposed}
use Rattle.ndarray_examples.proofs.laws.sum_by_columns.Goals as goal

pub returns-then-sums_fit-clause-sum : goal.returns-then-sums_fit-clause-sum
returns-then-sums_fit-clause-sum g c =
    let a = c.args.array.now in
    let same : total int_sums c.t-columns.result.cells ≡ total int_sums a.cells =
    ap (λ v. total int_sums v.cells) c.t-columns.ensures.value ∙ (ap (total int_sums) (cells-transposed a) ∙ c.column_order.ensures.cells a c.raw_dim-lengths.ensures.whole) in
    let sum : c.sum.result ≡ total int_sums a.cells = c.sum.ensures ∙ same in
    search (rules, sum)
