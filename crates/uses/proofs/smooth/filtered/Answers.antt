use Rattle.ndarray.proofs.Common.{List, array_by-follows, int_products, int_sums, total, valid_counts, valid_products, ℕ}
use Rattle.uses.proofs.smooth.filtered.Goals as goal

pub returns-clause-pixels : goal.returns-clause-pixels
returns-clause-pixels g c =
    let h = c.in_ok-filtered.ensures.made in
    array_by-follows c.in_ok-filtered.filtered (valid_counts c.args.image.now.lengths c.args.kernel.now.lengths) (λ (ps : List ℕ). total int_sums (valid_products int_products (λ x. x) c.args.image.now c.args.kernel.now ps)) h.whole h.lengths h.cells
