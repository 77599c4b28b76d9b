use Rattle.std.proofs.Common.{List, ℕ, rules}
use Rattle.ndarray.specs.Convolution.{valid_counts, valid_products}
use Rattle.ndarray.specs.Integers.{int_products, int_sums}
use Rattle.ndarray.specs.Sums.{total}
use Rattle.ndarray.proofs.callers.Elementwise.{array_by-follows}
use Rattle.ndtables.proofs.convolving.valid_convolution.Goals as goal

pub returns-clause-sums : goal.returns-clause-sums
returns-clause-sums c =
    let table = c.args.table.now in
    let kernel = c.args.kernel.now in
    let made = c.in_ok-sums.ensures.made in
    record {
      shape = search rules;
      fits = search rules;
      cells = array_by-follows c.in_ok-sums.sums (valid_counts table.lengths kernel.lengths) (λ (ps : List ℕ). total int_sums (valid_products int_products (λ x. x) table kernel ps)) made.whole made.lengths made.cells;
    }
