use Rattle.std.proofs.Common.{◌∙◌, ap, get_or, map, replicate}
use Rattle.ndarray.specs.Matrices.{values_below}
use Rattle.ndarray.proofs.sums.RowSums.{pushed-last, values-alike}
use Rattle.ndarray.proofs.linalg.row_sums.push_by_rows.Goals as goal

pub add_rows-requires-clause-zeros : goal.add_rows-requires-clause-zeros
add_rows-requires-clause-zeros g c κs within =
    let v = g.A.Valued in
    let columns = ap (λ k. get_or k 1 0) (c.into_pattern-columns.ensures ∙ c.raw_dim.ensures.lengths) in
    let zero = g.A.Zero.zero in
    ap (map v.meaning) (pushed-last c.args.sums.now.items (replicate c.into_pattern-columns.result.1 zero) c.deref_mut.result.now c.len-before.result (c.len-before.ensures ∙ c.args.sums.now.ok.0) (c.deref_mut.ensures.value ∙ c.push_zeros.ensures.items))
    ∙ (values-alike v.meaning zero v.addition.unit c.into_pattern-columns.result.1 g.met.A.SumElem.zero_meaning
    ∙ ap (λ n. values_below n (λ _. v.addition.unit)) columns)
