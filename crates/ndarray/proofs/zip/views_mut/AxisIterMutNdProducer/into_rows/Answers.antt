use Rattle.std.proofs.Common.{◌≡◌, ◌∙◌, ap, arith, length, refl}
use Rattle.ndarray.specs.Index.{size}
use Rattle.ndarray.specs.order.Rows.{some_unless_none}
use Rattle.ndarray.proofs.runs.OneAxisProducers.{YieldsInTurn-one_axis}
use Rattle.ndarray.proofs.runs.Rows.{RowsInTurn-one}
use Rattle.ndarray.proofs.zip.views_mut.AxisIterMutNdProducer.into_rows.Goals as goal

pub returns-clause-gives : goal.returns-clause-gives
returns-clause-gives g c =
    let all = c.args.self in
    let many = c.size-len.ensures ∙ ap size c.raw_dim.ensures.value in
    let one : c.size-len.result ≡ length all = omega arith in
    RowsInTurn-one _ c.args._order (length all) _ all (YieldsInTurn-one_axis (λ x. x) (λ rest. rest) c.args._order all refl) (c.rows_of_axis.ensures ∙ ap (λ n. some_unless_none n all) one)
