use Rattle.std.proofs.Common.{◌∙◌, ap, length, refl}
use Rattle.ndarray.specs.order.Rows.{some_unless_none}
use Rattle.ndarray.proofs.runs.OneAxisProducers.{YieldsInTurn-one_axis}
use Rattle.ndarray.proofs.runs.Rows.{RowsInTurn-one}
use Rattle.ndarray.proofs.zip.subviews.AxisIterNdProducer.into_rows.Goals as goal

pub returns-clause-gives : goal.returns-clause-gives
returns-clause-gives g c =
    let all = c.args.self in
    RowsInTurn-one _ c.args._order (length all) _ all (YieldsInTurn-one_axis (λ x. x) (λ rest. rest) c.args._order all refl) (c.rows_of_axis.ensures ∙ ap (λ n. some_unless_none n all) c.bounded_len-len.ensures.value)
