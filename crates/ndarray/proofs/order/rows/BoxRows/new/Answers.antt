use Rattle.std.proofs.Common.{sym, ap, subst, ◌∙◌, set}
use Rattle.ndarray.specs.Limits.{IsWithinLimit}
use Rattle.ndarray.specs.order.Rows.{one_if_some}
use Rattle.ndarray.proofs.boxes.Rows.{firsts-limit}
use Rattle.ndarray.proofs.order.rows.BoxRows.new.Goals as goal

pub new-requires-2 : goal.new-requires-2
new-requires-2 g c =
    let ns = g.D.Lengths.numbers c.args.dim in
    subst IsWithinLimit (sym (c.set_axis.ensures ∙ ap (λ v. set ns c.axis_at-axis.result v) (c.one_if_some.ensures ∙ ap one_if_some c.axis-count.ensures))) (firsts-limit ns c.axis_at-axis.result c.requires)
