use Rattle.std.proofs.Common.{◌∙◌, ap, subst, sym}
use Rattle.ndarray.specs.Sums.{IsSummable, total}
use Rattle.ndarray.proofs.cells.Matrices.{row-values, vector-values}
use Rattle.ndarray.proofs.sums.InnerSums.{lists-meet}
use Rattle.ndarray.proofs.linalg.inner.RowsByVectorEntriesUsize.entry.Goals as goal

pub inner-requires-clause-same : goal.inner-requires-clause-same
inner-requires-clause-same g c κs within =
    let v = g.A.Valued in
    let meet = lists-meet v.multiplication v.meaning c.index_axis.result.cells c.args.self.now.right.cells _ _ _ _
    (row-values v.meaning v.addition.unit c.args.self.now.left c.index_axis.result c.requires.1 c.index_axis.ensures.whole c.args.at c.index_axis.ensures.value)
    (vector-values v.meaning v.addition.unit c.args.self.now.right c.requires.3 c.requires.2) c.requires.0.inner in
    meet.1

pub inner-requires-clause-sums : goal.inner-requires-clause-sums
inner-requires-clause-sums g c κs within =
    let v = g.A.Valued in
    let meet = lists-meet v.multiplication v.meaning c.index_axis.result.cells c.args.self.now.right.cells _ _ _ _
    (row-values v.meaning v.addition.unit c.args.self.now.left c.index_axis.result c.requires.1 c.index_axis.ensures.whole c.args.at c.index_axis.ensures.value)
    (vector-values v.meaning v.addition.unit c.args.self.now.right c.requires.3 c.requires.2) c.requires.0.inner in
    subst (IsSummable v.addition v.InRange) (sym meet.0) c.requires.0.sums

pub returns : goal.returns
returns g c =
    let v = g.A.Valued in
    let meet = lists-meet v.multiplication v.meaning c.index_axis.result.cells c.args.self.now.right.cells _ _ _ _
    (row-values v.meaning v.addition.unit c.args.self.now.left c.index_axis.result c.requires.1 c.index_axis.ensures.whole c.args.at c.index_axis.ensures.value)
    (vector-values v.meaning v.addition.unit c.args.self.now.right c.requires.3 c.requires.2) c.requires.0.inner in
    c.inner.ensures ∙ ap (total v.addition) meet.0
