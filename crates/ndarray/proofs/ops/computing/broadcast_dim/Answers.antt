use Rattle.std.proofs.Common.{length, subst, sym}
use Rattle.ndarray.proofs.views.BroadcastLengths.{length-broadcast}
use Rattle.ndarray.proofs.ops.computing.broadcast_dim.Goals as goal

pub returns-clause-axes : goal.returns-clause-axes
returns-clause-axes g c =
    let ns = c.args.left.now.lengths in
    let ms = c.args.right.now.lengths in
    subst g.D.Output.Lengths.has_axes (sym (length-broadcast ns ms)) (g.met.D.DimMax.larger_has_both (length ns) (length ms) c.raw_dim.ensures.axes c.raw_dim-2.ensures.axes)
