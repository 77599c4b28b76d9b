use Rattle.std.proofs.Common.{◌∙◌, ◌<◌, subst, sym}
use Rattle.std.specs.Prelude.{All}
use Rattle.ndarray.proofs.lists.AxisOrders.{order-all, order-length}
use Rattle.ndarray.proofs.base.layout.Layout.permuted.Goals as goal

pub chosen-requires-clause-as_many : goal.chosen-requires-clause-as_many
chosen-requires-clause-as_many g c = order-length _ _ c.requires.axes

pub chosen-requires-clause-within : goal.chosen-requires-clause-within
chosen-requires-clause-within g c = order-all _ _ c.requires.axes

pub chosen-requires-2-clause-as_many : goal.chosen-requires-2-clause-as_many
chosen-requires-2-clause-as_many g c = order-length _ _ c.requires.axes ∙ sym c.requires.as_many

pub chosen-requires-2-clause-within : goal.chosen-requires-2-clause-within
chosen-requires-2-clause-within g c = subst (λ n. All (λ k. k < n) (g.D.Lengths.numbers c.args.axes.now)) (sym c.requires.as_many) (order-all _ _ c.requires.axes)
