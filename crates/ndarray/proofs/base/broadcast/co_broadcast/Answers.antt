use Rattle.std.proofs.Common.{◌∙◌, sym, subst}
use Rattle.ndarray.specs.Broadcast.{BroadcastsTo}
use Rattle.ndarray.proofs.lists.Decisions.{from_yes}
use Rattle.ndarray.proofs.views.BroadcastLengths.{broadcasts-itself, lengths-stretched, together-stretched}
use Rattle.ndarray.proofs.base.broadcast.co_broadcast.Goals as goal

pub returns-then-are_equal : goal.returns-then-are_equal
returns-then-are_equal g c =
    let ns = g.D.Lengths.numbers c.args.left.now in
    let ms = g.E.Lengths.numbers c.args.right.now in
    let to : BroadcastsTo ms ns = subst (λ ls. BroadcastsTo ls ns) (from_yes _ c.if-are_equal.ensures) (broadcasts-itself ns) in
    (c.same_numbers.ensures ∙ sym (lengths-stretched ns ms to), together-stretched ns ms to c.requires.limit)
