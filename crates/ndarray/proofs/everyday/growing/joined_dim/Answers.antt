use Rattle.std.proofs.Common.{◌≡◌, ◌∙◌, ◌<◌, ap, arith, get_or, length, set, sym, true}
use Rattle.std.proofs.lemmas.List.{length-set}
use Rattle.ndarray.specs.Joining.{is_same_but_along}
use Rattle.ndarray.proofs.boxes.Sizes.{length-fits}
use Rattle.ndarray.proofs.lists.CellLookup.{same_index-true}
use Rattle.ndarray.proofs.everyday.growing.joined_dim.Goals as goal
use Rattle.ndarray.proofs.everyday.growing.joined_dim.Goals.{After-axis}

-- the second has the axis too
second-axis : (g : _) (c : After-axis g) → c.args.axis.0 < length (g.D.Lengths.numbers c.args.second)
second-axis g c =
    let ns = g.D.Lengths.numbers c.args.first in
    let ms = g.D.Lengths.numbers c.args.second in
    let k = c.args.axis.0 in
    let same : is_same_but_along k ns ms ≡ true = ap (is_same_but_along k ns) (sym c.copied.ensures.value) ∙ sym c.if-not-is_same_but_along.ensures in
    let long = ap length (same_index-true ns (set ms k (get_or ns k 0)) same) in
    let kept = length-set ms k (get_or ns k 0) in
    let axes = c.ndim.ensures.value in
    let below = c.if-axis-ndim.false in
    omega (arith, long, kept, axes, below)

pub axis-requires-2 : goal.axis-requires-2
axis-requires-2 g c = second-axis g (goal.at.axis-requires-2 g c).After-axis

pub overflow_add-len : goal.overflow_add-len
overflow_add-len g c =
    let k = c.args.axis.0 in
    let there = second-axis g (goal.at.overflow_add-len g c).After-axis in
    let first = length-fits (g.D.Lengths.numbers c.args.first) k (let axes = c.ndim.ensures.value in let below = c.if-axis-ndim.false in omega (arith, axes, below)) c.requires.first_limit in
    let second = length-fits (g.D.Lengths.numbers c.args.second) k there c.requires.second_limit in
    let one = c.axis.ensures in
    let two = c.axis-2.ensures in
    omega (arith, first, second, one, two)
