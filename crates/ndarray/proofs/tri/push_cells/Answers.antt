use Rattle.std.proofs.Common.{◌-◌, ap, arith, length}
use Rattle.ndarray.specs.Grid.{cell}
use Rattle.ndarray.specs.base.Ranks.{row_from}
use Rattle.ndarray.proofs.lists.Elements.{length-filter_map-most}
use Rattle.ndarray.proofs.strides.Rows.{length-row_from}
use Rattle.ndarray.proofs.tri.push_cells.Goals as goal

pub push_clones-requires-clause-room : goal.push_clones-requires-clause-room
push_clones-requires-clause-room g c =
    let most = length-filter_map-most (cell c.args.array.now) (row_from (g.D.Lengths.numbers c.set_axis.new.self) (c.ndim-axis.result - 1) c.args.count) in
    let many = length-row_from (g.D.Lengths.numbers c.set_axis.new.self) (c.ndim-axis.result - 1) c.args.count in
    let cells = ap length c.cells_along.ensures in
    let room = c.requires.room in
    omega (arith, most, many, cells, room)
