use Rattle.std.proofs.Common.{◌≡◌, ◌∙◌, ap, arith, length, subst, sym}
use Rattle.std.specs.Prelude.{All, filter_map}
use Rattle.ndarray.specs.Index.{InBox}
use Rattle.ndarray.specs.Grid.{cell}
use Rattle.ndarray.specs.base.Ranks.{row_from}
use Rattle.ndarray.specs.base.Storage.{seen_at}
use Rattle.ndarray.proofs.boxes.Boxes.{InBox-length}
use Rattle.ndarray.proofs.strides.Rows.{row-first}
use Rattle.ndarray.proofs.pieces.PieceRows.{row-pieces, row-reach}
use Rattle.ndarray.proofs.subviews.pieces.Pieces.pieces_along.Goals as goal
use Rattle.ndarray.proofs.subviews.pieces.Pieces.pieces_along.Goals.{After-stride}

pub place-requires : goal.place-requires
place-requires g c =
    let m = c.self.invariant.as_many in
    let is = g.P.Lengths.numbers c.args.first.now in
    let b : InBox c.args.self.now.lengths is = row-first (InBox c.args.self.now.lengths) is c.args.axis c.args.count c.requires.some c.requires.within in
    let l = InBox-length c.args.self.now.lengths is b in
    let e = ap (λ v. length v.lengths) c.self.view_is in
    omega arith

-- the positions are in the box, whose strides are as many
within : (g : _) (c : After-stride g) → All (InBox (g.P.Lengths.numbers c.self.inside.positions.dim)) (row_from (g.P.Lengths.numbers c.args.first.now) c.args.axis c.args.count)
within g c = subst (λ ns. All (InBox ns) (row_from (g.P.Lengths.numbers c.args.first.now) c.args.axis c.args.count)) (sym (ap (λ v. v.lengths) c.self.view_is)) c.requires.within

as_many : (g : _) (c : After-stride g) → length (g.P.Lengths.numbers c.self.inside.positions.strides) ≡ length (g.P.Lengths.numbers c.args.first.now)
as_many g c =
    let ps = g.P.Lengths.numbers c.self.inside.positions.dim in
    let m = c.self.invariant.as_many in
    let l = InBox-length ps (g.P.Lengths.numbers c.args.first.now) (row-first (InBox ps) (g.P.Lengths.numbers c.args.first.now) c.args.axis c.args.count c.requires.some (within g c)) in
    omega arith

pub invariant_of-result : goal.invariant_of-result
invariant_of-result g c =
    let t = c.self.inside in
    rw (c.copied.ensures.value, c.copied-2.ensures.value, c.place.ensures, c.stride.ensures)
    (row-reach t.positions.start (g.P.Lengths.numbers t.positions.strides) (g.D.Lengths.numbers t.dim) (g.D.Lengths.numbers t.strides) c.args.axis c.args.count (g.P.Lengths.numbers c.args.first.now) (as_many g (goal.at.invariant_of-result g c).After-stride)
    (seen_at t.storage) (g.P.Lengths.numbers t.positions.dim) (within g (goal.at.invariant_of-result g c).After-stride) c.self.invariant)

pub returns : goal.returns
returns g c =
    let t = c.self.inside in
    rw (c.copied.ensures.value, c.copied-2.ensures.value, c.place.ensures, c.stride.ensures)
    (row-pieces t.positions.start (g.P.Lengths.numbers t.positions.strides) (g.D.Lengths.numbers t.dim) (g.D.Lengths.numbers t.strides) c.args.axis c.args.count (g.P.Lengths.numbers c.args.first.now) (as_many g (goal.at.returns g c).After-stride)
    (seen_at t.storage) (g.P.Lengths.numbers t.positions.dim) (within g (goal.at.returns g c).After-stride)
    ∙ ap (λ v. filter_map (cell v) (row_from (g.P.Lengths.numbers c.args.first.now) c.args.axis c.args.count)) c.self.view_is)
