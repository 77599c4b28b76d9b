use Rattle.std.proofs.Common.{◌<◌, ◌≤◌, ◌+◌, arith, length, get_or, set, ap, ◌∙◌}
use Rattle.ndarray.specs.base.Places.{Rearranges}
use Rattle.ndarray.specs.base.Storage.{seen_at}
use Rattle.ndarray.proofs.cells.Cells.{array_by-whole}
use Rattle.ndarray.proofs.pieces.Pieces.{some-reach, some-seen}
use Rattle.ndarray.proofs.pieces.SomePieces.{positions-cut}
use Rattle.ndarray.proofs.subviews.pieces.Pieces.part.Goals as goal

kept : (g : _) (c : goal.After-cut g) → Rearranges ⊥ (g.P.Lengths.numbers c.part.inside.positions.dim) c.part.inside.positions.start (g.P.Lengths.numbers c.part.inside.positions.strides) (g.P.Lengths.numbers c.cut.new.self.dim) c.cut.new.self.start (g.P.Lengths.numbers c.cut.new.self.strides) (λ js. set js c.args.axis (c.args.from + get_or js c.args.axis 0))
kept g c =
    let a = c.part.inside.positions in
    let ps = g.P.Lengths.numbers a.dim in
    let seen = ap (λ v. v.lengths) (c.part.view_is ∙ c.again-part.ensures) in
    let lt : c.args.axis < length ps = omega (arith, ap length seen, c.requires.axis) in
    let le : c.args.from + c.args.len ≤ get_or ps c.args.axis 0 = omega (arith, ap (λ ms. get_or ms c.args.axis 0) seen, c.requires.within) in
    positions-cut ps a.start (g.P.Lengths.numbers a.strides) c.part.invariant.as_many c.part.invariant.limit c.args.axis lt c.args.from c.args.len le _ _ _ c.cut.ensures.dim c.cut.ensures.start c.cut.ensures.strides

pub invariant_of-part : goal.invariant_of-part
invariant_of-part g c = some-reach (kept g c) _ _ _ c.part.invariant

pub returns : goal.returns
returns g c = record {
  value =
      some-seen (kept g c) (seen_at c.part.inside.storage) _ _ _ _ (c.part.view_is ∙ c.again-part.ensures)
      (c.cut.ensures.dim ∙ (ap (λ v. set v.lengths c.args.axis c.args.len) (c.part.view_is ∙ c.again-part.ensures) ∙ ap (set c.args.self.now.lengths c.args.axis) (omega arith)));
  whole = array_by-whole _ _;
}
