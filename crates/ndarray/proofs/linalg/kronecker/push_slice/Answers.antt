use Rattle.std.proofs.Common.{◌≡◌, ◌∙◌, ◌+◌, ◌++◌, ap, arith, drop, map, subst, sym}
use Rattle.std.proofs.lemmas.List.{length-append, length-map}
use Rattle.ndarray.specs.linalg.BlockRows.{CanMultiply}
use Rattle.ndarray.specs.Index.{size}
use Rattle.ndarray.proofs.lists.Pushes.{one-pushed, one-room}
use Rattle.ndarray.proofs.sums.InnerSums.{drop-next}
use Rattle.ndarray.proofs.linalg.kronecker.push_slice.Goals as goal

pub multiply-requires : goal.multiply-requires
multiply-requires g c = (c.type_bounds.static-A, subst (CanMultiply g.A.Valued c.args.factor) (sym c.cell-item.is) (c.requires.can c.loop-cell.cell-index c.cell-item.result c.loop-cell-test.true))

pub push-requires : goal.push-requires
push-requires g c =
    let value = g.A.Valued.meaning in
    let f : g.row.A.Denot → g.A.Valued.Carrier = λ y. g.A.Valued.multiplication.op (value c.args.factor) (value y) in
    let i = c.loop-cell.invariant in
    let at = c.loop-cell.cell-index in
    let first = drop-next c.args.cells.now at c.cell-item.result c.loop-cell-test.true c.cell-item.is in
    let room = one-room value (map value c.args.products.now.cells ++ map f c.args.cells.now) c.loop-cell.products.cells (drop at c.args.cells.now) (drop (at + 1) c.args.cells.now) c.cell-item.result first f i.values in
    let both = length-append (map value c.args.products.now.cells) (map f c.args.cells.now) in
    let old = length-map c.args.products.now.cells value in
    let more = length-map c.args.cells.now f in
    let same : size c.loop-cell.products.lengths ≡ size c.args.products.now.lengths = ap size i.lengths in
    omega (arith, room, both, old, more, same, c.requires.room)

pub loop-cell-preserved : goal.loop-cell-preserved
loop-cell-preserved g c =
    let value = g.A.Valued.meaning in
    let f : g.row.A.Denot → g.A.Valued.Carrier = λ y. g.A.Valued.multiplication.op (value c.args.factor) (value y) in
    let i = c.loop-cell.invariant in
    let at = c.loop-cell.cell-index in
    let first = drop-next c.args.cells.now at c.cell-item.result c.loop-cell-test.true c.cell-item.is in
    record {
      lengths = ap (λ p. p.lengths) c.push.ensures ∙ i.lengths;
      order = ap (λ p. p.order) c.push.ensures ∙ i.order;
      values =
          ap (λ p. map value p.cells ++ map f (drop (at + 1) c.args.cells.now)) c.push.ensures
          ∙ one-pushed value (map value c.args.products.now.cells ++ map f c.args.cells.now) c.loop-cell.products.cells (drop at c.args.cells.now) (drop (at + 1) c.args.cells.now) c.cell-item.result first f i.values c.multiply.result c.multiply.ensures;
    }
