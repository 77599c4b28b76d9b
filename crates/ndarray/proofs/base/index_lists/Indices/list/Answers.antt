use Rattle.std.proofs.Common.{Some, ap, sym, subst, arith, length, ◌∙◌}
use Rattle.ndarray.specs.Index.{InBox}
use Rattle.ndarray.specs.Grid.{cell}
use Rattle.ndarray.proofs.boxes.Boxes.{InBox-get, InBox-length}
use Rattle.ndarray.proofs.cells.Cells.{array_by-cell}
use Rattle.ndarray.proofs.base.index_lists.Indices.list.Goals as goal

pub counted_from-requires-clause-as_many : goal.counted_from-requires-clause-as_many
counted_from-requires-clause-as_many g c =
    let l = InBox-length _ _ c.requires in
    let e = ap (λ v. length v.lengths) c.self.view_is in
    let n = c.self.invariant.as_many in
    omega arith

pub counted_from-requires-clause-room : goal.counted_from-requires-clause-room
counted_from-requires-clause-room g c = λ k lt.
    let is = g.D.Lengths.numbers c.args.index.now in
    let b : InBox (g.D.Lengths.numbers c.self.inside.dim) is = subst (λ v. InBox v.lengths is) (sym c.self.view_is) c.requires in
    let l = InBox-length _ _ b in
    let i = InBox-get _ _ k b (omega arith) in
    let r = c.self.invariant.room k (omega arith) in
    omega arith

pub returns : goal.returns
returns g c =
    let is = g.D.Lengths.numbers c.args.index.now in
    let b : InBox (g.D.Lengths.numbers c.self.inside.dim) is = subst (λ v. InBox v.lengths is) (sym c.self.view_is) c.requires in
    ap (λ v. cell v is) (sym c.self.view_is) ∙ (array_by-cell (g.D.Lengths.numbers c.self.inside.dim) _ is b ∙ ap (λ js. Some js) (sym c.counted_from.ensures))
