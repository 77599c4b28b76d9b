use Rattle.std.proofs.Common.{◌≡◌, sym, ◌∙◌, ap, subst, arith, length}
use Rattle.std.specs.Prelude.{filter_map, All}
use Rattle.ndarray.specs.Index.{InBox}
use Rattle.ndarray.specs.Grid.{cell}
use Rattle.ndarray.specs.base.Ranks.{row_from}
use Rattle.ndarray.specs.base.Storage.{seen_at}
use Rattle.ndarray.specs.base.Strided.{places_from, HaveElements}
use Rattle.ndarray.proofs.boxes.Boxes.{InBox-length}
use Rattle.ndarray.proofs.strides.Rows.{row-at, row-first, place-any}
use Rattle.ndarray.proofs.base.strided.ArrayView+A+D.cells_along.Goals as goal
use Rattle.ndarray.proofs.base.strided.ArrayView+A+D.cells_along.Goals.{After-stride}

pub place-requires : goal.place-requires
place-requires g c =
    let m = c.self.invariant.as_many in
    let is = g.D.Lengths.numbers c.args.index.now in
    let ns = c.args.self.now.lengths in
    let b : InBox ns is = row-first (InBox ns) is c.args.axis c.args.count c.requires.some c.requires.within in
    let l = InBox-length ns is b in
    let e = ap (λ v. length v.lengths) c.self.view_is in
    omega arith

row : (g : _) (c : After-stride g) →
    HaveElements (seen_at c.self.inside.storage) (places_from c.place.result c.stride.result c.args.count)
    × (filter_map (seen_at c.self.inside.storage) (places_from c.place.result c.stride.result c.args.count) ≡ filter_map (cell c.args.self.now) (row_from (g.D.Lengths.numbers c.args.index.now) c.args.axis c.args.count))
row g c =
    let is = g.D.Lengths.numbers c.args.index.now in
    let a = c.self.inside.layout in
    let e = ap (λ v. v.lengths) c.self.view_is in
    let m = c.self.invariant.as_many in
    let r = row-at _ _ _ _ c.self.invariant c.args.axis c.stride.result
    (λ js b. let l = InBox-length _ _ b in rw c.stride.ensures (place-any a.start (g.D.Lengths.numbers a.strides) js c.args.axis (omega arith)))
    c.args.count is c.place.result (subst (λ ns. All (InBox ns) (row_from is c.args.axis c.args.count)) (sym e) c.requires.within) (λ some. c.place.ensures) in
    (r.0, r.1 ∙ ap (λ v. filter_map (cell v) (row_from is c.args.axis c.args.count)) c.self.view_is)

pub invariant_of-result : goal.invariant_of-result
invariant_of-result g c = (row g c).0

pub returns : goal.returns
returns g c = (row g c).1
