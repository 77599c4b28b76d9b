use Rattle.std.proofs.Common.{sym, ap, subst, length, arith}
use Rattle.ndarray.specs.Index.{InBox}
use Rattle.ndarray.specs.base.Storage.{seen_at}
use Rattle.ndarray.proofs.boxes.Boxes.{InBox-length}
use Rattle.ndarray.proofs.strides.Reach.{cell_found}
use Rattle.ndarray.proofs.base.array.ArrayView+A+D.item.Goals as goal

pub place-requires : goal.place-requires
place-requires g c = let m = c.self.invariant.as_many in let l = InBox-length _ _ c.requires in let e = ap (λ v. length v.lengths) c.self.view_is in omega arith

pub returns : goal.returns
returns g c =
    let a = c.self.inside.layout in
    let b : InBox (g.D.Lengths.numbers a.dim) (g.D.Lengths.numbers c.args.index.now) = subst (λ ns. InBox ns (g.D.Lengths.numbers c.args.index.now)) (sym (ap (λ v. v.lengths) c.self.view_is)) c.requires in
    cell_found (seen_at c.self.inside.storage) (g.D.Lengths.numbers a.dim) a.start (g.D.Lengths.numbers a.strides) _ _ c.place.result _ c.self.invariant c.self.view_is b c.place.ensures c.get.ensures
