use Rattle.std.proofs.Common.{inl, inr, refl, subst, sym}
use Rattle.ndarray.specs.Products.{HasValues, dot_entries, product_lengths}
use Rattle.ndarray.proofs.algebra.Dots.{dot-by, lane_sums-by}
use Rattle.ndarray.proofs.linalg.dynamic.product_by_vector.Goals as goal

pub dot-requires : goal.dot-requires
dot-requires g c = (
  c.requires.shapes,
  lane_sums-by g.A.Valued c.args.a.now c.args.x.now 2 1 c.raw_dim.ensures.axes c.raw_dim-2.ensures.axes (inr refl) (inl refl) c.raw_dim.ensures.whole c.raw_dim-2.ensures.whole c.requires.shapes c.requires.sums,
)

pub returns : goal.returns
returns g c =
    let v = g.A.Valued in
    let a = c.args.a.now in
    let x = c.args.x.now in
    let made = dot-by v a x 2 1 c.raw_dim.ensures.axes c.raw_dim-2.ensures.axes (inr refl) (inl refl) c.raw_dim.ensures.whole c.raw_dim-2.ensures.whole c.requires.shapes c.in_ok-product.product c.in_ok-product.ensures.made in
    record {
      made = subst (HasValues v (product_lengths a.lengths x.lengths) (dot_entries v a x)) (sym c.in-Ok.ensures.value) made;
      empty = λ none. refl;
    }
