use Rattle.std.proofs.Common.{inr, refl, subst, sym}
use Rattle.ndarray.specs.Products.{HasValues, dot_entries, product_lengths}
use Rattle.ndarray.proofs.algebra.Dots.{dot-by, lane_sums-by}
use Rattle.ndarray.proofs.linalg.dynamic.product_of_matrices.Goals as goal

pub matrix_product-requires-clause-sums : goal.matrix_product-requires-clause-sums
matrix_product-requires-clause-sums g c κs within =
    lane_sums-by g.A.Valued c.args.a.now c.args.b.now 2 2 c.raw_dim.ensures.axes c.raw_dim-2.ensures.axes (inr refl) (inr refl) c.raw_dim.ensures.whole c.raw_dim-2.ensures.whole c.requires.shapes c.requires.sums

pub returns : goal.returns
returns g c =
    let v = g.A.Valued in
    let a = c.args.a.now in
    let b = c.args.b.now in
    let made = dot-by v a b 2 2 c.raw_dim.ensures.axes c.raw_dim-2.ensures.axes (inr refl) (inr refl) c.raw_dim.ensures.whole c.raw_dim-2.ensures.whole c.requires.shapes c.in_ok-product.product c.in_ok-product.ensures.made in
    record {
      made = subst (HasValues v (product_lengths a.lengths b.lengths) (dot_entries v a b)) (sym c.in-Ok.ensures.value) made;
      empty = λ none. refl;
    }
