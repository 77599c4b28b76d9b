use Rattle.ndarray.proofs.Common.{product-of_left, product-on_left, product-on_right, products-same}
use Rattle.ndarray_examples.proofs.laws.both_chains.Goals as goal

pub dot-requires-2 : goal.dot-requires-2
dot-requires-2 g c =
    let s = c.requires.shapes in
    product-on_left g.A.Valued c.args.a.now c.args.b.now c.args.c.now c.raw_dim.ensures.axes c.raw_dim-2.ensures.axes c.raw_dim-3.ensures.axes s.left s.right s.limit
    c.in_ok-left.left c.in_ok-left.ensures.made c.requires.sums.left_first

pub dot-requires-4 : goal.dot-requires-4
dot-requires-4 g c =
    let s = c.requires.shapes in
    product-on_right g.A.Valued c.args.a.now c.args.b.now c.args.c.now c.raw_dim.ensures.axes c.raw_dim-2.ensures.axes c.raw_dim-3.ensures.axes s.left s.right s.limit
    c.in_ok-right.right c.in_ok-right.ensures.made c.requires.sums.right_first

pub returns-clause-product : goal.returns-clause-product
returns-clause-product g c =
    let s = c.requires.shapes in
    product-of_left g.A.Valued c.args.a.now c.args.b.now c.args.c.now c.raw_dim.ensures.axes c.raw_dim-2.ensures.axes c.raw_dim-3.ensures.axes s.left s.right s.limit
    c.in_ok-left.left c.in_ok-first.first c.in_ok-left.ensures.made c.in_ok-first.ensures.made

pub returns-clause-same : goal.returns-clause-same
returns-clause-same g c =
    let s = c.requires.shapes in
    products-same g.A.Valued c.args.a.now c.args.b.now c.args.c.now c.raw_dim.ensures.axes c.raw_dim-2.ensures.axes c.raw_dim-3.ensures.axes s.left s.right s.limit
    g.met.A.Valued.same_meaning c.mat_assoc.ensures
    c.in_ok-left.left c.in_ok-first.first c.in_ok-right.right c.in_ok-second.second
    c.in_ok-left.ensures.made c.in_ok-first.ensures.made c.in_ok-right.ensures.made c.in_ok-second.ensures.made
