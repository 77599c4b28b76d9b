use Rattle.std.proofs.Common.{◌≡◌, ◌∙◌, ◌∷◌, [], ap, get_or, sym}
use Rattle.ndarray.specs.Index.{size}
use Rattle.ndarray.specs.Products.{column_entries, column_of, matrix_of, product_of}
use Rattle.ndarray.proofs.algebra.Chains.{chain-made, chain-shapes, chain-sums, matrix-by_vector}
use Rattle.ndarray.proofs.callers.Collecting.{if_ok-both}
use Rattle.ndarray.proofs.cells.Products.{values-none}
use Rattle.ndarray.proofs.linalg.chains.mat_vec_chain.Goals as goal

pub returns-then-len_of-eq0-clause-product : goal.returns-then-len_of-eq0-clause-product
returns-then-len_of-eq0-clause-product g c =
    let e = g.A.Valued in
    let m = product_of e (product_of e (matrix_of e c.args.a.now) (matrix_of e c.args.b.now)) (column_of e c.args.x.now) in
    let none : get_or c.args.a.now.lengths 0 0 ≡ 0 = sym c.len_of.ensures.value ∙ c.if-len_of-eq0.true in
    if_ok-both c.zeros.result _ _ _
    (λ z lengths whole. values-none e (m.rows ∷ []) (column_entries m) z (lengths ∙ ap (λ n. n ∷ []) (sym none)) whole (ap (λ n. size (n ∷ [])) none))
    c.zeros.ensures.lengths c.zeros.ensures.whole

pub dot-requires-after_bounds : goal.dot-requires-after_bounds
dot-requires-after_bounds g c κs within = (
  matrix-by_vector c.args.b.now.lengths c.args.x.now.lengths c.raw_dim-2.ensures.axes c.raw_dim-3.ensures.axes c.requires.shapes.second c.raw_dim-2.ensures.limit c.raw_dim-3.ensures.limit,
  c.requires.inner_sums (λ none. c.if-len_of-eq0.false (c.len_of.ensures.value ∙ none)),
)

pub dot-requires-2-after_bounds : goal.dot-requires-2-after_bounds
dot-requires-2-after_bounds g c κs within =
    let e = g.A.Valued in (
      chain-shapes e c.args.a.now c.args.b.now c.args.x.now c.raw_dim.ensures.axes c.raw_dim-2.ensures.axes c.raw_dim.ensures.limit c.raw_dim-2.ensures.limit c.requires.shapes c.in_ok-y.y c.in_ok-y.ensures.made,
      chain-sums e c.args.a.now c.args.b.now c.args.x.now c.raw_dim.ensures.axes c.raw_dim-2.ensures.axes c.raw_dim.ensures.limit c.raw_dim-2.ensures.limit c.requires.shapes c.in_ok-y.y c.in_ok-y.ensures.made c.requires.outer_sums,
    )

pub returns-clause-product : goal.returns-clause-product
returns-clause-product g c =
    if_ok-both c.dot-2.result _ _ _
    (λ z made again.
    chain-made g.A.Valued c.args.a.now c.args.b.now c.args.x.now c.raw_dim.ensures.axes c.raw_dim-2.ensures.axes c.raw_dim.ensures.limit c.raw_dim-2.ensures.limit c.requires.shapes c.in_ok-y.y c.in_ok-y.ensures.made
    c.mat_assoc.ensures z made)
    c.dot-2.ensures.made c.dot-2.ensures.made
