use Rattle.std.proofs.Common.{◌≡◌, ◌∙◌, ◌*◌, ◌∷◌, [], List, ℕ, ap, arith, get_or, sym}
use Rattle.ndarray.specs.Index.{size}
use Rattle.ndarray.specs.Matrices.{kronecker_product}
use Rattle.ndarray.specs.Products.{matrix_entries, matrix_of, product_of}
use Rattle.ndarray.proofs.algebra.Chains.{mix-made, mix-products}
use Rattle.ndarray.proofs.boxes.Sizes.{length-fits}
use Rattle.ndarray.proofs.callers.Collecting.{if_ok-both}
use Rattle.ndarray.proofs.cells.Products.{values-none}
use Rattle.ndarray.proofs.linalg.chains.kron_dot.Goals as goal

-- the lengths of the result, by those of the four
dims-of : (ks : List ℕ) (m p n r w x y z : ℕ) → ks ≡ m * p ∷ n * r ∷ [] → m ≡ w → p ≡ x → n ≡ y → r ≡ z → ks ≡ w * x ∷ y * z ∷ []
dims-of ks m p n r w x y z made a b c d = made ∙ (λ i. a i * b i ∷ c i * d i ∷ [])

pub overflow_mul-len_of : goal.overflow_mul-len_of
overflow_mul-len_of g c =
    let k = length-fits (get_or c.args.a.now.lengths 0 0 * get_or c.args.b.now.lengths 0 0 ∷ get_or c.args.c.now.lengths 1 0 * get_or c.args.d.now.lengths 1 0 ∷ []) 0 (omega arith) c.requires.shapes.limit in
    let same = ap (λ n. n * c.len_of-2.result) c.len_of.ensures.value ∙ ap (λ n. get_or c.args.a.now.lengths 0 0 * n) c.len_of-2.ensures.value in
    record { fits = omega (arith, k, same) }

pub returns-then-size-eq0-clause-product : goal.returns-then-size-eq0-clause-product
returns-then-size-eq0-clause-product g c =
    let e = g.A.Valued in
    let times = e.multiplication in
    let m = product_of e (kronecker_product times (matrix_of e c.args.a.now) (matrix_of e c.args.b.now)) (kronecker_product times (matrix_of e c.args.c.now) (matrix_of e c.args.d.now)) in
    let dims = dims-of _ _ _ _ _ _ _ _ _ c.Ix2-dim.ensures c.len_of.ensures.value c.len_of-2.ensures.value c.len_of-3.ensures.value c.len_of-4.ensures.value in
    if_ok-both c.zeros.result _ _ _
    (λ z lengths whole. values-none e (m.rows ∷ m.columns ∷ []) (matrix_entries m) z (lengths ∙ dims) whole (ap size (sym dims) ∙ (sym c.size.ensures ∙ c.if-size-eq0.true)))
    c.zeros.ensures.lengths c.zeros.ensures.whole

pub dot-requires-after_bounds : goal.dot-requires-after_bounds
dot-requires-after_bounds g c κs within =
    let dims = dims-of _ _ _ _ _ _ _ _ _ c.Ix2-dim.ensures c.len_of.ensures.value c.len_of-2.ensures.value c.len_of-3.ensures.value c.len_of-4.ensures.value in
    (c.requires.shapes.left, c.requires.left_sums (λ none. c.if-size-eq0.false (c.size.ensures ∙ (ap size dims ∙ none))))

pub dot-requires-2-after_bounds : goal.dot-requires-2-after_bounds
dot-requires-2-after_bounds g c κs within =
    let dims = dims-of _ _ _ _ _ _ _ _ _ c.Ix2-dim.ensures c.len_of.ensures.value c.len_of-2.ensures.value c.len_of-3.ensures.value c.len_of-4.ensures.value in
    (c.requires.shapes.right, c.requires.right_sums (λ none. c.if-size-eq0.false (c.size.ensures ∙ (ap size dims ∙ none))))

pub kron-requires-clause-products : goal.kron-requires-clause-products
kron-requires-clause-products g c κs within =
    mix-products g.A.Valued c.args.a.now c.args.b.now c.args.c.now c.args.d.now c.raw_dim.ensures.axes c.raw_dim-2.ensures.axes c.raw_dim-3.ensures.axes c.raw_dim-4.ensures.axes c.requires.shapes
    c.in_ok-left.left c.in_ok-right.right c.in_ok-left.ensures.made c.in_ok-right.ensures.made c.requires.products

pub returns-clause-product : goal.returns-clause-product
returns-clause-product g c =
    if_ok-both c.kron.result _ _ _
    (λ z made again.
    mix-made g.A.Valued c.args.a.now c.args.b.now c.args.c.now c.args.d.now c.raw_dim.ensures.axes c.raw_dim-2.ensures.axes c.raw_dim-3.ensures.axes c.raw_dim-4.ensures.axes c.requires.shapes
    c.in_ok-left.left c.in_ok-right.right c.in_ok-left.ensures.made c.in_ok-right.ensures.made c.kron_mixed.ensures.mixed z made)
    c.kron.ensures.made c.kron.ensures.made

pub returns-clause-empty : goal.returns-clause-empty
returns-clause-empty g c =
    λ none.
    let dims = dims-of _ _ _ _ _ _ _ _ _ c.Ix2-dim.ensures c.len_of.ensures.value c.len_of-2.ensures.value c.len_of-3.ensures.value c.len_of-4.ensures.value in
    absurd (c.if-size-eq0.false (c.size.ensures ∙ (ap size dims ∙ none)))
