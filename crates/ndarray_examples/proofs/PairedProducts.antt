-- Products of cells, and sums of them along the orders of a box.
use Rattle.ndarray.proofs.Common.{◌≡◌, ℕ, ◌+◌, ◌*◌, ◌≤◌, List, [], ◌∷◌, ◌++◌, Some, refl, sym, subst, ap, ◌∙◌, take, arith, sum_by, sum_by-append, sum_by-cons, sum_by-IsPermutation, Grid, cell, size, box_in, IsBoxIn, HasInOrder, box_in-is, box_in-rearranges}
use Rattle.ndarray.specs.Index.{row_order, column_order}
use Rattle.ndarray.specs.declared.base.shape.Order.{Order}
use Rattle.ndarray.specs.declared.base.shape.Order.TheVariants.{RowMajor, ColumnMajor}
use Rattle.ndarray_examples.specs.PairedProducts.{product_at}

pub product-of_cells : (g h : Grid ℕ) (is : List ℕ) (x y : ℕ) → cell g is ≡ Some x → cell h is ≡ Some y → product_at g h is ≡ x * y
product-of_cells g h is x y a b = rw (a, b) refl

pub sum-part : {X : Type 0} (f : X → ℕ) (xs : List X) (x : X) (ys : List X) → sum_by f xs + f x ≤ sum_by f (xs ++ (x ∷ ys))
sum-part f xs x ys = omega (arith, sum_by-append f xs (x ∷ ys), sum_by-cons f x ys)

-- a sum over a box is the same in either order
pub sum-in_either_order : (f : List ℕ → ℕ) (o : Order) (ns : List ℕ) → sum_by f (box_in o ns) ≡ sum_by f (row_order ns)
sum-in_either_order f o ns = sum_by-IsPermutation f (row_order ns) (box_in o ns) (box_in-rearranges o ns)

-- [[1, 5], [3, 7]] by its columns and [[2, 4], [8, 6]] by its rows, as `from_shape` tests them
pub products-88 : (g h : Grid ℕ) (o : Order) → g.lengths ≡ 2 ∷ 2 ∷ [] → h.lengths ≡ 2 ∷ 2 ∷ [] → o ≡ ColumnMajor
    → HasInOrder o g (take (size g.lengths) (1 ∷ 3 ∷ 5 ∷ 7 ∷ [])) → HasInOrder RowMajor h (take (size h.lengths) (2 ∷ 4 ∷ 8 ∷ 6 ∷ []))
    → sum_by (product_at g h) (row_order g.lengths) ≡ 88
unfolding row_order column_order
products-88 g h o k l c a b =
    let ns : List ℕ = 2 ∷ 2 ∷ [] in
    let first : HasInOrder ColumnMajor g (1 ∷ 3 ∷ 5 ∷ 7 ∷ []) = subst (λ p. HasInOrder p g (1 ∷ 3 ∷ 5 ∷ 7 ∷ [])) c (subst (λ ms. HasInOrder o g (take (size ms) (1 ∷ 3 ∷ 5 ∷ 7 ∷ []))) k a) in
    let second : HasInOrder RowMajor h (2 ∷ 4 ∷ 8 ∷ 6 ∷ []) = subst (λ ms. HasInOrder RowMajor h (take (size ms) (2 ∷ 4 ∷ 8 ∷ 6 ∷ []))) l b in
    let x : cell g (0 ∷ 0 ∷ []) ∷ cell g (1 ∷ 0 ∷ []) ∷ cell g (0 ∷ 1 ∷ []) ∷ cell g (1 ∷ 1 ∷ []) ∷ [] ≡ Some 1 ∷ Some 3 ∷ Some 5 ∷ Some 7 ∷ [] =
    first (box_in ColumnMajor ns) (subst (λ ms. IsBoxIn ColumnMajor ms (box_in ColumnMajor ns)) (sym k) (box_in-is ColumnMajor ns)) in
    let y : cell h (0 ∷ 0 ∷ []) ∷ cell h (0 ∷ 1 ∷ []) ∷ cell h (1 ∷ 0 ∷ []) ∷ cell h (1 ∷ 1 ∷ []) ∷ [] ≡ Some 2 ∷ Some 4 ∷ Some 8 ∷ Some 6 ∷ [] =
    second (box_in RowMajor ns) (subst (λ ms. IsBoxIn RowMajor ms (box_in RowMajor ns)) (sym l) (box_in-is RowMajor ns)) in
    let a00 : cell g (0 ∷ 0 ∷ []) ≡ Some 1 = cc in
    let a10 : cell g (1 ∷ 0 ∷ []) ≡ Some 3 = cc in
    let a01 : cell g (0 ∷ 1 ∷ []) ≡ Some 5 = cc in
    let a11 : cell g (1 ∷ 1 ∷ []) ≡ Some 7 = cc in
    let b00 : cell h (0 ∷ 0 ∷ []) ≡ Some 2 = cc in
    let b01 : cell h (0 ∷ 1 ∷ []) ≡ Some 4 = cc in
    let b10 : cell h (1 ∷ 0 ∷ []) ≡ Some 8 = cc in
    let b11 : cell h (1 ∷ 1 ∷ []) ≡ Some 6 = cc in
    let here : sum_by (product_at g h) (row_order ns) ≡ 88 = rw (a00, a01, a10, a11, b00, b01, b10, b11) refl in
    ap (λ ms. sum_by (product_at g h) (row_order ms)) k ∙ here
