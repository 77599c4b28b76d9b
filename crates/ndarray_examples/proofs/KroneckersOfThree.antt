-- The Kronecker product of three products of two matrices, from what was made of each.
use Rattle.ndarray.proofs.Common.{◌≡◌, [], ◌∷◌, ℤ, All-cons, All-nil, IfSome, Option, Some, get_or, int_products, int_sums, subst, Grid, HasMatrix, Matrix, kronecker-same, made-as, made-matrix, matrix_of, product_of, same-back, same-then, i64_values}
use Rattle.ndarray.specs.KroneckerLaws.{KroneckersOfAllMultiply, kronecker_of_all}
use Rattle.ndarray.specs.Matrices.{kronecker_product}

abbrev pub m : Grid ℤ → Matrix ℤ
m g = matrix_of i64_values g

abbrev pub blocks : Grid ℤ → Grid ℤ → Matrix ℤ
blocks x y = kronecker_product int_products (m x) (m y)

-- two matrices multiply, and an array has the values of their product
abbrev pub IsProduct : Grid ℤ → Grid ℤ → Grid ℤ → Type 0
IsProduct x y r = (get_or x.lengths 1 0 ≡ get_or y.lengths 0 0) × HasMatrix i64_values (product_of i64_values (m x) (m y)) r

abbrev Meet : Matrix ℤ × Matrix ℤ → Type 0
Meet p = p.0.columns ≡ p.1.rows

-- what holds of an array that was given
pub given : (P : Grid ℤ → Type 0) (o : Option (Grid ℤ)) (r : Grid ℤ) → o ≡ Some r → IfSome o P → P r
given P o r is h = subst (λ w. IfSome w P) is h

pub three-made : KroneckersOfAllMultiply int_sums int_products → (a b c d e f ad be cf rest r : Grid ℤ) → IsProduct a d ad → IsProduct b e be → IsProduct c f cf → HasMatrix i64_values (blocks be cf) rest → HasMatrix i64_values (blocks ad rest) r
    → HasMatrix i64_values (product_of i64_values (kronecker_of_all int_products (m a) (m b ∷ m c ∷ [])) (kronecker_of_all int_products (m d) (m e ∷ m f ∷ []))) r
three-made law a b c d e f ad be cf rest r one two three inner outer =
    let by : Grid ℤ → Grid ℤ → Matrix ℤ = λ x y. product_of i64_values (m x) (m y) in
    let right = same-then _ _ _ (made-matrix i64_values (blocks be cf) rest inner)
    (kronecker-same i64_values (m be) (m cf) (by b e) (by c f) (made-matrix i64_values (by b e) be two.1) (made-matrix i64_values (by c f) cf three.1)) in
    let parts = kronecker-same i64_values (m ad) (m rest) (by a d) (kronecker_product int_products (by b e) (by c f)) (made-matrix i64_values (by a d) ad one.1) right in
    let all = law (m a) (m d) ((m b, m e) ∷ (m c, m f) ∷ []) (All-cons Meet (m b, m e) ((m c, m f) ∷ []) two.0 (All-cons Meet (m c, m f) [] three.0 (All-nil Meet))) in
    made-as i64_values (blocks ad rest) _ (same-then _ _ _ parts (same-back _ _ all)) r outer
