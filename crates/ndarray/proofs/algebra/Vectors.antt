-- Inner products.
use Rattle.std.proofs.Common.{◌≡◌, ◌∙◌, List, [], ◌∷◌, ap, refl, sym}
use Rattle.ndarray.specs.Algebra.{CommutativeMonoid}
use Rattle.ndarray.specs.Products.{products_of}
use Rattle.ndarray.specs.Sums.{total}
use Rattle.ndarray.specs.VectorLaws.{InnerProductsCommute, MatricesChangeSides}
use Rattle.ndarray.proofs.algebra.MatrixProducts.{sum_below, sum_same, sum_swap, sum_times, times_sum}

module _ {C : Type 0} (plus times : CommutativeMonoid C) where
  products-turned : {A : Type 0} (value : A → C) (xs ys : List A) → products_of times value xs ys ≡ products_of times value ys xs
  products-turned value [] [] = refl
  products-turned value [] (y ∷ ys) = refl
  products-turned value (x ∷ xs) [] = refl
  products-turned value (x ∷ xs) (y ∷ ys) =
      ap (λ t. t ∷ products_of times value xs ys) (times.commutes (value x) (value y)) ∙ ap (λ ts. times.op (value y) (value x) ∷ ts) (products-turned value xs ys)

  pub inner_products-commute : {A : Type 0} (value : A → C) → InnerProductsCommute plus times value
  inner_products-commute value xs ys = ap (total plus) (products-turned value xs ys)

  module _ (distributes : (x y z : C) → times.op x (plus.op y z) ≡ plus.op (times.op x y) (times.op x z))
      (absorbs : (x : C) → times.op plus.unit x ≡ plus.unit) where
    pub matrices-change_sides : MatricesChangeSides plus times
    matrices-change_sides x a y same = record {
      rows = refl;
      columns = refl;
      cell = λ i j l m.
          sum_same plus x.rows _ _ (λ k h. sum_times plus times distributes absorbs a.columns (x.cell k i) (λ p. times.op (a.cell k p) (y.cell p j)))
          ∙ (sum_swap plus x.rows a.columns (λ k p. times.op (x.cell k i) (times.op (a.cell k p) (y.cell p j)))
          ∙ (ap (λ n. sum_below plus a.columns (λ p. sum_below plus n (λ k. times.op (x.cell k i) (times.op (a.cell k p) (y.cell p j))))) same
          ∙ sum_same plus a.columns _ _
          (λ p h.
          sum_same plus a.rows _ _
          (λ k g.
          sym (times.associates (x.cell k i) (a.cell k p) (y.cell p j))
          ∙ ap (λ t. times.op t (y.cell p j)) (times.commutes (x.cell k i) (a.cell k p)))
          ∙ sym (times_sum plus times distributes absorbs a.rows (y.cell p j) (λ k. times.op (a.cell k p) (x.cell k i))))));
    }
