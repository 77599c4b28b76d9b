-- Products of sums and of multiples of matrices.
use Rattle.std.proofs.Common.{◌≡◌, ◌∙◌, ap, refl, sym}
use Rattle.ndarray.specs.Algebra.{CommutativeMonoid}
use Rattle.ndarray.specs.MatrixSums.{MultiplesTimesMatrix, ProductsOfMultiples, ProductsOfSums, SumsTimesMatrix}
use Rattle.ndarray.proofs.algebra.MatrixProducts.{sum_below, sum_plus, sum_same, sum_times}

module _ {C : Type 0} (plus times : CommutativeMonoid C)
    (distributes : (x y z : C) → times.op x (plus.op y z) ≡ plus.op (times.op x y) (times.op x z))
    (absorbs : (x : C) → times.op plus.unit x ≡ plus.unit) where
  pub products-of_sums : ProductsOfSums plus times
  products-of_sums a b c = record {
    rows = refl;
    columns = refl;
    cell = λ i j l m.
        sum_same plus a.columns _ _ (λ k h. distributes (a.cell i k) (b.cell k j) (c.cell k j))
        ∙ sum_plus plus a.columns (λ k. times.op (a.cell i k) (b.cell k j)) (λ k. times.op (a.cell i k) (c.cell k j));
  }

  pub sums-times_matrix : SumsTimesMatrix plus times
  sums-times_matrix a b c same = record {
    rows = refl;
    columns = refl;
    cell = λ i j l m.
        sum_same plus a.columns _ _
        (λ k h.
        times.commutes (plus.op (a.cell i k) (b.cell i k)) (c.cell k j)
        ∙ (distributes (c.cell k j) (a.cell i k) (b.cell i k)
        ∙ (ap (λ t. plus.op t (times.op (c.cell k j) (b.cell i k))) (times.commutes (c.cell k j) (a.cell i k))
        ∙ ap (plus.op (times.op (a.cell i k) (c.cell k j))) (times.commutes (c.cell k j) (b.cell i k)))))
        ∙ (sum_plus plus a.columns (λ k. times.op (a.cell i k) (c.cell k j)) (λ k. times.op (b.cell i k) (c.cell k j))
        ∙ ap (λ n. plus.op (sum_below plus a.columns (λ k. times.op (a.cell i k) (c.cell k j))) (sum_below plus n (λ k. times.op (b.cell i k) (c.cell k j)))) same);
  }

  -- a factor may change places
  moved : (factor x y : C) → times.op x (times.op factor y) ≡ times.op factor (times.op x y)
  moved factor x y =
      sym (times.associates x factor y) ∙ (ap (λ t. times.op t y) (times.commutes x factor) ∙ times.associates factor x y)

  pub products-of_multiples : ProductsOfMultiples plus times
  products-of_multiples factor a b = record {
    rows = refl;
    columns = refl;
    cell = λ i j l m.
        sum_same plus a.columns _ _ (λ k h. moved factor (a.cell i k) (b.cell k j))
        ∙ sym (sum_times plus times distributes absorbs a.columns factor (λ k. times.op (a.cell i k) (b.cell k j)));
  }

  pub multiples-times_matrix : MultiplesTimesMatrix plus times
  multiples-times_matrix factor a b = record {
    rows = refl;
    columns = refl;
    cell = λ i j l m.
        sum_same plus a.columns _ _ (λ k h. times.associates factor (a.cell i k) (b.cell k j))
        ∙ sym (sum_times plus times distributes absorbs a.columns factor (λ k. times.op (a.cell i k) (b.cell k j)));
  }
