-- The products of two arrays' cells, row by row.
use Rattle.std.proofs.Common.{◌≡◌, ◌∙◌, ℕ, ◌<◌, List, [], ◌∷◌, ap, arith, filter_map, length, map, subst, sym}
use Rattle.std.specs.Prelude.{All, IsPermutation}
use Rattle.std.proofs.lemmas.List.Elements.{All-head, All-tail}
use Rattle.std.proofs.lemmas.List.Sorted.{IsPermutation-refl}
use Rattle.ndarray.specs.Algebra.{CommutativeMonoid}
use Rattle.ndarray.specs.Grid.{Grid, IsGrid, cell}
use Rattle.ndarray.specs.Index.{InBox}
use Rattle.ndarray.specs.Products.{products_of}
use Rattle.ndarray.specs.order.Rows.{joined, rows_in}
use Rattle.ndarray.specs.Sums.{IsSummable, total}
use Rattle.ndarray.specs.base.Ranks.{row_from}
use Rattle.ndarray.specs.declared.base.shape.Order.TheVariants.{RowMajor}
use Rattle.ndarray.proofs.boxes.RowProducts.{products-by_rows, row_products}
use Rattle.ndarray.proofs.boxes.Rows.{rows-within}
use Rattle.ndarray.proofs.cells.Cells.{length-along}
use Rattle.ndarray.proofs.strides.Rows.{length-row_from}
use Rattle.ndarray.proofs.sums.RunningRuns.{RunningRuns, run-in_range, run-next, run-summable, runs-end, runs-start}

module _ {A C : Type 0} (times : CommutativeMonoid C) (value : A → C) where
  module _ (x y : Grid A) where
    abbrev IsRow : List (List ℕ) → Type 0
    IsRow iss = (0 < length iss) × All (InBox x.lengths) iss

    -- the rows to come, with the sum of the products before them
    pub record AddedRows (plus : CommutativeMonoid C) (P : C → Type 0) (rows : List (List (List ℕ))) (sum : C) : Type 0 where
      pub within : All IsRow rows
      pub running : RunningRuns plus P (λ c. c) (products_of times value x.cells y.cells) (map (row_products times value x y) rows) sum

    module _ (x_whole : IsGrid x) (y_whole : IsGrid y) (same : x.lengths ≡ y.lengths) where
      as_many : (iss : List (List ℕ)) → All (InBox x.lengths) iss → length (filter_map (cell x) iss) ≡ length (filter_map (cell y) iss)
      as_many iss within = length-along x x_whole iss within ∙ sym (length-along y y_whole iss (subst (λ ns. All (InBox ns) iss) same within))

      -- all rows are those of the box
      all-products : joined (map (row_products times value x y) (rows_in RowMajor x.lengths)) ≡ products_of times value x.cells y.cells
      all-products = sym (products-by_rows times value x y x_whole y_whole same)

      module _ (plus : CommutativeMonoid C) (P : C → Type 0) where
        pub rows-start : (rows : List (List (List ℕ))) (sum : C) → rows ≡ rows_in RowMajor x.lengths → sum ≡ plus.unit → IsSummable plus P (products_of times value x.cells y.cells) → AddedRows plus P rows sum
        rows-start rows sum all none sums = record {
          within = subst (All IsRow) (sym all) (rows-within RowMajor x.lengths);
          running =
              runs-start plus P (λ c. c) (products_of times value x.cells y.cells) (map (row_products times value x y) rows) sum
              (subst (IsPermutation (products_of times value x.cells y.cells)) (sym (ap (λ rs. joined (map (row_products times value x y) rs)) all ∙ all-products)) (IsPermutation-refl (products_of times value x.cells y.cells)))
              none sums;
        }

        -- the next row
        module _ (first : List ℕ) (axis count : ℕ) (now rest : List (List (List ℕ))) (sum : C) (next : now ≡ row_from first axis count ∷ rest) (h : AddedRows plus P now sum) where
          here : IsRow (row_from first axis count)
          here = All-head IsRow (row_from first axis count) rest (subst (All IsRow) next h.within)

          steps : map (row_products times value x y) now ≡ row_products times value x y (row_from first axis count) ∷ map (row_products times value x y) rest
          steps = ap (map (row_products times value x y)) next

          pub row-some : 0 < count
          row-some = let n = length-row_from first axis count in let some = here.0 in omega (arith, n, some)

          pub row-within : All (InBox x.lengths) (row_from first axis count)
          row-within = here.1

          -- its cells
          module _ (us vs : List A) (left : us ≡ filter_map (cell x) (row_from first axis count)) (right : vs ≡ filter_map (cell y) (row_from first axis count)) where
            pub row-same : length us ≡ length vs
            row-same = ap length left ∙ (as_many (row_from first axis count) here.1 ∙ sym (ap length right))

            are_products : products_of times value us vs ≡ row_products times value x y (row_from first axis count)
            are_products = ap (λ l. products_of times value l vs) left ∙ ap (products_of times value (filter_map (cell x) (row_from first axis count))) right

            pub row-summable : IsSummable plus P (products_of times value us vs)
            row-summable = subst (IsSummable plus P) (sym are_products) (run-summable plus P (λ c. c) _ (map (row_products times value x y) now) (map (row_products times value x y) rest) _ sum steps h.running)

            module _ (more : C) (total_is : more ≡ total plus (products_of times value us vs)) where
              pub row-in_range : P (plus.op sum more)
              row-in_range = run-in_range plus P (λ c. c) _ (map (row_products times value x y) now) (map (row_products times value x y) rest) _ sum steps h.running more (total_is ∙ ap (total plus) are_products)

              pub row-next : (new : C) → new ≡ plus.op sum more → AddedRows plus P rest new
              row-next new e = record {
                within = All-tail IsRow (row_from first axis count) rest (subst (All IsRow) next h.within);
                running = run-next plus P (λ c. c) _ (map (row_products times value x y) now) (map (row_products times value x y) rest) _ sum steps h.running more (total_is ∙ ap (total plus) are_products) new e;
              }

    pub rows-end : (plus : CommutativeMonoid C) (P : C → Type 0) (rows : List (List (List ℕ))) (sum : C) → rows ≡ [] → AddedRows plus P rows sum → sum ≡ total plus (products_of times value x.cells y.cells)
    rows-end plus P rows sum none h = runs-end plus P (λ c. c) _ (map (row_products times value x y) rows) sum (ap (map (row_products times value x y)) none) h.running
