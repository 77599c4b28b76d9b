-- The products of the cells of two arrays of equal lengths are those of their rows, one row after another.
use Rattle.std.proofs.Common.{◌≡◌, ◌∙◌, ℕ, ◌<◌, List, [], ◌∷◌, ◌++◌, ap, arith, filter_map, length, map, refl, subst, sym}
use Rattle.std.proofs.lemmas.List.Elements.{All-head, All-tail, filter_map-append}
use Rattle.ndarray.specs.Algebra.{CommutativeMonoid}
use Rattle.ndarray.specs.Grid.{Grid, HasCells, IsGrid, cell}
use Rattle.ndarray.specs.Index.{row_order}
use Rattle.ndarray.specs.Products.{products_of}
use Rattle.ndarray.specs.order.Rows.{HasRows, joined, rows_in}
use Rattle.ndarray.specs.declared.base.shape.Order.TheVariants.{RowMajor}
use Rattle.ndarray.proofs.boxes.Rows.{rows-joined}
use Rattle.ndarray.proofs.cells.Cells.{along-row_order, length-along}
use Rattle.ndarray.proofs.runs.Rows.{HasRows-rows_in}

pub products-append : {A C : Type 0} (times : CommutativeMonoid C) (v : A → C) (xs ys us vs : List A) → length xs ≡ length ys → products_of times v (xs ++ us) (ys ++ vs) ≡ products_of times v xs ys ++ products_of times v us vs
products-append times v [] [] us vs e = refl
products-append times v [] (y ∷ ys) us vs e = absurd (omega arith)
products-append times v (x ∷ xs) [] us vs e = absurd (omega arith)
products-append times v (x ∷ xs) (y ∷ ys) us vs e = ap (λ l. times.op (v x) (v y) ∷ l) (products-append times v xs ys us vs (omega arith))

-- the row that comes next, and the others
pub rows-next : {A : Type 0} (g : Grid A) (rows rest : List (List (List ℕ))) (row : List (List ℕ)) → rows ≡ row ∷ rest → HasRows g rows → ((0 < length row) × HasCells g row) × HasRows g rest
rows-next g rows rest row e h =
    let P = λ (r : List (List ℕ)). (0 < length r) × HasCells g r in
    let all : HasRows g (row ∷ rest) = subst (HasRows g) e h in
    (All-head P row rest all, All-tail P row rest all)

module _ {A C : Type 0} (times : CommutativeMonoid C) (v : A → C) (x y : Grid A) where
  -- the products of their cells at the index lists of a row
  abbrev pub row_products : List (List ℕ) → List C
  row_products row = products_of times v (filter_map (cell x) row) (filter_map (cell y) row)

  -- where both have its cells, these are equally many
  pub row-same : (row : List (List ℕ)) → HasCells x row → HasCells y row → length (filter_map (cell x) row) ≡ length (filter_map (cell y) row)
  row-same row h k = length-along x h.whole row h.within ∙ sym (length-along y k.whole row k.within)

  pub products-joined : (rows : List (List (List ℕ))) → HasRows x rows → HasRows y rows → products_of times v (filter_map (cell x) (joined rows)) (filter_map (cell y) (joined rows)) ≡ joined (map row_products rows)
  products-joined [] h k = refl
  products-joined (row ∷ rows) h k =
      let first = rows-next x (row ∷ rows) rows row refl h in
      let second = rows-next y (row ∷ rows) rows row refl k in
      let same = row-same row first.0.1 second.0.1 in
      ap (λ l. products_of times v l (filter_map (cell y) (row ++ joined rows))) (filter_map-append (cell x) row (joined rows))
      ∙ (ap (products_of times v (filter_map (cell x) row ++ filter_map (cell x) (joined rows))) (filter_map-append (cell y) row (joined rows))
      ∙ (products-append times v (filter_map (cell x) row) (filter_map (cell y) row) (filter_map (cell x) (joined rows)) (filter_map (cell y) (joined rows)) same
      ∙ ap (λ l. row_products row ++ l) (products-joined rows first.1 second.1)))

  pub products-by_rows : IsGrid x → IsGrid y → x.lengths ≡ y.lengths → products_of times v x.cells y.cells ≡ joined (map row_products (rows_in RowMajor x.lengths))
  products-by_rows whole whole_y same =
      let first : filter_map (cell x) (joined (rows_in RowMajor x.lengths)) ≡ x.cells = ap (filter_map (cell x)) (rows-joined RowMajor x.lengths) ∙ along-row_order x whole in
      let second : filter_map (cell y) (joined (rows_in RowMajor x.lengths)) ≡ y.cells =
      ap (filter_map (cell y)) (rows-joined RowMajor x.lengths ∙ ap row_order same) ∙ along-row_order y whole_y in
      let rows = subst (λ ns. HasRows y (rows_in RowMajor ns)) (sym same) (HasRows-rows_in y RowMajor whole_y) in
      ap (λ l. products_of times v l y.cells) (sym first)
      ∙ (ap (products_of times v (filter_map (cell x) (joined (rows_in RowMajor x.lengths)))) (sym second)
      ∙ products-joined (rows_in RowMajor x.lengths) (HasRows-rows_in x RowMajor whole) rows)
