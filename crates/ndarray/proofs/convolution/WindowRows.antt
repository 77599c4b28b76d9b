-- Sums at a row of positions, to which the products with each cell of the kernel are added in turn.
use Rattle.std.proofs.Common.{◌≡◌, ◌∙◌, ℕ, ◌+◌, ◌*◌, ◌^◌, ◌<◌, ◌≤◌, List, [], ◌∷◌, Some, ap, arith, drop, filter_map, get_or, length, map, refl, replicate, subst, sym}
use Rattle.std.specs.Prelude.{All}
use Rattle.std.proofs.lemmas.List.{get_or_default, length-drop, length-replicate}
use Rattle.std.proofs.lemmas.List.Elements.{All-map}
use Rattle.std.proofs.lemmas.Simd.{map-map}
use Rattle.ndarray.specs.Convolution.{product_of_both, single_steps, valid_counts, window_products}
use Rattle.ndarray.specs.Grid.{Grid, IsGrid, cell}
use Rattle.ndarray.specs.Index.{InBox, row_order}
use Rattle.ndarray.specs.Limits.{IsWithinLimit}
use Rattle.ndarray.specs.Matrices.{values_below}
use Rattle.ndarray.specs.Products.{value_at, value_or}
use Rattle.ndarray.specs.linalg.RowSums.{AddsScaledRow, CanAddScaledRow}
use Rattle.ndarray.specs.Subviews.{window, window_index}
use Rattle.ndarray.specs.Sums.{IsSummable, total}
use Rattle.ndarray.specs.conv.WindowSums.{CanSumWindows, window_sum, window_sums}
use Rattle.ndarray.specs.base.IndexLists.{shifted_index}
use Rattle.ndarray.specs.base.Ranks.{row_from}
use Rattle.ndarray.specs.declared.elements.Valued.{Ghosts as ValuedGhosts}
use Rattle.ndarray.proofs.boxes.Boxes.{InBox-get, InBox-length}
use Rattle.ndarray.proofs.boxes.Orders.{row_order-is}
use Rattle.ndarray.proofs.boxes.ShiftedRows.{shifted-get, shifted-row}
use Rattle.ndarray.proofs.boxes.Sizes.{length-fits}
use Rattle.ndarray.proofs.cells.Cells.{all-cells, cell-Some, tabulate-cell}
use Rattle.ndarray.proofs.cells.Matrices.{below-same}
use Rattle.ndarray.proofs.convolution.KernelSums.{both-some}
use Rattle.ndarray.proofs.convolution.Mirrors.{products-along}
use Rattle.ndarray.proofs.convolution.WholeWindows.{in_rows, window-whole}
use Rattle.ndarray.proofs.lists.Elements.{filter_map-from_map, map-from_filter_map, map-same}
use Rattle.ndarray.proofs.pieces.Windows.{length-window_counts, window-inside}
use Rattle.ndarray.proofs.strides.Rows.{row-first}
use Rattle.ndarray.proofs.sums.RowSums.{first-left, row-added, row-can_add, values-alike, values-are}

-- an index of a window at a position, counted from the position or from the index
shifted-window : (ns ps js : List ℕ) → length ps ≡ length ns → length js ≡ length ns → shifted_index js ps ≡ window_index (single_steps ns) ps js
unfolding shifted_index
shifted-window [] [] [] p q = refl
shifted-window [] (x ∷ ps) js p q = absurd (omega arith)
shifted-window [] [] (j ∷ js) p q = absurd (omega arith)
shifted-window (n ∷ ns) [] js p q = absurd (omega arith)
shifted-window (n ∷ ns) (x ∷ ps) [] p q = absurd (omega arith)
shifted-window (n ∷ ns) (x ∷ ps) (j ∷ js) p q =
    let e : j + x ≡ x * 1 + j = omega arith in
    ap (λ k. k ∷ shifted_index js ps) e ∙ ap (λ l. (x * 1 + j) ∷ l) (shifted-window ns ps js (omega arith) (omega arith))

-- the values of a list are those at its places
map-below : {X C : Type 0} (f : X → C) (xs : List X) (d : X) → map f xs ≡ values_below (length xs) (λ i. f (get_or xs i d))
map-below f xs d = values-are f xs (length xs) (λ i. f (get_or xs i d)) refl (λ i b lt. ap f (get_or_default xs i b d lt))

module _ {A : Type 0} (e : ValuedGhosts A) where
  -- the values of the cells along index lists
  values-along : (g : Grid A) → IsGrid g → (iss : List (List ℕ)) → All (InBox g.lengths) iss → map e.meaning (filter_map (cell g) iss) ≡ map (value_at e g) iss
  values-along g whole iss within =
      sym (map-map (value_or e.meaning e.addition.unit) Some (filter_map (cell g) iss))
      ∙ (ap (map (value_or e.meaning e.addition.unit)) (sym (map-from_filter_map (cell g) iss (all-cells g whole iss within)))
      ∙ map-map (value_or e.meaning e.addition.unit) (cell g) iss)

  module _ (g h : Grid A) where
    -- the product of the array's value at an index and the value that it meets at a position
    abbrev pub product_at : List ℕ → List ℕ → e.Carrier
    product_at ps js = e.multiplication.op (value_at e h js) (value_at e g (shifted_index js ps))

    abbrev counts : List ℕ
    counts = valid_counts g.lengths h.lengths

    module _ (whole : IsGrid g) (axes : length h.lengths ≡ length g.lengths) where
      pub as_many : (ps : List ℕ) → InBox counts ps → length ps ≡ length g.lengths
      as_many ps b = InBox-length counts ps b ∙ length-window_counts g.lengths h.lengths (single_steps g.lengths) axes (length-replicate (length g.lengths) 1)

      index-is : (ps js : List ℕ) → InBox counts ps → InBox h.lengths js → shifted_index js ps ≡ window_index (single_steps g.lengths) ps js
      index-is ps js b inside = shifted-window g.lengths ps js (as_many ps b) (InBox-length h.lengths js inside ∙ axes)

      pub index-inside : (ps js : List ℕ) → InBox counts ps → InBox h.lengths js → InBox g.lengths (shifted_index js ps)
      index-inside ps js b inside = subst (InBox g.lengths) (sym (index-is ps js b inside)) (window-inside g.lengths h.lengths (single_steps g.lengths) ps js axes (length-replicate (length g.lengths) 1) b inside)

      -- the products of a window, along the box of the array
      pub products-are : IsGrid h → (ps : List ℕ) → InBox counts ps → window_products e.multiplication e.meaning g h ps ≡ map (product_at ps) (row_order h.lengths)
      products-are whole_h ps b =
          let ns = h.lengths in
          let w : Grid A = window g ns (single_steps g.lengths) ps in
          let w_whole = window-whole g whole ns (single_steps g.lengths) ps axes (length-replicate (length g.lengths) 1) b in
          let both = λ (js : List ℕ). product_of_both e.multiplication e.meaning (cell w js) (cell h js) in
          let each = λ (js : List ℕ) (inside : InBox ns js).
          (let (x, here) = cell-Some g whole (shifted_index js ps) (index-inside ps js b inside) in
          let (k, there) = cell-Some h whole_h js inside in
          let seen : cell w js ≡ cell g (shifted_index js ps) = tabulate-cell ns (λ is. cell g (window_index (single_steps g.lengths) ps is)) js w_whole inside ∙ ap (cell g) (sym (index-is ps js b inside)) in
          ap (λ o. product_of_both e.multiplication e.meaning o (cell h js)) seen ∙ both-some e.addition e.multiplication e.meaning g h (shifted_index js ps) js x k here there) in
          sym (products-along e.multiplication e.meaning (cell w) (cell h) (row_order ns) w.cells h.cells (in_rows w w_whole) (in_rows h whole_h))
          ∙ filter_map-from_map both (row_order ns) (map (product_at ps) (row_order ns))
          (map-same both (λ js. Some (product_at ps js)) (InBox ns) (row_order ns) each (row_order-is ns).within ∙ sym (map-map Some (product_at ps) (row_order ns)))

    -- product k at position i of a list
    abbrev product_in : List (List ℕ) → ℕ → ℕ → e.Carrier
    product_in pss i k = product_at (get_or pss i []) (get_or (row_order h.lengths) k [])

    -- sums at some positions, with the products for all index lists but those that are left
    pub record AddedProducts (pss left : List (List ℕ)) (sums : List A) : Type 0 where
      pub count : ℕ
      pub most : count ≤ length (row_order h.lengths)
      pub left_is : left ≡ drop count (row_order h.lengths)
      pub values : map e.meaning sums ≡ values_below (length pss) (λ i. total e.addition (values_below count (product_in pss i)))

    pub added-none : (pss left : List (List ℕ)) (sums : List A) (n : ℕ) (zero : A) → n ≡ length pss → e.meaning zero ≡ e.addition.unit → left ≡ row_order h.lengths → sums ≡ replicate n zero → AddedProducts pss left sums
    added-none pss left sums n zero many none all zeros = record {
      count = 0;
      most = omega arith;
      left_is = all;
      values = ap (map e.meaning) zeros ∙ (values-alike e.meaning zero e.addition.unit n none ∙ ap (λ k. values_below k (λ _. e.addition.unit)) many);
    }

    pub next-inside : (pss left rest : List (List ℕ)) (sums : List A) → AddedProducts pss left sums → (js : List ℕ) → left ≡ js ∷ rest → InBox h.lengths js
    next-inside pss left rest sums so_far js next =
        let at = first-left (row_order h.lengths) so_far.count js rest (sym so_far.left_is ∙ next) in
        subst (InBox h.lengths) at.1 ((row_order-is h.lengths).within so_far.count js at.0)

    module _ (can : CanSumWindows e g h) (whole_h : IsGrid h) (first : List ℕ) (axis n : ℕ) (within : All (InBox counts) (row_from first axis n)) where
      abbrev row : List (List ℕ)
      row = row_from first axis n

      -- an index counted from the first position
      pub first-as_many : 0 < n → (js : List ℕ) → InBox h.lengths js → length js ≡ length first
      first-as_many some js inside = InBox-length h.lengths js inside ∙ (can.shapes.as_many ∙ sym (as_many can.whole can.shapes.as_many first (row-first (InBox counts) first axis n some within)))

      pub first-room : 0 < n → IsWithinLimit g.lengths → (js : List ℕ) → InBox h.lengths js → (k : ℕ) → k < length first → get_or js k 0 + get_or first k 0 < 2 ^ 64
      first-room some limit js inside k lt =
          let b = row-first (InBox counts) first axis n some within in
          let many = as_many can.whole can.shapes.as_many first b in
          let same = first-as_many some js inside in
          let below = InBox-get g.lengths (shifted_index js first) k (index-inside can.whole can.shapes.as_many first js b inside) (omega (arith, lt, many)) in
          let sum = shifted-get js first k (omega (arith, lt, same)) lt in
          let fits = length-fits g.lengths k (omega (arith, lt, many)) limit in
          omega (arith, below, sum, fits)

      -- the run of cells that an index meets
      module _ (js : List ℕ) (inside : InBox h.lengths js) where
        pub run-within : All (InBox g.lengths) (row_from (shifted_index js first) axis n)
        run-within = subst (All (InBox g.lengths)) (sym (shifted-row js axis n first)) (All-map (InBox g.lengths) (shifted_index js) row (λ k d lt. index-inside can.whole can.shapes.as_many _ js (within k d lt) inside))

        run-values : map e.meaning (filter_map (cell g) (row_from (shifted_index js first) axis n)) ≡ values_below (length row) (λ i. value_at e g (shifted_index js (get_or row i [])))
        run-values =
            values-along g can.whole _ run-within
            ∙ (ap (map (value_at e g)) (shifted-row js axis n first)
            ∙ (map-map (value_at e g) (shifted_index js) row ∙ map-below (λ ps. value_at e g (shifted_index js ps)) row []))

      -- one index more
      module _ (left rest : List (List ℕ)) (sums : List A) (so_far : AddedProducts row left sums) (js : List ℕ) (next : left ≡ js ∷ rest) (x : A) (here : cell h js ≡ Some x)
          (ys : List A) (run : ys ≡ filter_map (cell g) (row_from (shifted_index js first) axis n)) where
        at : (so_far.count < length (row_order h.lengths)) × (get_or (row_order h.lengths) so_far.count js ≡ js) × (drop (so_far.count + 1) (row_order h.lengths) ≡ rest)
        at = first-left (row_order h.lengths) so_far.count js rest (sym so_far.left_is ∙ next)

        met : map e.meaning ys ≡ values_below (length row) (λ i. value_at e g (shifted_index js (get_or row i [])))
        met = ap (map e.meaning) run ∙ run-values js (next-inside row left rest sums so_far js next)

        products : (i : ℕ) → i < length row → e.multiplication.op (e.meaning x) (value_at e g (shifted_index js (get_or row i []))) ≡ product_in row i so_far.count
        products i lt =
            let same : js ≡ get_or (row_order h.lengths) so_far.count [] = sym at.1 ∙ get_or_default (row_order h.lengths) so_far.count js [] at.0 in
            ap (λ c. e.multiplication.op c (value_at e g (shifted_index js (get_or row i [])))) (sym (ap (value_or e.meaning e.addition.unit) here))
            ∙ ap (product_at (get_or row i [])) same

        pub can-add : CanAddScaledRow e x sums ys
        can-add =
            row-can_add e x (length row) so_far.count (product_in row) _ sums ys so_far.values met products (length (row_order h.lengths)) at.0
            (λ i lt.
            let b = within i [] lt in
            subst (IsSummable e.addition e.InRange) (products-are can.whole can.shapes.as_many whole_h (get_or row i []) b ∙ map-below (product_at (get_or row i [])) (row_order h.lengths) []) (can.sums (get_or row i []) b))

        pub added-more : (new : List A) → AddsScaledRow e x ys sums new → AddedProducts row rest new
        added-more new added = record {
          count = so_far.count + 1;
          most = omega (arith, at.0);
          left_is = sym at.2;
          values = row-added e x (length row) so_far.count (product_in row) _ sums ys so_far.values met products new added;
        }

      -- with none left
      pub added-all : (left : List (List ℕ)) (sums : List A) → left ≡ [] → AddedProducts row left sums → map e.meaning sums ≡ window_sums e g h row
      added-all left sums none so_far =
          let long = length-drop so_far.count (row_order h.lengths) in
          let ended = ap length (sym so_far.left_is ∙ none) in
          let most = so_far.most in
          let all : so_far.count ≡ length (row_order h.lengths) = omega (arith, long, ended, most) in
          so_far.values
          ∙ (below-same (length row) (λ i. total e.addition (values_below so_far.count (product_in row i))) (λ i. window_sum e g h (get_or row i []))
          (λ i lt.
          ap (λ k. total e.addition (values_below k (product_in row i))) all
          ∙ ap (total e.addition) (sym (products-are can.whole can.shapes.as_many whole_h (get_or row i []) (within i [] lt) ∙ map-below (product_at (get_or row i [])) (row_order h.lengths) [])))
          ∙ sym (map-below (window_sum e g h) row []))
