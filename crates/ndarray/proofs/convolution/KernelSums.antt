-- The valid convolution by the kernel's own indices: along one axis the sum over the kernel's elements, of two axes over its rows and columns.
use Rattle.std.proofs.Common.{◌≡◌, ℕ, ◌+◌, ◌-◌, ◌*◌, ◌<◌, List, [], ◌∷◌, filter_map, length, map, replicate, reverse, Some, refl, sym, ap, ◌∙◌, arith}
use Rattle.std.specs.List.{range_with_len}
use Rattle.std.proofs.lemmas.List.{length-replicate}
use Rattle.std.proofs.lemmas.List.Sorted.{IsPermutation-reverse}
use Rattle.std.proofs.lemmas.Simd.{map-map}
use Rattle.ndarray.specs.Algebra.{CommutativeMonoid}
use Rattle.ndarray.specs.Convolution.{mirrored, product_of_both, single_steps, valid_counts, valid_products}
use Rattle.ndarray.specs.Grid.{Grid, IsGrid, cell}
use Rattle.ndarray.specs.Index.{InBox, row_order}
use Rattle.ndarray.specs.Matrices.{values_below}
use Rattle.ndarray.specs.Products.{value_or}
use Rattle.ndarray.specs.Subviews.{window, window_index}
use Rattle.ndarray.specs.Sums.{total}
use Rattle.ndarray.proofs.algebra.Totals.{total-flat}
use Rattle.ndarray.proofs.boxes.Orders.{row_order-is}
use Rattle.ndarray.proofs.cells.Cells.{cell-Some, tabulate-cell}
use Rattle.ndarray.proofs.convolution.Mirrors.{row_order-mirrored}
use Rattle.ndarray.proofs.convolution.OneAxis.{row_order-one}
use Rattle.ndarray.proofs.sums.RowSums.{map-range-below}
use Rattle.ndarray.proofs.convolution.ProductLists.{filter_map-map}
use Rattle.ndarray.proofs.convolution.Swapped.{reverse-filter_map}
use Rattle.ndarray.proofs.convolution.ValueSums.{below-same}
use Rattle.ndarray.proofs.convolution.WholeWindows.{window-whole}
use Rattle.ndarray.proofs.lists.Elements.{filter_map-from_map, map-same}
use Rattle.ndarray.proofs.pieces.Windows.{window-inside}
use Rattle.ndarray.proofs.sums.Rearrangements.{total-rearranged}

-- the index list counted from the other end stays in the box, and twice is the list itself
pub mirrored-inside : (ns is : List ℕ) → InBox ns is → InBox ns (mirrored ns is)
mirrored-inside [] is b = tt
mirrored-inside (n ∷ ns) [] b = absurd b
mirrored-inside (n ∷ ns) (i ∷ is) b = let k : i < n = b.0 in (omega (arith, k), mirrored-inside ns is b.1)

mirrored-mirrored : (ns is : List ℕ) → InBox ns is → mirrored ns (mirrored ns is) ≡ is
mirrored-mirrored [] [] b = refl
mirrored-mirrored [] (i ∷ is) b = absurd b
mirrored-mirrored (n ∷ ns) [] b = absurd b
mirrored-mirrored (n ∷ ns) (i ∷ is) b =
    let k : i < n = b.0 in
    let e : n - 1 - (n - 1 - i) ≡ i = omega (arith, k) in
    ap (λ j. j ∷ mirrored ns (mirrored ns is)) e ∙ ap (λ l. i ∷ l) (mirrored-mirrored ns is b.1)

module _ {A C : Type 0} (plus times : CommutativeMonoid C) (value : A → C) where
  -- the value at an index list, and zero outside the box
  abbrev at : Grid A → List ℕ → C
  at g is = value_or value plus.unit (cell g is)

  pub both-some : (g h : Grid A) (is js : List ℕ) (x k : A) → cell g is ≡ Some x → cell h js ≡ Some k → product_of_both times value (cell g is) (cell h js) ≡ Some (times.op (at h js) (at g is))
  both-some g h is js x k p q = rw (p, q) (ap (λ t. Some t) (times.commutes (value x) (value k)))

  module _ (g kernel : Grid A) (whole : IsGrid g) (whole_kernel : IsGrid kernel) (axes : length kernel.lengths ≡ length g.lengths) (ps : List ℕ) (b : InBox (valid_counts g.lengths kernel.lengths) ps) where
    abbrev ns : List ℕ
    ns = kernel.lengths

    abbrev steps : List ℕ
    steps = single_steps g.lengths

    -- the product of the kernel's cell at an index list and the cell that meets it
    abbrev product_at : List ℕ → C
    product_at js = times.op (at kernel js) (at g (window_index steps ps (mirrored ns js)))

    term : (js : List ℕ) → InBox ns js → product_of_both times value (cell (window g ns steps ps) (mirrored ns js)) (cell kernel (mirrored ns (mirrored ns js))) ≡ Some (product_at js)
    term js inside =
        let ms : List ℕ = mirrored ns js in
        let within : InBox ns ms = mirrored-inside ns js inside in
        let (x, here) = cell-Some g whole (window_index steps ps ms) (window-inside g.lengths ns steps ps ms axes (length-replicate (length g.lengths) 1) b within) in
        let (k, there) = cell-Some kernel whole_kernel js inside in
        let seen : cell (window g ns steps ps) ms ≡ cell g (window_index steps ps ms) = tabulate-cell ns (λ is. cell g (window_index steps ps is)) ms (window-whole g whole ns steps ps axes (length-replicate (length g.lengths) 1) b) within in
        ap (λ o. product_of_both times value o (cell kernel (mirrored ns ms))) seen
        ∙ (ap (λ is. product_of_both times value (cell g (window_index steps ps ms)) (cell kernel is)) (mirrored-mirrored ns js inside)
        ∙ both-some g kernel (window_index steps ps ms) js x k here there)

    pub products-total : total plus (valid_products times value g kernel ps) ≡ total plus (map product_at (row_order ns))
    products-total =
        let at_place = λ (js : List ℕ). product_of_both times value (cell (window g ns steps ps) js) (cell kernel (mirrored ns js)) in
        let list = filter_map at_place (row_order ns) in
        let each : map (λ js. at_place (mirrored ns js)) (row_order ns) ≡ map (λ js. Some (product_at js)) (row_order ns) = map-same (λ js. at_place (mirrored ns js)) (λ js. Some (product_at js)) (InBox ns) (row_order ns) term (row_order-is ns).within in
        sym (total-rearranged plus list (reverse list) (IsPermutation-reverse list))
        ∙ ap (total plus)
        (reverse-filter_map at_place (row_order ns)
        ∙ (ap (filter_map at_place) (sym (row_order-mirrored ns))
        ∙ (filter_map-map (mirrored ns) at_place (row_order ns)
        ∙ filter_map-from_map (λ js. at_place (mirrored ns js)) (row_order ns) (map product_at (row_order ns)) (each ∙ sym (map-map Some product_at (row_order ns))))))

  total-two : (f : List ℕ → C) (m n : ℕ) → total plus (map f (row_order (m ∷ n ∷ []))) ≡ total plus (values_below m (λ i. total plus (values_below n (λ j. f (i ∷ j ∷ [])))))
  unfolding row_order
  total-two f m n =
      let row = λ (i : ℕ). map (λ is. i ∷ is) (row_order (n ∷ [])) in
      let each = λ (i : ℕ). map-map f (λ is. i ∷ is) (row_order (n ∷ [])) ∙ (ap (map (λ is. f (i ∷ is))) (row_order-one n) ∙ (map-map (λ is. f (i ∷ is)) (λ j. j ∷ []) (range_with_len 0 n) ∙ map-range-below (λ j. f (i ∷ j ∷ [])) n)) in
      total-flat plus f row (range_with_len 0 m)
      ∙ ap (total plus) (map-range-below (λ i. total plus (map f (row i))) m ∙ below-same m m (λ i. total plus (map f (row i))) (λ i. total plus (values_below n (λ j. f (i ∷ j ∷ [])))) refl (λ i l. ap (total plus) (each i)))

  -- with two axes: at row r and column c, the sum over i and j of the kernel's value at i and j times the array's value at r + m - 1 - i and c + n - 1 - j
  pub double-sum : (g kernel : Grid A) (m n r c : ℕ) → IsGrid g → IsGrid kernel → length g.lengths ≡ 2 → kernel.lengths ≡ m ∷ n ∷ [] → InBox (valid_counts g.lengths kernel.lengths) (r ∷ c ∷ [])
      → total plus (valid_products times value g kernel (r ∷ c ∷ []))
      ≡ total plus (values_below m (λ i. total plus (values_below n (λ j. times.op (at kernel (i ∷ j ∷ [])) (at g ((r + (m - 1) - i) ∷ (c + (n - 1) - j) ∷ []))))))
  double-sum g kernel m n r c whole whole_kernel two lengths b =
      let axes : length kernel.lengths ≡ length g.lengths = ap length lengths ∙ sym two in
      let f = λ (js : List ℕ). times.op (at kernel js) (at g (window_index (1 ∷ 1 ∷ []) (r ∷ c ∷ []) (mirrored (m ∷ n ∷ []) js))) in
      let steps : single_steps g.lengths ≡ 1 ∷ 1 ∷ [] = ap (λ k. replicate k 1) two in
      products-total g kernel whole whole_kernel axes (r ∷ c ∷ []) b
      ∙ (ap (λ ss. total plus (map (λ js. times.op (at kernel js) (at g (window_index ss (r ∷ c ∷ []) (mirrored kernel.lengths js)))) (row_order kernel.lengths))) steps
      ∙ (ap (λ ms. total plus (map (λ js. times.op (at kernel js) (at g (window_index (1 ∷ 1 ∷ []) (r ∷ c ∷ []) (mirrored ms js)))) (row_order ms))) lengths
      ∙ (total-two f m n
      ∙ ap (total plus) (below-same m m _ _ refl (λ i l. ap (total plus) (below-same n n _ _ refl (λ j k.
      let row : r * 1 + (m - 1 - i) ≡ r + (m - 1) - i = omega arith in
      let column : c * 1 + (n - 1 - j) ≡ c + (n - 1) - j = omega arith in
      ap (λ t. times.op (at kernel (i ∷ j ∷ [])) (at g (t ∷ (c * 1 + (n - 1 - j)) ∷ []))) row
      ∙ ap (λ t. times.op (at kernel (i ∷ j ∷ [])) (at g ((r + (m - 1) - i) ∷ t ∷ []))) column)))))))

  -- along one axis: at position p, the sum over j of the kernel's value at j times the array's value at p + m - 1 - j
  pub single-sum : (g kernel : Grid A) (m p : ℕ) → IsGrid g → IsGrid kernel → length g.lengths ≡ 1 → kernel.lengths ≡ m ∷ [] → InBox (valid_counts g.lengths kernel.lengths) (p ∷ [])
      → total plus (valid_products times value g kernel (p ∷ [])) ≡ total plus (values_below m (λ j. times.op (at kernel (j ∷ [])) (at g ((p + (m - 1) - j) ∷ []))))
  single-sum g kernel m p whole whole_kernel one lengths b =
      let axes : length kernel.lengths ≡ length g.lengths = ap length lengths ∙ sym one in
      let f = λ (js : List ℕ). times.op (at kernel js) (at g (window_index (1 ∷ []) (p ∷ []) (mirrored (m ∷ []) js))) in
      let steps : single_steps g.lengths ≡ 1 ∷ [] = ap (λ k. replicate k 1) one in
      products-total g kernel whole whole_kernel axes (p ∷ []) b
      ∙ (ap (λ ss. total plus (map (λ js. times.op (at kernel js) (at g (window_index ss (p ∷ []) (mirrored kernel.lengths js)))) (row_order kernel.lengths))) steps
      ∙ (ap (λ ms. total plus (map (λ js. times.op (at kernel js) (at g (window_index (1 ∷ []) (p ∷ []) (mirrored ms js)))) (row_order ms))) lengths
      ∙ ap (total plus)
      (ap (map f) (row_order-one m)
      ∙ (map-map f (λ j. j ∷ []) (range_with_len 0 m)
      ∙ (map-range-below (λ j. f (j ∷ [])) m
      ∙ below-same m m _ _ refl (λ j k.
      let place : p * 1 + (m - 1 - j) ≡ p + (m - 1) - j = omega arith in
      ap (λ t. times.op (at kernel (j ∷ [])) (at g (t ∷ []))) place))))))
