-- Sums of windows by summed areas.
use Rattle.ndarray.proofs.Common.{◌≡◌, ◌∙◌, ◌≤◌, ◌+◌, ◌+ℤ◌, ◌-ℤ◌, ℕ, zero, suc, ℤ, List, pos, [], ◌∷◌, FitsSigned, w64, ap, arith, get_or, ints, length, slice_index, subst, sym, Grid, IsGrid, InBox, array_by, array_by-at, array_by-follows, array_by-whole, cell-inside, int_sums, rectangle, total, value_or, window, window_counts, cell-Some, rectangle-in_range, two-lengths, window_count-valid, window-rectangle}
use Rattle.ndarray.specs.ScanLaws.{RectanglesAdd}
use Rattle.ndarray.specs.Sums.{IsSummable}
use Rattle.uses.specs.BoxSums.{AreSummedAreas, area, band, box_sums}

-- of whole numbers
twice-none : (w v : ℤ) → (w +ℤ w) +ℤ v ≡ w +ℤ v → w ≡ pos 0
twice-none w v e = omega (arith, ints, e)

around-none : (w v : ℤ) → (w +ℤ v) +ℤ w ≡ w +ℤ v → w ≡ pos 0
around-none w v e = omega (arith, ints, e)

rest-of_two : (w x u d p : ℤ) → (w +ℤ x) +ℤ u ≡ d +ℤ p → u ≡ pos 0 → p ≡ pos 0 → d -ℤ x ≡ w
rest-of_two w x u d p e none also = omega (arith, ints, e, none, also)

rest-of_four : (w x u d p : ℤ) → (w +ℤ x) +ℤ u ≡ d +ℤ p → (d -ℤ x) -ℤ (u -ℤ p) ≡ w
rest-of_four w x u d p e = omega (arith, ints, e)

-- a window at an index list of the windows ends within the table
pub window-ends : (table : Grid ℤ) → length table.lengths ≡ 2 → (k l i j : ℕ) → InBox (window_counts table.lengths (k ∷ l ∷ []) (1 ∷ 1 ∷ [])) (i ∷ j ∷ []) → (i + k ≤ get_or table.lengths 0 0) × (j + l ≤ get_or table.lengths 1 0)
window-ends table two k l i j inside =
    let b = subst (λ ns. InBox (window_counts ns (k ∷ l ∷ []) (1 ∷ 1 ∷ [])) (i ∷ j ∷ [])) (two-lengths table.lengths two) inside in
    let low = b.0 in
    let near = b.1.0 in
    let rows = window_count-valid (get_or table.lengths 0 0) k in
    let columns = window_count-valid (get_or table.lengths 1 0) l in
    (omega (arith, low, rows), omega (arith, near, columns))

-- by four cells, at an index list
abbrev pub four_cells : ℕ → ℕ → Grid ℤ → List ℕ → ℤ
four_cells k l areas is = band areas (slice_index is 0) (slice_index is 0 + k) (slice_index is 1 + l) -ℤ band areas (slice_index is 0) (slice_index is 0 + k) (slice_index is 1)

module _ (table areas : Grid ℤ) (whole : IsGrid table) (two : length table.lengths ≡ 2) (has : AreSummedAreas table areas) (adds : RectanglesAdd int_sums (λ x. x)) where
  abbrev rows : ℕ
  rows = get_or table.lengths 0 0

  abbrev columns : ℕ
  columns = get_or table.lengths 1 0

  -- the sum of a rectangle
  abbrev sum : ℕ → ℕ → ℕ → ℕ → ℤ
  sum a b c d = total int_sums (rectangle table a b c d).cells

  no-rows : (d : ℕ) → d ≤ columns → sum 0 0 0 d ≡ pos 0
  no-rows d wide = twice-none (sum 0 0 0 d) (sum 0 0 0 0) (adds table whole two 0 0 0 d (omega arith) (omega arith) (omega arith) wide)

  no-columns : (b : ℕ) → b ≤ rows → sum 0 b 0 0 ≡ pos 0
  no-columns b most = around-none (sum 0 b 0 0) (sum 0 0 0 0) (adds table whole two 0 b 0 0 (omega arith) most (omega arith) (omega arith))

  -- what the summed areas have for the first rows and columns
  area-is : (b d : ℕ) → b ≤ rows → d ≤ columns → area areas b d ≡ sum 0 b 0 d
  area-is zero d most wide = sym (no-rows d wide)
  area-is (suc i) zero most wide = sym (no-columns (suc i) most)
  area-is (suc i) (suc j) most wide =
      let inside : InBox areas.lengths (i ∷ j ∷ []) = subst (λ ns. InBox ns (i ∷ j ∷ [])) (sym (has.lengths ∙ two-lengths table.lengths two)) (omega (arith, most), (omega (arith, wide), tt)) in
      let (z, here) = cell-Some areas has.whole (i ∷ j ∷ []) inside in
      let row : i + 1 ≡ suc i = omega arith in
      let column : j + 1 ≡ suc j = omega arith in
      ap (value_or (λ x. x) (pos 0)) here ∙ (has.sums i j z here ∙ (ap (λ n. sum 0 n 0 (j + 1)) row ∙ ap (sum 0 (suc i) 0) column))

  module _ (a b : ℕ) (up : a ≤ b) (most : b ≤ rows) where
    band-is : (d : ℕ) → d ≤ columns → band areas a b d ≡ sum a b 0 d
    band-is d wide =
        ap (λ z. z -ℤ area areas a d) (area-is b d most wide)
        ∙ (ap (λ z. sum 0 b 0 d -ℤ z) (area-is a d (omega (arith, up, most)) wide)
        ∙ rest-of_two (sum a b 0 d) (sum 0 a 0 d) (sum 0 b 0 0) (sum 0 b 0 d) (sum 0 a 0 0) (adds table whole two a b 0 d up most (omega arith) wide) (no-columns b most) (no-columns a (omega (arith, up, most))))

    pub box-is : (c d : ℕ) → c ≤ d → d ≤ columns → band areas a b d -ℤ band areas a b c ≡ sum a b c d
    box-is c d across wide =
        let near : c ≤ columns = omega (arith, across, wide) in
        let high : a ≤ rows = omega (arith, up, most) in
        ap (λ z. (z -ℤ area areas a d) -ℤ band areas a b c) (area-is b d most wide)
        ∙ (ap (λ z. (sum 0 b 0 d -ℤ z) -ℤ band areas a b c) (area-is a d high wide)
        ∙ (ap (λ z. (sum 0 b 0 d -ℤ sum 0 a 0 d) -ℤ (z -ℤ area areas a c)) (area-is b c most near)
        ∙ (ap (λ z. (sum 0 b 0 d -ℤ sum 0 a 0 d) -ℤ (sum 0 b 0 c -ℤ z)) (area-is a c high near)
        ∙ rest-of_four (sum a b c d) (sum 0 a 0 d) (sum 0 b 0 c) (sum 0 b 0 d) (sum 0 a 0 c) (adds table whole two a b c d up most across wide))))

    module _ (fits : IsSummable int_sums (FitsSigned w64) table.cells) where
      pub band-fits : (d : ℕ) → d ≤ columns → FitsSigned w64 (band areas a b d)
      band-fits d wide = subst (FitsSigned w64) (sym (band-is d wide)) (rectangle-in_range int_sums (FitsSigned w64) (λ x. x) table whole two fits a b 0 d up most (omega arith) wide)

      pub box-fits : (c d : ℕ) → c ≤ d → d ≤ columns → FitsSigned w64 (band areas a b d -ℤ band areas a b c)
      box-fits c d across wide = subst (FitsSigned w64) (sym (box-is c d across wide)) (rectangle-in_range int_sums (FitsSigned w64) (λ x. x) table whole two fits a b c d up most across wide)

  -- the four cells are the sum of a window
  pub window-sum : (i j k l : ℕ) → i + k ≤ rows → j + l ≤ columns → band areas i (i + k) (j + l) -ℤ band areas i (i + k) j ≡ total int_sums (window table (k ∷ l ∷ []) (1 ∷ 1 ∷ []) (i ∷ j ∷ [])).cells
  window-sum i j k l most wide =
      box-is i (i + k) (omega arith) most j (j + l) (omega arith) wide
      ∙ sym (ap (λ w. total int_sums w.cells) (window-rectangle table whole two i j k l most wide))

  -- so the array of these is that of the windows' sums
  pub boxes-are : (k l : ℕ) (ns : List ℕ) (sums : Grid ℤ) → ns ≡ window_counts table.lengths (k ∷ l ∷ []) (1 ∷ 1 ∷ []) → sums ≡ array_by ns (four_cells k l areas) → sums ≡ box_sums k l table
  boxes-are k l ns sums counts made =
      array_by-follows sums (window_counts table.lengths (k ∷ l ∷ []) (1 ∷ 1 ∷ [])) (λ is. total int_sums (window table (k ∷ l ∷ []) (1 ∷ 1 ∷ []) is).cells)
      (subst IsGrid (sym made) (array_by-whole ns (four_cells k l areas))) (ap (λ g. g.lengths) made ∙ counts)
      (λ is z here.
      let inside = cell-inside sums is z here in
      array_by-at ns (four_cells k l areas) sums is z made inside here ∙ at is (subst (λ ms. InBox ms is) (ap (λ g. g.lengths) made ∙ (counts ∙ ap (λ ms. window_counts ms (k ∷ l ∷ []) (1 ∷ 1 ∷ [])) (two-lengths table.lengths two))) inside))
    where
      at : (is : List ℕ) → InBox (window_counts (rows ∷ columns ∷ []) (k ∷ l ∷ []) (1 ∷ 1 ∷ [])) is → four_cells k l areas is ≡ total int_sums (window table (k ∷ l ∷ []) (1 ∷ 1 ∷ []) is).cells
      at [] b = absurd b
      at (i ∷ []) b = absurd b.1
      at (i ∷ j ∷ []) b =
          let ends = window-ends table two k l i j (subst (λ ms. InBox (window_counts ms (k ∷ l ∷ []) (1 ∷ 1 ∷ [])) (i ∷ j ∷ [])) (sym (two-lengths table.lengths two)) b) in
          window-sum i j k l ends.0 ends.1
      at (i ∷ j ∷ q ∷ is) b = absurd b.1.1
