-- Totals of rectangles of an array of two axes, and its running totals along both.
use Rattle.std.proofs.Common.{◌≡◌, ◌∙◌, ℕ, ◌+◌, ◌-◌, ◌*◌, ◌<◌, ◌≤◌, List, [], ◌∷◌, length, map, set, get_or, Some, ap, sym, refl, arith, subst}
use Rattle.std.specs.List.{range_with_len}
use Rattle.std.proofs.lemmas.Simd.{map-map}
use Rattle.ndarray.specs.Algebra.{CommutativeMonoid}
use Rattle.ndarray.specs.Grid.{Grid, IsGrid, cell, cells_by}
use Rattle.ndarray.specs.Index.{InBox, row_order}
use Rattle.ndarray.specs.ScanLaws.{AreasAreTotals, HasRunningTotals, RectanglesAdd, rectangle}
use Rattle.ndarray.specs.Subviews.{window, window_index}
use Rattle.ndarray.specs.Sums.{total, total_by}
use Rattle.ndarray.specs.Views.{axis_part}
use Rattle.ndarray.proofs.algebra.AxisSums.{box-cons}
use Rattle.ndarray.proofs.algebra.RangeTotals.{over, over-later, over-more, over-same}
use Rattle.ndarray.proofs.algebra.RunningTotals.{at, running-at}
use Rattle.ndarray.proofs.algebra.Stacks.{tabulate-whole}
use Rattle.ndarray.proofs.algebra.Totals.{total-plus, total-same, total-swap, total_by-filter_map, value_of}
use Rattle.ndarray.proofs.boxes.Orders.{row_order-one}
use Rattle.ndarray.proofs.cells.Cells.{cell-Some, cell-inside, tabulate-cell, tabulate-same}

module _ {A : Type 0} (g : Grid A) (whole : IsGrid g) (rows columns : ℕ) (lengths : g.lengths ≡ rows ∷ columns ∷ []) where
  rows-cell : (a b i j : ℕ) → b ≤ rows → i < b - a → j < columns → cell (axis_part g 0 a b) (i ∷ j ∷ []) ≡ cell g ((a + i) ∷ j ∷ [])
  rows-cell a b i j most below within =
      let seen : set g.lengths 0 (b - a) ≡ (b - a) ∷ columns ∷ [] = ap (λ ns. set ns 0 (b - a)) lengths in
      tabulate-cell (set g.lengths 0 (b - a)) (λ is. cell g (set is 0 (a + get_or is 0 0))) (i ∷ j ∷ [])
      (tabulate-whole (set g.lengths 0 (b - a)) (λ is. cell g (set is 0 (a + get_or is 0 0))) (λ is inside. there is (subst (λ ns. InBox ns is) seen inside)))
      (subst (λ ns. InBox ns (i ∷ j ∷ [])) (sym seen) (below, (within, tt)))
    where
      there : (is : List ℕ) → InBox ((b - a) ∷ columns ∷ []) is → (x : A) × (cell g (set is 0 (a + get_or is 0 0)) ≡ Some x)
      there [] inside = absurd inside
      there (k ∷ []) inside = absurd inside.1
      there (k ∷ l ∷ []) inside = let lt = inside.0 in cell-Some g whole ((a + k) ∷ l ∷ []) (subst (λ ns. InBox ns ((a + k) ∷ l ∷ [])) (sym lengths) (omega (arith, lt, most), (inside.1.0, tt)))
      there (k ∷ l ∷ q ∷ is) inside = absurd inside.1.1

  -- a window of k rows and l columns is a rectangle
  window-is : (i j k l : ℕ) → i + k ≤ rows → j + l ≤ columns → window g (k ∷ l ∷ []) (1 ∷ 1 ∷ []) (i ∷ j ∷ []) ≡ rectangle g i (i + k) j (j + l)
  window-is i j k l most wide =
      tabulate-same (k ∷ l ∷ []) (set (set g.lengths 0 (i + k - i)) 1 (j + l - j)) (λ js. cell g (window_index (1 ∷ 1 ∷ []) (i ∷ j ∷ []) js)) (λ js. cell part (set js 1 (j + get_or js 1 0))) same each
    where
      part : Grid A
      part = axis_part g 0 i (i + k)

      same : k ∷ l ∷ [] ≡ set (set g.lengths 0 (i + k - i)) 1 (j + l - j)
      same =
          let high : i + k - i ≡ k = omega arith in
          let long : j + l - j ≡ l = omega arith in
          sym (ap (λ ns. set (set ns 0 (i + k - i)) 1 (j + l - j)) lengths ∙ (ap (λ n. n ∷ (j + l - j) ∷ []) high ∙ ap (λ n. k ∷ n ∷ []) long))

      each : (js : List ℕ) → InBox (k ∷ l ∷ []) js → cell g (window_index (1 ∷ 1 ∷ []) (i ∷ j ∷ []) js) ≡ cell part (set js 1 (j + get_or js 1 0))
      each [] inside = absurd inside
      each (r ∷ []) inside = absurd inside.1
      each (r ∷ c ∷ []) inside =
          let low = inside.0 in
          let near = inside.1.0 in
          let row : i * 1 + r ≡ i + r = omega arith in
          let column : j * 1 + c ≡ j + c = omega arith in
          ap (λ n. cell g (n ∷ (j * 1 + c) ∷ [])) row
          ∙ (ap (λ n. cell g ((i + r) ∷ n ∷ [])) column ∙ sym (rows-cell i (i + k) r (j + c) most (omega (arith, low)) (omega (arith, near, wide))))
      each (r ∷ c ∷ q ∷ js) inside = absurd inside.1.1

module _ {A C : Type 0} (plus : CommutativeMonoid C) (value : A → C) where
  module _ (g : Grid A) (whole : IsGrid g) (rows columns : ℕ) (lengths : g.lengths ≡ rows ∷ columns ∷ []) where
    -- n rows from one on, and of these m columns from one on
    abbrev area : ℕ → ℕ → ℕ → ℕ → C
    area a n c m = over plus (λ i. over plus (λ j. at plus value g (i ∷ j ∷ [])) c m) a n

    pub rectangle-total : (a b c d : ℕ) → b ≤ rows → d ≤ columns → c ≤ d → total_by plus value (rectangle g a b c d).cells ≡ area a (b - a) c (d - c)
    unfolding cells_by
    rectangle-total a b c d most wide up =
        total_by-filter_map plus value (λ is. cell part (set is 1 (c + get_or is 1 0))) (row_order (set (set g.lengths 0 (b - a)) 1 (d - c)))
        ∙ (ap (λ ns. total plus (map seen (row_order (set (set ns 0 (b - a)) 1 (d - c))))) lengths
        ∙ (box-cons plus seen (b - a) ((d - c) ∷ [])
        ∙ (total-same plus (λ i. total plus (map (λ is. seen (i ∷ is)) (row_order ((d - c) ∷ [])))) (λ i. over plus (λ j. seen (i ∷ j ∷ [])) 0 (d - c)) (range_with_len 0 (b - a))
        (λ i. ap (λ l. total plus (map (λ is. seen (i ∷ is)) l)) (row_order-one (d - c)) ∙ ap (total plus) (map-map (λ is. seen (i ∷ is)) (λ j. j ∷ []) (range_with_len 0 (d - c))))
        ∙ (over-same plus (λ i. over plus (λ j. seen (i ∷ j ∷ [])) 0 (d - c)) (λ i. over plus (λ j. at plus value g ((a + i) ∷ j ∷ [])) c (d - c)) (b - a)
        (λ i below. over-same plus (λ j. seen (i ∷ j ∷ [])) (λ j. at plus value g ((a + i) ∷ (c + j) ∷ [])) (d - c) (λ j within. ap (value_of plus value) (rows-cell g whole rows columns lengths a b i (c + j) most below (omega (arith, within, wide, up))))
        ∙ sym (over-later plus (λ j. at plus value g ((a + i) ∷ j ∷ [])) c (d - c)))
        ∙ sym (over-later plus (λ i. over plus (λ j. at plus value g (i ∷ j ∷ [])) c (d - c)) a (b - a))))))
      where
        part : Grid A
        part = axis_part g 0 a b

        seen : List ℕ → C
        seen is = value_of plus value (cell part (set is 1 (c + get_or is 1 0)))

    -- that of a rectangle from the first row and column on
    corner-total : (b d : ℕ) → b ≤ rows → d ≤ columns → total_by plus value (rectangle g 0 b 0 d).cells ≡ area 0 b 0 d
    corner-total b d most wide =
        let high : b - 0 ≡ b = omega arith in
        let long : d - 0 ≡ d = omega arith in
        rectangle-total 0 b 0 d most wide (omega arith) ∙ (ap (λ n. area 0 n 0 (d - 0)) high ∙ ap (area 0 b 0) long)

    -- more columns, and more rows
    wider : (a n c m : ℕ) → area a n 0 (c + m) ≡ plus.op (area a n 0 c) (area a n c m)
    wider a n c m =
        total-same plus (λ i. over plus (at_row i) 0 (c + m)) (λ i. plus.op (over plus (at_row i) 0 c) (over plus (at_row i) c m)) (range_with_len a n) (λ i. over-more plus (at_row i) c m)
        ∙ total-plus plus (λ i. over plus (at_row i) 0 c) (λ i. over plus (at_row i) c m) (range_with_len a n)
      where
        at_row : ℕ → ℕ → C
        at_row i j = at plus value g (i ∷ j ∷ [])

    taller : (a n c m : ℕ) → area 0 (a + n) c m ≡ plus.op (area 0 a c m) (area a n c m)
    taller a n c m = over-more plus (λ i. over plus (λ j. at plus value g (i ∷ j ∷ [])) c m) a n

    pub rectangles-add : (a b c d : ℕ) → a ≤ b → b ≤ rows → c ≤ d → d ≤ columns
        → plus.op (plus.op (total_by plus value (rectangle g a b c d).cells) (total_by plus value (rectangle g 0 a 0 d).cells)) (total_by plus value (rectangle g 0 b 0 c).cells)
        ≡ plus.op (total_by plus value (rectangle g 0 b 0 d).cells) (total_by plus value (rectangle g 0 a 0 c).cells)
    rectangles-add a b c d up most across wide =
        ap (λ t. plus.op (plus.op t (total_by plus value (rectangle g 0 a 0 d).cells)) (total_by plus value (rectangle g 0 b 0 c).cells)) (rectangle-total a b c d most wide across)
        ∙ (ap (λ t. plus.op (plus.op w t) (total_by plus value (rectangle g 0 b 0 c).cells)) (above ∙ sides)
        ∙ (ap (plus.op (plus.op w x)) (left ∙ left_sides)
        ∙ (turned
        ∙ sym (ap (λ t. plus.op t (total_by plus value (rectangle g 0 a 0 c).cells)) (all ∙ whole_sides) ∙ ap (plus.op (plus.op x (plus.op u w))) corner))))
      where
        h : ℕ
        h = b - a

        k : ℕ
        k = d - c

        p : C
        p = area 0 a 0 c

        x : C
        x = plus.op p (area 0 a c k)

        u : C
        u = area a h 0 c

        w : C
        w = area a h c k

        high : b ≡ a + h
        high = omega (arith, up)

        long : d ≡ c + k
        long = omega (arith, across)

        above : total_by plus value (rectangle g 0 a 0 d).cells ≡ area 0 a 0 d
        above = corner-total a d (omega (arith, up, most)) wide

        sides : area 0 a 0 d ≡ x
        sides = ap (area 0 a 0) long ∙ wider 0 a c k

        left : total_by plus value (rectangle g 0 b 0 c).cells ≡ area 0 b 0 c
        left = corner-total b c most (omega (arith, across, wide))

        left_sides : area 0 b 0 c ≡ plus.op p u
        left_sides = ap (λ n. area 0 n 0 c) high ∙ taller a h 0 c

        all : total_by plus value (rectangle g 0 b 0 d).cells ≡ area 0 b 0 d
        all = corner-total b d most wide

        whole_sides : area 0 b 0 d ≡ plus.op x (plus.op u w)
        whole_sides =
            ap (λ n. area 0 n 0 d) high
            ∙ (taller a h 0 d
            ∙ (ap (λ t. plus.op t (area a h 0 d)) sides ∙ ap (plus.op x) (ap (area a h 0) long ∙ wider a h c k)))

        corner : total_by plus value (rectangle g 0 a 0 c).cells ≡ p
        corner = corner-total a c (omega (arith, up, most)) (omega (arith, across, wide))

        turned : plus.op (plus.op w x) (plus.op p u) ≡ plus.op (plus.op x (plus.op u w)) p
        turned =
            ap (λ t. plus.op t (plus.op p u)) (plus.commutes w x)
            ∙ (ap (plus.op (plus.op x w)) (plus.commutes p u)
            ∙ (plus.associates x w (plus.op u p)
            ∙ (ap (plus.op x) (sym (plus.associates w u p) ∙ ap (λ t. plus.op t p) (plus.commutes w u)) ∙ sym (plus.associates x (plus.op u w) p))))

    pub area-up_to : (h r : Grid A) → HasRunningTotals plus value 0 g h → HasRunningTotals plus value 1 h r → (i j : ℕ) (z : A) → cell r (i ∷ j ∷ []) ≡ Some z
        → value z ≡ total_by plus value (rectangle g 0 (i + 1) 0 (j + 1)).cells
    area-up_to h r down across i j z here =
        sym (ap (value_of plus value) here)
        ∙ (running-at plus value 1 h r down.whole (subst (λ ns. 1 < length ns) (sym same) (omega arith)) across (i ∷ j ∷ []) (subst (λ ns. InBox ns (i ∷ j ∷ [])) (sym same) box)
        ∙ (over-same plus (λ q. at plus value h (i ∷ q ∷ [])) (λ q. over plus (λ n. at plus value g (n ∷ q ∷ [])) 0 (i + 1)) (j + 1)
        (λ q below. running-at plus value 0 g h whole (subst (λ ns. 0 < length ns) (sym lengths) (omega arith)) down (i ∷ q ∷ []) (subst (λ ns. InBox ns (i ∷ q ∷ [])) (sym lengths) (low, (omega (arith, below, wide), tt))))
        ∙ (total-swap plus (λ q n. at plus value g (n ∷ q ∷ [])) (range_with_len 0 (j + 1)) (range_with_len 0 (i + 1))
        ∙ sym (corner-total (i + 1) (j + 1) (omega (arith, low)) (omega (arith, wide))))))
      where
        same : h.lengths ≡ rows ∷ columns ∷ []
        same = down.lengths ∙ lengths

        box : InBox (rows ∷ columns ∷ []) (i ∷ j ∷ [])
        box = subst (λ ns. InBox ns (i ∷ j ∷ [])) (across.lengths ∙ same) (cell-inside r (i ∷ j ∷ []) z here)

        low : i < rows
        low = box.0

        wide : j < columns
        wide = box.1.0

-- an array of two axes has rows and columns
pub rows-and_columns : (ns : List ℕ) → length ns ≡ 2 → ns ≡ get_or ns 0 0 ∷ get_or ns 1 0 ∷ []
rows-and_columns [] two = absurd (omega (arith, two))
rows-and_columns (n ∷ []) two = absurd (omega (arith, two))
rows-and_columns (n ∷ m ∷ []) two = refl
rows-and_columns (n ∷ m ∷ k ∷ ns) two = absurd (omega (arith, two))

pub window-rectangle : {A : Type 0} (g : Grid A) → IsGrid g → length g.lengths ≡ 2 → (i j k l : ℕ) → i + k ≤ get_or g.lengths 0 0 → j + l ≤ get_or g.lengths 1 0
    → window g (k ∷ l ∷ []) (1 ∷ 1 ∷ []) (i ∷ j ∷ []) ≡ rectangle g i (i + k) j (j + l)
window-rectangle g whole two i j k l most wide = window-is g whole (get_or g.lengths 0 0) (get_or g.lengths 1 0) (rows-and_columns g.lengths two) i j k l most wide

pub areas-are_totals : {A C : Type 0} (plus : CommutativeMonoid C) (value : A → C) → AreasAreTotals plus value
areas-are_totals plus value g h r whole two down across i j z here =
    area-up_to plus value g whole (get_or g.lengths 0 0) (get_or g.lengths 1 0) (rows-and_columns g.lengths two) h r down across i j z here

pub rectangles_add : {A C : Type 0} (plus : CommutativeMonoid C) (value : A → C) → RectanglesAdd plus value
rectangles_add plus value g whole two a b c d up most across wide =
    rectangles-add plus value g whole (get_or g.lengths 0 0) (get_or g.lengths 1 0) (rows-and_columns g.lengths two) a b c d up most across wide
