-- Diagonals of the last two axes that are kept.
use Rattle.std.proofs.Common.{◌≡◌, ◌-◌, ◌<◌, ◌≤◌, ◌^◌, inl, inr, ℕ, List, ◌∷◌, Option, Some, Bool, true, false, length, get_or, refl, sym, ◌∙◌, ap, arith, w64}
use Rattle.std.specs.Prelude.{FitsSigned, ℤ, pos, negsuc, ◌≤ℤ◌, int_le, nat_lt, T, ◌&&◌, All, filter_map, if◌then◌else◌}
use Rattle.std.proofs.Math.Bool.{and-true}
use Rattle.std.proofs.lemmas.Bool.{cases_lt, false_from_ne_true, le-ltb, lt-ltb}
use Rattle.std.proofs.lemmas.Float.{T_from_true}
use Rattle.std.proofs.lemmas.Int.{ints}
use Rattle.ndarray.specs.Grid.{Grid, IsGrid, cell, grid, tabulate, cells_by}
use Rattle.ndarray.specs.Index.{InBox, row_order, size}
use Rattle.ndarray.specs.Limits.{nonzero_size}
use Rattle.ndarray.specs.Triangles.{column_minus_row, diagonals_kept, lower_triangle, upper_triangle}
use Rattle.ndarray.proofs.boxes.Boxes.{InBox-length, InBox-get}
use Rattle.ndarray.proofs.boxes.Orders.{length-row_order, row_order-is}
use Rattle.ndarray.proofs.boxes.Sizes.{length-fits}
use Rattle.ndarray.proofs.cells.Cells.{cell-Some, tabulate-same}
use Rattle.ndarray.proofs.lists.Elements.{length-filter_map_all}
use Rattle.std.proofs.lemmas.List.{get_or_default}

module _ {A : Type 0} (keeps : ℤ → Bool) (zero_cell : A) (g : Grid A) where
  -- the cell on a diagonal that is kept, else zero
  abbrev pub kept_at : List ℕ → Option A
  kept_at is = if keeps (column_minus_row is) then cell g is else Some zero_cell

  module _ (whole : IsGrid g) where
    kept-Some : (is : List ℕ) → InBox g.lengths is → (x : A) × (kept_at is ≡ Some x)
    kept-Some is b = either (keeps (column_minus_row is)) (cell-Some g whole is b)
      where
        either : (t : Bool) → (x : A) × (cell g is ≡ Some x) → (x : A) × ((if t then cell g is else Some zero_cell) ≡ Some x)
        either true s = s
        either false s = (zero_cell, refl)

    pub length-kept : (ys : List (List ℕ)) → All (InBox g.lengths) ys → length (filter_map kept_at ys) ≡ length ys
    length-kept ys h = length-filter_map_all kept_at ys (λ k d lt. kept-Some (get_or ys k d) (h k d lt))

    pub length-all_kept : length (filter_map kept_at (row_order g.lengths)) ≡ size g.lengths
    length-all_kept = length-kept (row_order g.lengths) (row_order-is g.lengths).within ∙ length-row_order g.lengths

    -- what is kept at the next index list
    pub next-kept : (ys later : List (List ℕ)) (is : List ℕ) (y : A) → ys ≡ is ∷ later → kept_at is ≡ Some y → filter_map kept_at ys ≡ y ∷ filter_map kept_at later
    next-kept ys later is y e s = rw (e, s) refl

    -- the array of all of them
    pub diagonals-of : (r : Grid A) → 2 ≤ length g.lengths → r.lengths ≡ g.lengths → r.cells ≡ filter_map kept_at (row_order g.lengths) → r ≡ diagonals_kept keeps zero_cell g
    unfolding cells_by
    diagonals-of r axes lengths cells =
        ap (λ ns. grid ns r.cells) lengths
        ∙ (ap (grid g.lengths) cells
        ∙ sym (ap (λ t. if t then g else grid g.lengths (filter_map kept_at (row_order g.lengths))) (le-ltb (length g.lengths) 2 axes)))

-- an array of which some diagonals are kept has the array's lengths
pub lengths-kept : {A : Type 0} (keeps : ℤ → Bool) (zero_cell : A) (g : Grid A) → (diagonals_kept keeps zero_cell g).lengths ≡ g.lengths
lengths-kept {A} keeps zero_cell g = either (nat_lt (length g.lengths) 2)
  where
    either : (t : Bool) → (if t then g else tabulate g.lengths (kept_at keeps zero_cell g)).lengths ≡ g.lengths
    either true = refl
    either false = refl

-- indices of a shape within the limit fit a signed word
pub indices-fit : (ns is : List ℕ) → nonzero_size ns < 2 ^ 63 → InBox ns is → All (λ i. i < 2 ^ 63) is
indices-fit ns is limit b k d lt =
    let l = InBox-length ns is b in
    let here = InBox-get ns is k b (omega (arith, l, lt)) in
    let fits = length-fits ns k (omega (arith, l, lt)) limit in
    let same = get_or_default is k 0 d lt in
    omega (arith, here, fits, same)

-- what is kept by two tests that agree at each index list
module _ {A : Type 0} (keeps others : ℤ → Bool) (zero_cell : A) (g : Grid A) (agree : (is : List ℕ) → InBox g.lengths is → 2 ≤ length g.lengths → keeps (column_minus_row is) ≡ others (column_minus_row is)) where
  pub diagonals-alike : diagonals_kept keeps zero_cell g ≡ diagonals_kept others zero_cell g
  diagonals-alike = elim (cases_lt (length g.lengths) 2) [
    | inl few ↦
        ap (λ t. if t then g else tabulate g.lengths (kept_at keeps zero_cell g)) (lt-ltb (length g.lengths) 2 few)
        ∙ sym (ap (λ t. if t then g else tabulate g.lengths (kept_at others zero_cell g)) (lt-ltb (length g.lengths) 2 few))
    | inr axes ↦
        ap (λ t. if t then g else tabulate g.lengths (kept_at keeps zero_cell g)) (le-ltb (length g.lengths) 2 axes)
        ∙ (tabulate-same g.lengths g.lengths (kept_at keeps zero_cell g) (kept_at others zero_cell g) refl
        (λ is b. ap (λ t. if t then cell g is else Some zero_cell) (agree is b axes))
        ∙ sym (ap (λ t. if t then g else tabulate g.lengths (kept_at others zero_cell g)) (le-ltb (length g.lengths) 2 axes)))
  ]

-- the difference of two indices is a signed word
module _ (ns is : List ℕ) (limit : nonzero_size ns < 2 ^ 63) (b : InBox ns is) (axes : 2 ≤ length ns) where
  pub difference-fits : (negsuc (2 ^ 63 - 2) ≤ℤ column_minus_row is) × (column_minus_row is ≤ℤ pos (2 ^ 63 - 1))
  difference-fits =
      let l = InBox-length ns is b in
      let fit = indices-fit ns is limit b in
      let column : get_or is (length is - 1) 0 < 2 ^ 63 = fit (length is - 1) 0 (omega arith) in
      let row : get_or is (length is - 2) 0 < 2 ^ 63 = fit (length is - 2) 0 (omega arith) in
      (omega (arith, ints), omega (arith, ints))

  pub difference-word : FitsSigned w64 (column_minus_row is)
  difference-word = word (column_minus_row is) difference-fits.0 difference-fits.1
    where
      word : (z : ℤ) → negsuc (2 ^ 63 - 2) ≤ℤ z → z ≤ℤ pos (2 ^ 63 - 1) → FitsSigned w64 z
      word (pos n) low high = record { sfits = omega (arith, ints, high) }
      word (negsuc n) low high = record { sfits = omega (arith, ints, low) }

-- what a test of whole numbers answers
pub int_le-true : (x y : ℤ) → x ≤ℤ y → int_le x y ≡ true
int_le-true x y h = of_T (int_le x y) h.le
  where
    of_T : (t : Bool) → T t → t ≡ true
    of_T true h = refl
    of_T false h = absurd h

pub int_le-false : (x y : ℤ) → (x ≤ℤ y → ⊥) → int_le x y ≡ false
int_le-false x y above = false_from_ne_true (int_le x y) (λ e. above (record { le = T_from_true (int_le x y) e }))

-- a bound that every difference of indices keeps
module _ {A : Type 0} (k : ℤ) (zero_cell : A) (g : Grid A) (limit : nonzero_size g.lengths < 2 ^ 63) where
  pub upper-is : diagonals_kept (λ d. int_le k d && int_le d (pos 9223372036854775807)) zero_cell g ≡ upper_triangle k zero_cell g
  upper-is =
      diagonals-alike (λ d. int_le k d && int_le d (pos 9223372036854775807)) (λ d. int_le k d) zero_cell g
      (λ is b axes.
      let d : ℤ = column_minus_row is in
      ap (λ t. int_le k d && t) (int_le-true d (pos 9223372036854775807) (difference-fits g.lengths is limit b axes).1) ∙ and-true (int_le k d))

  pub lower-is : diagonals_kept (λ d. int_le (negsuc 9223372036854775806) d && int_le d k) zero_cell g ≡ lower_triangle k zero_cell g
  lower-is =
      diagonals-alike (λ d. int_le (negsuc 9223372036854775806) d && int_le d k) (λ d. int_le d k) zero_cell g
      (λ is b axes.
      let d : ℤ = column_minus_row is in
      ap (λ t. t && int_le d k) (int_le-true (negsuc 9223372036854775806) d (difference-fits g.lengths is limit b axes).0))
