-- A list as an array of one axis: its cells, its parts, and what it gives as a producer.
use Rattle.std.proofs.Common.{◌≡◌, ℕ, ◌+◌, ◌-◌, ◌<◌, ◌≤◌, zero, suc, ap, List, [], ◌∷◌, length, map, take, drop, set, get_or, reverse, Some, sym, ◌∙◌, refl, arith}
use Rattle.std.specs.Iterator.{YieldsFirstBy}
use Rattle.std.specs.List.{range_with_len}
use Rattle.std.specs.Prelude.{filter_map, slice_get}
use Rattle.std.proofs.lemmas.List.{get_or-take, get_or-drop, length-drop, length-take-le, take_rest}
use Rattle.std.proofs.lemmas.Option.{slice_get-get_or}
use Rattle.std.proofs.lemmas.Simd.{map-map}
use Rattle.ndarray.specs.Index.{InBox, row_order, column_order}
use Rattle.ndarray.specs.Grid.{Grid, IsGrid, cell, one_axis}
use Rattle.ndarray.specs.Orders.{box_in, cells_in}
use Rattle.ndarray.specs.Producers.{YieldsInTurn, IsPart}
use Rattle.ndarray.specs.Views.{axis_part}
use Rattle.ndarray.specs.base.Ranks.{rank}
use Rattle.ndarray.specs.declared.base.shape.Order.{Order}
use Rattle.ndarray.specs.declared.base.shape.Order.TheVariants.{RowMajor, ColumnMajor}
use Rattle.ndarray.proofs.cells.Cells.{along-row_order, cell-within, tabulate-is}
use Rattle.ndarray.proofs.lists.Elements.{slice_get-Some}
use Rattle.ndarray.proofs.boxes.Orders.{row_order-one}
use Rattle.ndarray.proofs.runs.Producers.{YieldsInTurn-cells, IsPart-axis_part}

-- an element of a part of a list
pub slice_get-part : {A : Type 0} (xs : List A) (n from i : ℕ) → i < n → from + n ≤ length xs → slice_get (take n (drop from xs)) i ≡ slice_get xs (from + i)
slice_get-part xs n from i lt le =
    let (d, e) = slice_get-Some xs (from + i) (omega arith) in
    let ld = length-drop from xs in
    let lt' = length-take-le n (drop from xs) (omega arith) in
    slice_get-get_or (take n (drop from xs)) i d (omega arith)
    ∙ (ap (λ x. Some x) (get_or-take n (drop from xs) i d lt ∙ get_or-drop from xs i d) ∙ sym (slice_get-get_or xs (from + i) d (omega arith)))

-- along one axis both orders are one
box_in-one : (o : Order) (n : ℕ) → box_in o (n ∷ []) ≡ row_order (n ∷ [])
unfolding column_order
box_in-one RowMajor n = refl
box_in-one ColumnMajor n = ap (map reverse) (row_order-one n) ∙ (map-map reverse (λ k. k ∷ []) (range_with_len 0 n) ∙ sym (row_order-one n))

module _ {A : Type 0} where
  pub one_axis-whole : (xs : List A) → IsGrid (one_axis xs)
  one_axis-whole xs = omega arith

  one_axis-cell : (xs : List A) (i : ℕ) → i < length xs → cell (one_axis xs) (i ∷ []) ≡ slice_get xs i
  unfolding rank
  one_axis-cell xs i lt = cell-within (one_axis xs) (one_axis-whole xs) (i ∷ []) (lt, tt) ∙ ap (slice_get xs) (omega arith)

  pub cells_in-one_axis : (o : Order) (xs : List A) → cells_in o (one_axis xs) ≡ xs
  cells_in-one_axis o xs = ap (filter_map (cell (one_axis xs))) (box_in-one o (length xs)) ∙ along-row_order (one_axis xs) (one_axis-whole xs)

  cell-one_axis_part : (xs : List A) (n from : ℕ) → from + n ≤ length xs → (is : List ℕ) → InBox (n ∷ []) is → cell (one_axis (take n (drop from xs))) is ≡ cell (one_axis xs) (set is 0 (from + get_or is 0 0))
  cell-one_axis_part xs n from le [] b = absurd b
  cell-one_axis_part xs n from le (i ∷ []) b =
      let ld = length-drop from xs in
      let lt = length-take-le n (drop from xs) (omega arith) in
      one_axis-cell (take n (drop from xs)) i (omega (arith, b.0)) ∙ (slice_get-part xs n from i b.0 le ∙ sym (one_axis-cell xs (from + i) (omega (arith, b.0))))
  cell-one_axis_part xs n from le (i ∷ j ∷ is) b = absurd b.1

  -- a part of the list is a part of the array
  pub one_axis-part : (xs : List A) (from to : ℕ) → from ≤ to → to ≤ length xs → one_axis (take (to - from) (drop from xs)) ≡ axis_part (one_axis xs) 0 from to
  one_axis-part xs from to le fits =
      let n : ℕ = to - from in
      let ld = length-drop from xs in
      let l : length (take n (drop from xs)) ≡ n = length-take-le n (drop from xs) (omega arith) in
      tabulate-is (one_axis (take n (drop from xs))) (n ∷ []) (λ is. cell (one_axis xs) (set is 0 (from + get_or is 0 0))) (one_axis-whole (take n (drop from xs))) (ap (λ m. m ∷ []) l)
      (λ is b. cell-one_axis_part xs n from (omega arith) is (rw (sym l) b))

  -- a number that is at most the length of the one axis
  pub at-most_line : (g : Grid A) (xs : List A) (axis n : ℕ) → one_axis xs ≡ g → axis < length g.lengths → n ≤ get_or g.lengths axis 0 → n ≤ length xs
  at-most_line g xs zero n is_line lt le = let all : length xs ≡ get_or g.lengths 0 0 = ap (λ v. get_or v.lengths 0 0) is_line in omega arith
  at-most_line g xs (suc axis) n is_line lt le = let one : 1 ≡ length g.lengths = ap (λ v. length v.lengths) is_line in absurd (omega arith)

module _ {A B : Type 0} (view : A → B) where
  -- an iterator gives the list that is still to come
  pub YieldsInTurn-one_axis : {S : Type 0} (rest : S → List B) (o : Order) {s : S} (xs : List B) → rest s ≡ xs → YieldsInTurn (YieldsFirstBy view rest) (λ i x. cell (one_axis xs) i ≡ Some (view x)) s (box_in o (length xs ∷ []))
  YieldsInTurn-one_axis rest o xs e = YieldsInTurn-cells view (one_axis xs) rest o (one_axis-whole xs) (e ∙ sym (cells_in-one_axis o xs))

  -- the first elements, and the others
  pub IsPart-first : (g : Grid B) (xs ys : List B) (axis n : ℕ) → one_axis xs ≡ g → axis < length g.lengths → n ≤ get_or g.lengths axis 0 → ys ≡ take n xs
      → IsPart axis 0 n g.lengths (λ i x. cell g i ≡ Some (view x)) (length ys ∷ []) (λ i x. cell (one_axis ys) i ≡ Some (view x))
  IsPart-first g xs ys zero n is_line lt le e =
      let all : length xs ≡ get_or g.lengths 0 0 = ap (λ v. get_or v.lengths 0 0) is_line in
      let whole : n ≡ n - 0 = omega arith in
      IsPart-axis_part view g (one_axis ys) 0 0 n (one_axis-whole ys)
      (ap one_axis e ∙ (ap (λ m. one_axis (take m xs)) whole ∙ (one_axis-part xs 0 n (omega arith) (omega arith) ∙ ap (λ v. axis_part v 0 0 n) is_line)))
  IsPart-first g xs ys (suc axis) n is_line lt le e = let one : 1 ≡ length g.lengths = ap (λ v. length v.lengths) is_line in absurd (omega arith)

  pub IsPart-rest : (g : Grid B) (xs ys : List B) (axis n : ℕ) → one_axis xs ≡ g → axis < length g.lengths → n ≤ get_or g.lengths axis 0 → ys ≡ drop n xs
      → IsPart axis n (get_or g.lengths axis 0) g.lengths (λ i x. cell g i ≡ Some (view x)) (length ys ∷ []) (λ i x. cell (one_axis ys) i ≡ Some (view x))
  IsPart-rest g xs ys zero n is_line lt le e =
      let all : length xs ≡ get_or g.lengths 0 0 = ap (λ v. get_or v.lengths 0 0) is_line in
      IsPart-axis_part view g (one_axis ys) 0 n (get_or g.lengths 0 0) (one_axis-whole ys)
      (ap one_axis (e ∙ sym (take_rest xs n)) ∙ (one_axis-part xs n (length xs) (omega arith) (omega arith) ∙ ap (λ v. axis_part v 0 n (get_or v.lengths 0 0)) is_line))
  IsPart-rest g xs ys (suc axis) n is_line lt le e = let one : 1 ≡ length g.lengths = ap (λ v. length v.lengths) is_line in absurd (omega arith)
