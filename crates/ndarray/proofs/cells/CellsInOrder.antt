-- Arrays and their cells in an order.
use Rattle.std.proofs.Common.{◌≡◌, ℕ, zero, suc, List, [], ◌∷◌, map, length, Some, sym, ◌∙◌, ap, subst}
use Rattle.std.specs.Prelude.{reverse, slice_get, filter_map, All}
use Rattle.std.specs.List.{AllZip}
use Rattle.std.proofs.lemmas.List.Elements.{All-head, All-tail}
use Rattle.std.proofs.lemmas.List.{reverse-reverse}
use Rattle.ndarray.specs.Index.{InBox, size, row_order}
use Rattle.ndarray.specs.Grid.{Grid, IsGrid, cell}
use Rattle.ndarray.specs.Orders.{box_in, cells_in, IsListOfCells}
use Rattle.ndarray.specs.Views.{transpose_of}
use Rattle.ndarray.specs.declared.base.shape.Order.{Order}
use Rattle.ndarray.specs.declared.base.shape.Order.TheVariants.{RowMajor, ColumnMajor}
use Rattle.ndarray.proofs.boxes.Boxes.{InBox-reverse}
use Rattle.ndarray.specs.base.Ranks.{rank}
use Rattle.ndarray.proofs.cells.Cells.{along-row_order, cell-Some, cell-within, cells_in-HasInOrder, length-along, tabulate-cell, tabulate-is}
use Rattle.ndarray.proofs.boxes.Orders.{box_in-is, box_in-within, length-box_in}
use Rattle.ndarray.proofs.lists.Permutations.{IsBoxIn-rearranges}
use Rattle.ndarray.proofs.boxes.Sizes.{size-reverse}
use Rattle.ndarray.proofs.strides.ContiguousCells.{row-cells, transpose_of-cells}

-- an array transposed twice is itself
pub transpose_of-transpose_of : {A : Type 0} (g : Grid A) → IsGrid g → IsGrid (transpose_of g) → transpose_of (transpose_of g) ≡ g
transpose_of-transpose_of g whole turned =
    sym (tabulate-is g (reverse (reverse g.lengths)) (λ is. cell (transpose_of g) (reverse is)) whole (sym (reverse-reverse g.lengths)) (λ is b.
    sym (tabulate-cell (reverse g.lengths) (λ js. cell g (reverse js)) (reverse is) turned (InBox-reverse g.lengths is b) ∙ ap (cell g) (reverse-reverse is))))

pub length-cells_in : {A : Type 0} (o : Order) (g : Grid A) → IsGrid g → length (cells_in o g) ≡ size g.lengths
length-cells_in o g whole = length-along g whole (box_in o g.lengths) (box_in-within o g.lengths) ∙ length-box_in o g.lengths

pub transpose_of-whole : {A : Type 0} (g : Grid A) → IsGrid g → IsGrid (transpose_of g)
transpose_of-whole g whole = ap length (transpose_of-cells g) ∙ (length-cells_in ColumnMajor g whole ∙ sym (size-reverse g.lengths))

pub length-transpose_of : {A : Type 0} (g : Grid A) → IsGrid g → length (transpose_of g).cells ≡ length g.cells
length-transpose_of g whole = ap length (transpose_of-cells g) ∙ (length-cells_in ColumnMajor g whole ∙ sym whole)

-- the cells in an order are the cells, each index list once
pub cells_in-list : {A : Type 0} (o : Order) (g : Grid A) (xs : List A) → IsGrid g → xs ≡ cells_in o g → IsListOfCells g xs
cells_in-list o g xs whole e = record {
  indices = box_in o g.lengths;
  once = IsBoxIn-rearranges o g.lengths (row_order g.lengths) (box_in o g.lengths) (box_in-is RowMajor g.lengths) (box_in-is o g.lengths);
  cells = cells_in-HasInOrder o g whole (box_in o g.lengths) (box_in-is o g.lengths) ∙ ap (map Some) (sym e);
}

module _ {A : Type 0} (R : A → A → Type 0) where
  at_place : (xs ys : List A) (k : ℕ) (x y : A) → AllZip R xs ys → slice_get xs k ≡ Some x → slice_get ys k ≡ Some y → R x y
  at_place [] [] k x y h e f = cc
  at_place [] (b ∷ ys) k x y h e f = absurd h
  at_place (a ∷ xs) [] k x y h e f = absurd h
  at_place (a ∷ xs) (b ∷ ys) zero x y h e f =
      let p : a ≡ x = cc in
      let q : b ≡ y = cc in
      subst (λ v. R v y) p (subst (R a) q h.0)
  at_place (a ∷ xs) (b ∷ ys) (suc k) x y h e f = at_place xs ys k x y h.1 e f

  module _ (g h : Grid A) (wg : IsGrid g) (wh : IsGrid h) (same_lengths : h.lengths ≡ g.lengths) where
    there : (is : List ℕ) → InBox g.lengths is → InBox h.lengths is
    there is b = subst (λ ns. InBox ns is) (sym same_lengths) b

    -- cells at one index list, from cells at one place
    at_index : AllZip R g.cells h.cells → (is : List ℕ) → InBox g.lengths is → (x y : A) → cell g is ≡ Some x → cell h is ≡ Some y → R x y
    at_index z is b x y e f =
        at_place g.cells h.cells (rank g.lengths is) x y z (sym (cell-within g wg is b) ∙ e) (ap (λ ns. slice_get h.cells (rank ns is)) (sym same_lengths) ∙ (sym (cell-within h wh is (there is b)) ∙ f))

    module _ (alike : (is : List ℕ) → InBox g.lengths is → (x y : A) → cell g is ≡ Some x → cell h is ≡ Some y → R x y) where
      along : (ys : List (List ℕ)) → All (InBox g.lengths) ys → AllZip R (filter_map (cell g) ys) (filter_map (cell h) ys)
      along [] w = tt
      along (is ∷ ys) w =
          let b = All-head (InBox g.lengths) is ys w in
          let x = cell-Some g wg is b in
          let y = cell-Some h wh is (there is b) in
          rw (x.1, y.1) (alike is b x.0 y.0 x.1 y.1, along ys (All-tail (InBox g.lengths) is ys w))

      -- and back
      pub at_places : AllZip R g.cells h.cells
      at_places =
          let inside : All (InBox g.lengths) (row_order g.lengths) = box_in-within RowMajor g.lengths in
          let e : filter_map (cell h) (row_order g.lengths) ≡ h.cells = ap (λ ns. filter_map (cell h) (row_order ns)) (sym same_lengths) ∙ along-row_order h wh in
          subst (λ xs. AllZip R xs h.cells) (along-row_order g wg) (subst (AllZip R (filter_map (cell g) (row_order g.lengths))) e (along (row_order g.lengths) inside))

  -- what holds of the cells of two arrays in an order, place by place, holds of their cells
  pub AllZip-cells : (o : Order) (g h : Grid A) → IsGrid g → IsGrid h → h.lengths ≡ g.lengths → AllZip R (cells_in o g) (cells_in o h) → AllZip R g.cells h.cells
  AllZip-cells RowMajor g h wg wh e z = subst (λ xs. AllZip R xs h.cells) (row-cells g wg) (subst (AllZip R (cells_in RowMajor g)) (row-cells h wh) z)
  AllZip-cells ColumnMajor g h wg wh e z =
      let tz : AllZip R (transpose_of g).cells (transpose_of h).cells = subst (λ xs. AllZip R xs (transpose_of h).cells) (sym (transpose_of-cells g)) (subst (AllZip R (cells_in ColumnMajor g)) (sym (transpose_of-cells h)) z) in
      let tg = transpose_of-whole g wg in
      let th = transpose_of-whole h wh in
      let seen : (k : Grid A) → IsGrid k → IsGrid (transpose_of k) → (is : List ℕ) → InBox k.lengths is → cell (transpose_of k) (reverse is) ≡ cell k is = λ k w t is b.
      tabulate-cell (reverse k.lengths) (λ js. cell k (reverse js)) (reverse is) t (InBox-reverse k.lengths is b) ∙ ap (cell k) (reverse-reverse is) in
      at_places g h wg wh e (λ is b x y p q.
      at_index (transpose_of g) (transpose_of h) tg th (ap reverse e) tz (reverse is) (InBox-reverse g.lengths is b) x y (seen g wg tg is b ∙ p) (seen h wh th is (there g h wg wh e is b) ∙ q))
