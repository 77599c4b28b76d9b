-- Boxes whose index lists lie at places that follow one another.
use Rattle.std.proofs.Common.{◌≡◌, ℕ, ◌+◌, ◌<◌, ◌^◌, List, [], length, map, get_or, reverse, sym, ◌∙◌, ap, arith}
use Rattle.std.proofs.lemmas.List.{same_lists, length-map, get_or-map, length-reverse, reverse-reverse}
use Rattle.std.proofs.lemmas.Simd.{map-map}
use Rattle.ndarray.specs.Index.{InBox, size, row_order, column_order}
use Rattle.ndarray.specs.base.Places.{place}
use Rattle.ndarray.specs.base.Ranks.{rank}
use Rattle.ndarray.specs.base.Strided.{places_from, LieSideBySide}
use Rattle.ndarray.specs.declared.base.shape.Order.TheVariants.{RowMajor, ColumnMajor}
use Rattle.ndarray.proofs.lists.Elements.{map-same}
use Rattle.ndarray.proofs.boxes.Boxes.{InBox-length}
use Rattle.ndarray.proofs.boxes.Orders.{length-row_order, row_order-back, rank-lt, box_in-within}
use Rattle.ndarray.proofs.boxes.Sizes.{size-reverse}
use Rattle.ndarray.proofs.strides.Rows.{length-places_from}
use Rattle.ndarray.proofs.strides.SideBySide.{place-one}
use Rattle.ndarray.proofs.views.Images.{place-reversed}

place-lt : (start : ℕ) (bs is : List ℕ) → place start bs is < 2 ^ 64
unfolding place
place-lt start bs is = omega arith

module _ (ns : List ℕ) (start : ℕ) (bs : List ℕ) where
  -- where each index list lies its rank after the start, the places in row order follow one another
  pub rows-follow : ((is : List ℕ) → InBox ns is → place start bs is ≡ start + rank ns is) → LieSideBySide RowMajor ns start bs
  rows-follow beside =
      let many = length-map (row_order ns) (place start bs) ∙ length-row_order ns in
      same_lists (map (place start bs) (row_order ns)) (places_from start 1 (size ns)) (many ∙ sym (length-places_from start 1 (size ns))) (λ k d lt.
      let less : k < size ns = omega arith in
      let all = length-row_order ns in
      let back = row_order-back ns k [] less in
      let here : place start bs (get_or (row_order ns) k []) ≡ start + k = beside (get_or (row_order ns) k []) back.0 ∙ ap (λ j. start + j) back.1 in
      let fits = place-lt start bs (get_or (row_order ns) k []) in
      get_or-map (place start bs) (row_order ns) k [] d (omega arith) ∙ (here ∙ sym (place-one (size ns) start k d (omega arith) less)))

  -- so do those of a box without cells
  pub none-follow : size ns ≡ 0 → LieSideBySide RowMajor ns start bs
  none-follow none = rows-follow (λ is b. absurd (let lt = rank-lt ns is b in omega arith))

  -- those in column order are those in row order with the axes reversed
  pub columns-follow : length bs ≡ length ns → LieSideBySide RowMajor (reverse ns) start (reverse bs) → LieSideBySide ColumnMajor ns start bs
  unfolding column_order
  columns-follow l h =
      map-map (place start bs) reverse (row_order (reverse ns))
      ∙ (map-same (λ js. place start bs (reverse js)) (place start (reverse bs)) (InBox (reverse ns)) (row_order (reverse ns))
      (λ js b.
      let m = InBox-length (reverse ns) js b in
      let a = length-reverse ns in
      let c = length-reverse js in
      sym (place-reversed start bs (reverse js) (omega arith)) ∙ ap (place start (reverse bs)) (reverse-reverse js))
      (box_in-within RowMajor (reverse ns))
      ∙ (h ∙ ap (places_from start 1) (size-reverse ns)))
