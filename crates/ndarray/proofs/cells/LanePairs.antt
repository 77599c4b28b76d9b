-- The rows of one array and the columns of another, each with each, and the index lists of their product.
use Rattle.std.proofs.Common.{◌≡◌, ◌∙◌, ◌-◌, ◌<◌, ℕ, List, ◌++◌, All, ap, arith, drop, get_or, length, map, remove, subst, sym, take}
use Rattle.std.proofs.Math.Seq.{drop-append_seam, take-append_seam}
use Rattle.std.specs.Prelude.{flat_map}
use Rattle.std.proofs.lemmas.List.Folds.{flat_map-map}
use Rattle.std.proofs.lemmas.List.Edits.{length-remove}
use Rattle.std.proofs.lemmas.List.Elements.{All-contains, All-map}
use Rattle.std.proofs.lemmas.Simd.{map-map}
use Rattle.ndarray.specs.Grid.{Grid}
use Rattle.ndarray.specs.Index.{InBox, row_order}
use Rattle.ndarray.specs.Products.{ShapesMultiply, product_lengths}
use Rattle.ndarray.specs.Subviews.{lane, lanes_of}
use Rattle.ndarray.proofs.boxes.Boxes.{InBox-append, InBox-length}
use Rattle.ndarray.proofs.boxes.JoinedBoxes.{InBox-cut, row_order-append}
use Rattle.ndarray.proofs.boxes.Orders.{row_order-is}
use Rattle.ndarray.proofs.callers.Collecting.{lanes_of-some}
use Rattle.ndarray.proofs.lists.Elements.{map-same, mapped-all}
use Rattle.ndarray.proofs.lists.FlatMaps.{flat_map-same_where, map-flat_map}

-- the lanes of the left and of the right that meet in a product
abbrev pub rows_of : {A : Type 0} → Grid A → Grid (Grid A)
rows_of a = lanes_of a (length a.lengths - 1)

abbrev pub columns_of : {A : Type 0} → Grid A → Grid (Grid A)
columns_of b = lanes_of b (length b.lengths - 2)

-- what holds of a row and each column
abbrev pub EachColumn : {A : Type 0} → (Grid A → Grid A → Type 0) → Grid A → Grid A → Type 0
EachColumn P b x = All (P x) (columns_of b).cells

module _ {A : Type 0} (a b : Grid A) (shapes : ShapesMultiply a.lengths b.lengths) where
  pub last : length a.lengths - 1 < length a.lengths
  last = let h = shapes.left in omega (arith, h)

  pub inner : length b.lengths - 2 < length b.lengths
  inner = let h = shapes.right in omega (arith, h)

  cut : length (remove a.lengths (length a.lengths - 1)) ≡ length a.lengths - 1
  cut = let l = length-remove a.lengths (length a.lengths - 1) last in omega (arith, l)

  rows-are : (rows_of a).cells ≡ map (lane a (length a.lengths - 1)) (row_order (remove a.lengths (length a.lengths - 1)))
  rows-are = ap (λ g. g.cells) (lanes_of-some a.lengths a (length a.lengths - 1) (omega (arith, last)))

  columns-are : (columns_of b).cells ≡ map (lane b (length b.lengths - 2)) (row_order (remove b.lengths (length b.lengths - 2)))
  columns-are = ap (λ g. g.cells) (lanes_of-some b.lengths b (length b.lengths - 2) (omega (arith, inner)))

  -- the two parts of an index list of the product
  pub parts : (is : List ℕ) → InBox (product_lengths a.lengths b.lengths) is
      → InBox (remove a.lengths (length a.lengths - 1)) (take (length a.lengths - 1) is) × InBox (remove b.lengths (length b.lengths - 2)) (drop (length a.lengths - 1) is)
  parts is inside =
      let both = InBox-cut (remove a.lengths (length a.lengths - 1)) (remove b.lengths (length b.lengths - 2)) is inside in (
        subst (λ n. InBox (remove a.lengths (length a.lengths - 1)) (take n is)) cut both.0,
        subst (λ n. InBox (remove b.lengths (length b.lengths - 2)) (drop n is)) cut both.1,
      )

  -- and an index list of two parts
  module _ (js ks : List ℕ) (inside : InBox (remove a.lengths (length a.lengths - 1)) js) where
    long : length js ≡ length a.lengths - 1
    long = InBox-length (remove a.lengths (length a.lengths - 1)) js inside ∙ cut

    front : take (length a.lengths - 1) (js ++ ks) ≡ js
    front = ap (λ n. take n (js ++ ks)) (sym long) ∙ take-append_seam js ks

    back : drop (length a.lengths - 1) (js ++ ks) ≡ ks
    back = ap (λ n. drop n (js ++ ks)) (sym long) ∙ drop-append_seam js ks

  module _ (P : Grid A → Grid A → Type 0) where
    -- what holds of each row and each column holds of the two at each index list of the product
    pub at-index_list : All (EachColumn P b) (rows_of a).cells → (is : List ℕ) → InBox (product_lengths a.lengths b.lengths) is
        → P (lane a (length a.lengths - 1) (take (length a.lengths - 1) is)) (lane b (length b.lengths - 2) (drop (length a.lengths - 1) is))
    at-index_list all is inside =
        let k = length a.lengths - 1 in
        let m = length b.lengths - 2 in
        let ns = remove a.lengths k in
        let ms = remove b.lengths m in
        let (first, second) = parts is inside in
        let row = All-contains (λ js. EachColumn P b (lane a k js)) (row_order ns) (take k is)
        (mapped-all (EachColumn P b) (lane a k) (row_order ns) (subst (All (EachColumn P b)) rows-are all)) ((row_order-is ns).whole (take k is) first) in
        All-contains (λ ks. P (lane a k (take k is)) (lane b m ks)) (row_order ms) (drop k is)
        (mapped-all (P (lane a k (take k is))) (lane b m) (row_order ms) (subst (All (P (lane a k (take k is)))) columns-are row)) ((row_order-is ms).whole (drop k is) second)

    -- and the other way round
    pub of-rows_and_columns : ((is : List ℕ) → InBox (product_lengths a.lengths b.lengths) is → P (lane a (length a.lengths - 1) (take (length a.lengths - 1) is)) (lane b (length b.lengths - 2) (drop (length a.lengths - 1) is)))
        → All (EachColumn P b) (rows_of a).cells
    of-rows_and_columns each =
        let k = length a.lengths - 1 in
        let m = length b.lengths - 2 in
        let ns = remove a.lengths k in
        let ms = remove b.lengths m in
        subst (All (EachColumn P b)) (sym rows-are) (All-map (EachColumn P b) (lane a k) (row_order ns)
        (λ q d below.
        let js = get_or (row_order ns) q d in
        let first : InBox ns js = (row_order-is ns).within q d below in
        subst (All (P (lane a k js))) (sym columns-are) (All-map (P (lane a k js)) (lane b m) (row_order ms)
        (λ r e under.
        let ks = get_or (row_order ms) r e in
        let second : InBox ms ks = (row_order-is ms).within r e under in
        subst (λ l. P (lane a k l) (lane b m ks)) (front js ks first) (subst (λ l. P (lane a k (take k (js ++ ks))) (lane b m l)) (back js ks first) (each (js ++ ks) (InBox-append ns ms js ks first second)))))))

  -- what is made of each row with each column, row by row, is what is made of the two at the index lists of the product in row order
  pub in-row_order : {C : Type 0} (f : Grid A → Grid A → C) → flat_map (λ x. map (f x) (columns_of b).cells) (rows_of a).cells
      ≡ map (λ is. f (lane a (length a.lengths - 1) (take (length a.lengths - 1) is)) (lane b (length b.lengths - 2) (drop (length a.lengths - 1) is))) (row_order (product_lengths a.lengths b.lengths))
  in-row_order {C} f =
      let k = length a.lengths - 1 in
      let m = length b.lengths - 2 in
      let ns = remove a.lengths k in
      let ms = remove b.lengths m in
      let at : List ℕ → C = λ is. f (lane a k (take k is)) (lane b m (drop k is)) in
      let below : List ℕ → List (List ℕ) = λ js. map (λ ks. js ++ ks) (row_order ms) in
      ap (flat_map (λ x. map (f x) (columns_of b).cells)) rows-are
      ∙ (flat_map-map (λ x. map (f x) (columns_of b).cells) (lane a k) (row_order ns)
      ∙ (flat_map-same_where (λ js. map (f (lane a k js)) (columns_of b).cells) (λ js. map at (below js)) (InBox ns)
      (λ js first.
      ap (map (f (lane a k js))) columns-are
      ∙ (map-map (f (lane a k js)) (lane b m) (row_order ms)
      ∙ (map-same (λ ks. f (lane a k js) (lane b m ks)) (λ ks. at (js ++ ks)) (InBox ms) (row_order ms)
      (λ ks _. sym (ap (λ l. f (lane a k l) (lane b m (drop k (js ++ ks)))) (front js ks first) ∙ ap (λ l. f (lane a k js) (lane b m l)) (back js ks first))) (row_order-is ms).within
      ∙ sym (map-map at (λ ks. js ++ ks) (row_order ms)))))
      (row_order ns) (row_order-is ns).within
      ∙ sym (ap (map at) (row_order-append ns ms) ∙ map-flat_map at below (row_order ns))))
