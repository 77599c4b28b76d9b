-- Windows of arrays with their axes reversed.
use Rattle.std.proofs.Common.{◌≡◌, ◌∙◌, ℕ, ◌+◌, ◌-◌, ◌≤◌, List, [], ◌∷◌, ◌++◌, ap, arith, length, map, refl, reverse, subst, sym}
use Rattle.std.specs.Prelude.{All, IsPermutation}
use Rattle.std.proofs.lemmas.List.{get_or-reverse, length-reverse, reverse-reverse}
use Rattle.std.proofs.lemmas.List.Sorted.{IsPermutation-map}
use Rattle.std.proofs.lemmas.Simd.{map-map}
use Rattle.ndarray.specs.Convolution.{valid_counts, window_products}
use Rattle.ndarray.specs.Grid.{Grid, IsGrid, cell}
use Rattle.ndarray.specs.Index.{InBox, column_order, row_order}
use Rattle.ndarray.specs.Products.{HasValues, value_at, value_or}
use Rattle.ndarray.specs.Subviews.{window_count}
use Rattle.ndarray.specs.Sums.{IsSummable}
use Rattle.ndarray.specs.Views.{transpose_of}
use Rattle.ndarray.specs.conv.WindowSums.{CanSumWindows, window_sum}
use Rattle.ndarray.specs.base.IndexLists.{shifted_index}
use Rattle.ndarray.specs.declared.base.shape.Order.TheVariants.{ColumnMajor}
use Rattle.ndarray.specs.declared.elements.Valued.{Ghosts as ValuedGhosts}
use Rattle.ndarray.proofs.boxes.Boxes.{InBox-length, InBox-reverse}
use Rattle.ndarray.proofs.boxes.Orders.{row_order-is}
use Rattle.ndarray.proofs.callers.Cells.{transpose-cell}
use Rattle.ndarray.proofs.callers.RowOrder.{box_in-rearranges}
use Rattle.ndarray.proofs.cells.Cells.{cell-inside}
use Rattle.ndarray.proofs.convolution.WindowRows.{as_many, index-inside, product_at, products-are}
use Rattle.ndarray.proofs.lists.Elements.{map-same, reverse-cons}
use Rattle.ndarray.proofs.sums.Rearrangements.{IsSummable-rearranged, total-rearranged}

-- one axis more at the end
counts-last : (ns ws : List ℕ) (n w : ℕ) → length ws ≡ length ns → valid_counts (ns ++ n ∷ []) (ws ++ w ∷ []) ≡ valid_counts ns ws ++ window_count n w 1 ∷ []
counts-last [] [] n w e = refl
counts-last [] (v ∷ ws) n w e = absurd (omega arith)
counts-last (m ∷ ns) [] n w e = absurd (omega arith)
counts-last (m ∷ ns) (v ∷ ws) n w e = ap (λ l. window_count m v 1 ∷ l) (counts-last ns ws n w (omega arith))

counts-reversed : (ns ws : List ℕ) → length ws ≡ length ns → valid_counts (reverse ns) (reverse ws) ≡ reverse (valid_counts ns ws)
counts-reversed [] [] e = refl
counts-reversed [] (w ∷ ws) e = absurd (omega arith)
counts-reversed (n ∷ ns) [] e = absurd (omega arith)
counts-reversed (n ∷ ns) (w ∷ ws) e =
    ap (λ l. valid_counts l (reverse (w ∷ ws))) (reverse-cons n ns)
    ∙ (ap (valid_counts (reverse ns ++ n ∷ [])) (reverse-cons w ws)
    ∙ (counts-last (reverse ns) (reverse ws) n w (omega (arith, length-reverse {A = ℕ}))
    ∙ (ap (λ l. l ++ window_count n w 1 ∷ []) (counts-reversed ns ws (omega arith)) ∙ sym (reverse-cons (window_count n w 1) (valid_counts ns ws)))))

shifted-last : (js ps : List ℕ) (j x : ℕ) → length js ≡ length ps → shifted_index (js ++ j ∷ []) (ps ++ x ∷ []) ≡ shifted_index js ps ++ (j + x) ∷ []
unfolding shifted_index
shifted-last [] [] j x e = refl
shifted-last [] (p ∷ ps) j x e = absurd (omega arith)
shifted-last (i ∷ js) [] j x e = absurd (omega arith)
shifted-last (i ∷ js) (p ∷ ps) j x e = ap (λ l. (i + p) ∷ l) (shifted-last js ps j x (omega arith))

shifted-reversed : (js ps : List ℕ) → length js ≡ length ps → shifted_index (reverse js) (reverse ps) ≡ reverse (shifted_index js ps)
unfolding shifted_index
shifted-reversed [] [] e = refl
shifted-reversed [] (p ∷ ps) e = absurd (omega arith)
shifted-reversed (j ∷ js) [] e = absurd (omega arith)
shifted-reversed (j ∷ js) (p ∷ ps) e =
    ap (λ l. shifted_index l (reverse (p ∷ ps))) (reverse-cons j js)
    ∙ (ap (shifted_index (reverse js ++ j ∷ [])) (reverse-cons p ps)
    ∙ (shifted-last (reverse js) (reverse ps) j p (omega (arith, length-reverse {A = ℕ}))
    ∙ (ap (λ l. l ++ (j + p) ∷ []) (shifted-reversed js ps (omega arith)) ∙ sym (reverse-cons (j + p) (shifted_index js ps)))))

All-reversed : {X : Type 0} (P : X → Type 0) (xs : List X) → All P xs → All P (reverse xs)
All-reversed P xs all k d lt =
    let l = length-reverse xs in
    subst P (sym (get_or-reverse xs k d (omega (arith, l, lt)))) (all (length xs - 1 - k) d (omega (arith, l, lt)))

module _ {A : Type 0} (e : ValuedGhosts A) where
  -- the value at the reversed index list
  value-reversed : (g t : Grid A) → t ≡ transpose_of g → IsGrid t → (is : List ℕ) → InBox g.lengths is → value_at e t (reverse is) ≡ value_at e g is
  value-reversed g t is_t whole is b = ap (value_or e.meaning e.addition.unit) (ap (λ w. cell w (reverse is)) is_t ∙ transpose-cell g is (subst IsGrid is_t whole) b)

  -- t and u are g and h with their axes reversed
  module _ (g h t u : Grid A) (can : CanSumWindows e g h) (whole_h : IsGrid h) (is_t : t ≡ transpose_of g) (t_whole : IsGrid t) (is_u : u ≡ transpose_of h) (u_whole : IsGrid u) where
    abbrev counts : List ℕ
    counts = valid_counts g.lengths h.lengths

    abbrev axes : length h.lengths ≡ length g.lengths
    axes = can.shapes.as_many

    t_lengths : t.lengths ≡ reverse g.lengths
    t_lengths = ap (λ w. w.lengths) is_t

    u_lengths : u.lengths ≡ reverse h.lengths
    u_lengths = ap (λ w. w.lengths) is_u

    reversed_axes : length u.lengths ≡ length t.lengths
    reversed_axes = ap length u_lengths ∙ (length-reverse h.lengths ∙ (axes ∙ sym (ap length t_lengths ∙ length-reverse g.lengths)))

    pub reversed-counts : valid_counts t.lengths u.lengths ≡ reverse counts
    reversed-counts = ap (λ ns. valid_counts ns u.lengths) t_lengths ∙ (ap (valid_counts (reverse g.lengths)) u_lengths ∙ counts-reversed g.lengths h.lengths axes)

    -- the same product, of the index list and position reversed
    product-reversed : (ps js : List ℕ) → InBox counts ps → InBox h.lengths js → product_at e t u (reverse ps) (reverse js) ≡ product_at e g h ps js
    product-reversed ps js b inside =
        let same : length js ≡ length ps = InBox-length h.lengths js inside ∙ (axes ∙ sym (as_many e g h can.whole axes ps b)) in
        ap (λ c. e.multiplication.op c (value_at e t (shifted_index (reverse js) (reverse ps)))) (value-reversed h u is_u u_whole js inside)
        ∙ ap (e.multiplication.op (value_at e h js))
        (ap (value_at e t) (shifted-reversed js ps same) ∙ value-reversed g t is_t t_whole (shifted_index js ps) (index-inside e g h can.whole axes ps js b inside))

    -- the same products, in another order
    products-reversed : (ps : List ℕ) → InBox counts ps → IsPermutation (window_products e.multiplication e.meaning g h ps) (window_products e.multiplication e.meaning t u (reverse ps))
    unfolding column_order
    products-reversed ps b =
        let ns = h.lengths in
        let b_reversed : InBox (valid_counts t.lengths u.lengths) (reverse ps) = subst (λ ms. InBox ms (reverse ps)) (sym reversed-counts) (InBox-reverse counts ps b) in
        let back : map (product_at e t u (reverse ps)) (row_order (reverse ns)) ≡ map (λ js. product_at e g h ps (reverse js)) (row_order (reverse ns)) =
        map-same (product_at e t u (reverse ps)) (λ js. product_at e g h ps (reverse js)) (InBox (reverse ns)) (row_order (reverse ns))
        (λ js inside.
        ap (product_at e t u (reverse ps)) (sym (reverse-reverse js))
        ∙ product-reversed ps (reverse js) b (subst (λ ms. InBox ms (reverse js)) (reverse-reverse ns) (InBox-reverse (reverse ns) js inside)))
        (row_order-is (reverse ns)).within in
        let all : window_products e.multiplication e.meaning t u (reverse ps) ≡ map (product_at e g h ps) (column_order ns) =
        products-are e t u t_whole reversed_axes u_whole (reverse ps) b_reversed
        ∙ (ap (λ ms. map (product_at e t u (reverse ps)) (row_order ms)) u_lengths ∙ (back ∙ sym (map-map (product_at e g h ps) reverse (row_order (reverse ns))))) in
        subst (λ l. IsPermutation l (window_products e.multiplication e.meaning t u (reverse ps))) (sym (products-are e g h can.whole axes whole_h ps b))
        (subst (IsPermutation (map (product_at e g h ps) (row_order ns))) (sym all) (IsPermutation-map (product_at e g h ps) (row_order ns) (column_order ns) (box_in-rearranges ColumnMajor ns)))

    back-inside : (qs : List ℕ) → InBox (valid_counts t.lengths u.lengths) qs → InBox counts (reverse qs)
    back-inside qs b = subst (λ ms. InBox ms (reverse qs)) (ap reverse reversed-counts ∙ reverse-reverse counts) (InBox-reverse (valid_counts t.lengths u.lengths) qs b)

    pub can-reversed : CanSumWindows e t u
    can-reversed = record {
      whole = t_whole;
      shapes = record { as_many = reversed_axes; positive = subst (All (λ c. 1 ≤ c)) (sym u_lengths) (All-reversed (λ c. 1 ≤ c) h.lengths can.shapes.positive) };
      sums = λ qs b.
          let c = back-inside qs b in
          subst (λ ps. IsSummable e.addition e.InRange (window_products e.multiplication e.meaning t u ps)) (reverse-reverse qs)
          (IsSummable-rearranged e.addition e.InRange _ _ (products-reversed (reverse qs) c) (can.sums (reverse qs) c));
    }

    -- the sums of t and u, with their axes reversed, are those of g and h
    pub made-reversed : (r s : Grid A) → HasValues e (valid_counts t.lengths u.lengths) (window_sum e t u) r → s ≡ transpose_of r → IsGrid s → HasValues e counts (window_sum e g h) s
    made-reversed r s made is_s whole =
        let same : s.lengths ≡ counts = ap (λ w. w.lengths) is_s ∙ (ap reverse (made.lengths ∙ reversed-counts) ∙ reverse-reverse counts) in
        record {
          lengths = same;
          whole = whole;
          cells = λ is z at.
              let b : InBox counts is = subst (λ ms. InBox ms is) same (cell-inside s is z at) in
              let c : InBox r.lengths (reverse is) = subst (λ ms. InBox ms (reverse is)) (sym (made.lengths ∙ reversed-counts)) (InBox-reverse counts is b) in
              let seen : cell r (reverse is) ≡ cell s is = sym (ap (λ w. cell w is) is_s ∙ (ap (cell (transpose_of r)) (sym (reverse-reverse is)) ∙ transpose-cell r (reverse is) (subst IsGrid is_s whole) c)) in
              made.cells (reverse is) z (seen ∙ at) ∙ total-rearranged e.addition _ _ (products-reversed is b);
        }
