-- A view whose axes are turned round one after another has the cells backwards.
use Rattle.std.proofs.Common.{◌≡◌, ℕ, zero, suc, ◌-◌, ◌<◌, List, [], ◌∷◌, filter_map, length, map, reverse, Some, refl, sym, ap, ◌∙◌, arith, subst}
use Rattle.std.specs.Prelude.{slice_index, slice_set}
use Rattle.std.proofs.lemmas.Simd.{map-map}
use Rattle.ndarray.specs.Convolution.{mirrored}
use Rattle.ndarray.specs.Grid.{Grid, IsGrid, cell}
use Rattle.ndarray.specs.Index.{InBox, row_order}
use Rattle.ndarray.specs.Views.{axis_inversion, mirrored_index}
use Rattle.ndarray.proofs.boxes.Orders.{row_order-is}
use Rattle.ndarray.proofs.cells.Cells.{along-row_order, tabulate-cell}
use Rattle.ndarray.proofs.convolution.Mirrors.{reverse-map, row_order-mirrored}
use Rattle.ndarray.proofs.convolution.WholeWindows.{in_rows}
use Rattle.ndarray.proofs.lists.Elements.{filter_map-from_map, map-same}

-- the index list counted from the other end on each of the first axes
abbrev pub mirrored_first : ℕ → List ℕ → List ℕ → List ℕ
mirrored_first zero ns is = is
mirrored_first (suc j) [] is = is
mirrored_first (suc j) (n ∷ ns) [] = []
mirrored_first (suc j) (n ∷ ns) (i ∷ is) = (n - 1 - i) ∷ mirrored_first j ns is

-- one axis more
mirrored_first-next : (j : ℕ) (ns is : List ℕ) → j < length ns → InBox ns is → mirrored_first j ns (slice_set is j (slice_index ns j - 1 - slice_index is j)) ≡ mirrored_first (suc j) ns is
mirrored_first-next zero (n ∷ ns) (i ∷ is) h b = refl
mirrored_first-next zero [] is h b = absurd (omega arith)
mirrored_first-next zero (n ∷ ns) [] h b = absurd b
mirrored_first-next (suc j) [] is h b = absurd (omega arith)
mirrored_first-next (suc j) (n ∷ ns) [] h b = absurd b
mirrored_first-next (suc j) (n ∷ ns) (i ∷ is) h b = ap (λ l. (n - 1 - i) ∷ l) (mirrored_first-next j ns is (omega arith) b.1)

-- it stays in the box
set-within : (j : ℕ) (ns is : List ℕ) → j < length ns → InBox ns is → InBox ns (slice_set is j (slice_index ns j - 1 - slice_index is j))
set-within zero (n ∷ ns) (i ∷ is) h b = let k : i < n = b.0 in (omega (arith, k), b.1)
set-within zero [] is h b = absurd (omega arith)
set-within zero (n ∷ ns) [] h b = absurd b
set-within (suc j) [] is h b = absurd (omega arith)
set-within (suc j) (n ∷ ns) [] h b = absurd b
set-within (suc j) (n ∷ ns) (i ∷ is) h b = (b.0, set-within j ns is (omega arith) b.1)

-- all axes
mirrored_first-all : (ns is : List ℕ) → InBox ns is → mirrored_first (length ns) ns is ≡ mirrored ns is
mirrored_first-all [] [] b = refl
mirrored_first-all [] (i ∷ is) b = absurd b
mirrored_first-all (n ∷ ns) [] b = absurd b
mirrored_first-all (n ∷ ns) (i ∷ is) b = ap (λ l. (n - 1 - i) ∷ l) (mirrored_first-all ns is b.1)

-- v is the array with its first axes turned round
pub record IsMirroredFirst {A : Type 0} (j : ℕ) (g v : Grid A) : Type 0 where
  pub lengths : v.lengths ≡ g.lengths
  pub whole : IsGrid v
  pub cells : (is : List ℕ) → InBox g.lengths is → cell v is ≡ cell g (mirrored_first j g.lengths is)

pub mirrored-start : {A : Type 0} (g v : Grid A) → v ≡ g → IsGrid v → IsMirroredFirst 0 g v
mirrored-start g v e whole = record { lengths = ap (λ w. w.lengths) e; whole = whole; cells = λ is b. ap (λ w. cell w is) e }

pub mirrored-next : {A : Type 0} (j : ℕ) (g v w : Grid A) → j < length g.lengths → w ≡ axis_inversion v j → IsGrid w → IsMirroredFirst j g v → IsMirroredFirst (suc j) g w
unfolding mirrored_index
mirrored-next j g v w lt e whole h = record {
  lengths = ap (λ x. x.lengths) e ∙ h.lengths;
  whole = whole;
  cells = λ is b.
      let ns = g.lengths in
      let at = λ (ms : List ℕ). slice_set is j (slice_index ms j - 1 - slice_index is j) in
      ap (λ x. cell x is) e
      ∙ (tabulate-cell v.lengths (λ js. cell v (mirrored_index v.lengths j js)) is (subst IsGrid e whole) (subst (λ ms. InBox ms is) (sym h.lengths) b)
      ∙ (ap (λ ms. cell v (at ms)) h.lengths
      ∙ (h.cells (at ns) (set-within j ns is lt b)
      ∙ ap (cell g) (mirrored_first-next j ns is lt b))));
}

pub mirrored-end : {A : Type 0} (j : ℕ) (g v : Grid A) → IsGrid g → j ≡ length g.lengths → IsMirroredFirst j g v → v.cells ≡ reverse g.cells
mirrored-end j g v whole e h =
    let ns = g.lengths in
    let each : map (cell v) (row_order ns) ≡ map (λ is. cell g (mirrored ns is)) (row_order ns) =
    map-same (cell v) (λ is. cell g (mirrored ns is)) (InBox ns) (row_order ns)
    (λ is b. h.cells is b ∙ (ap (λ k. cell g (mirrored_first k ns is)) e ∙ ap (cell g) (mirrored_first-all ns is b)))
    (row_order-is ns).within in
    let all : map (cell v) (row_order ns) ≡ map Some (reverse g.cells) =
    each
    ∙ (sym (map-map (cell g) (mirrored ns) (row_order ns))
    ∙ (ap (map (cell g)) (row_order-mirrored ns)
    ∙ (sym (reverse-map (cell g) (row_order ns))
    ∙ (ap reverse (in_rows g whole)
    ∙ reverse-map Some g.cells)))) in
    sym (along-row_order v h.whole) ∙ (ap (λ ms. filter_map (cell v) (row_order ms)) h.lengths ∙ filter_map-from_map (cell v) (row_order ns) (reverse g.cells) all)
