-- Arrays of length 1 on each axis but one: their cells are those along that axis.
use Rattle.std.proofs.Common.{◌≡◌, ℕ, ◌+◌, ◌-◌, ◌*◌, ◌<◌, ◌≤◌, zero, suc, ap, List, length, take, drop, set, get_or, replicate, sym, ◌∙◌, arith, subst}
use Rattle.std.specs.Prelude.{slice_get}
use Rattle.std.proofs.lemmas.List.{get_or-set_same, length-drop, length-replicate, length-set, length-take-le, set-set, take_rest}
use Rattle.ndarray.specs.Index.{InBox, size}
use Rattle.ndarray.specs.Grid.{Grid, IsGrid, cell}
use Rattle.ndarray.specs.Views.{axis_part}
use Rattle.ndarray.specs.base.Pieces.{AreAlong}
use Rattle.ndarray.specs.base.Ranks.{rank}
use Rattle.ndarray.proofs.boxes.Boxes.{InBox-set_both, InBox-ones}
use Rattle.ndarray.proofs.cells.Cells.{cell-within, tabulate-cell}
use Rattle.ndarray.proofs.runs.OneAxisProducers.{slice_get-part}
use Rattle.ndarray.proofs.lists.Elements.{same_from_slice_get}
use Rattle.ndarray.proofs.boxes.Sizes.{size-ones}

rank-ones : (m : ℕ) → rank (replicate m 1) (replicate m 0) ≡ 0
unfolding rank
rank-ones zero = omega arith
rank-ones (suc m) = let e = rank-ones m in omega arith

size-along : (m k n : ℕ) → k < m → size (set (replicate m 1) k n) ≡ n
size-along zero k n lt = absurd (omega arith)
size-along (suc m) zero n lt = ap (λ x. n * x) (size-ones m) ∙ omega arith
size-along (suc m) (suc k) n lt = let e = size-along m k n (omega arith) in omega arith

rank-along : (m k n i : ℕ) → k < m → rank (set (replicate m 1) k n) (set (replicate m 0) k i) ≡ i
unfolding rank
rank-along zero k n i lt = absurd (omega arith)
rank-along (suc m) zero n i lt = let e = rank-ones m in let f : i * size (replicate m 1) ≡ i = ap (λ x. i * x) (size-ones m) ∙ omega arith in omega arith
rank-along (suc m) (suc k) n i lt = let e = rank-along m k n i (omega arith) in omega arith

module _ {B : Type 0} where
  -- lengths of 1 with one of them set
  pub AreAlong-set : (m k n : ℕ) (g : Grid B) → IsGrid g → k < m → g.lengths ≡ set (replicate m 1) k n → AreAlong k g
  AreAlong-set m k n g whole lt e =
      let ps : List ℕ = g.lengths in
      let lr = length-replicate {A = ℕ} m 1 in
      let ls = length-set (replicate m 1) k n in
      let l : length ps ≡ m = ap length e ∙ (ls ∙ lr) in
      record {
        whole = whole;
        below = omega arith;
        alone = e ∙ (ap (λ x. set (replicate x 1) k n) (sym l) ∙ ap (set (replicate (length ps) 1) k) (sym (ap (λ v. get_or v k 0) e ∙ get_or-set_same (replicate m 1) k n 0 (omega arith))));
      }

  pub AreAlong-part : (g h : Grid B) (k from to : ℕ) → AreAlong k g → IsGrid h → h ≡ axis_part g k from to → AreAlong k h
  AreAlong-part g h k from to a whole e =
      AreAlong-set (length g.lengths) k (to - from) h whole a.below
      (ap (λ v. v.lengths) e ∙ (ap (λ v. set v k (to - from)) a.alone ∙ set-set (replicate (length g.lengths) 1) k (get_or g.lengths k 0) (to - from)))

  pub length-along_axis : (g : Grid B) (k : ℕ) → AreAlong k g → length g.cells ≡ get_or g.lengths k 0
  length-along_axis g k a = a.whole ∙ (ap size a.alone ∙ size-along (length g.lengths) k (get_or g.lengths k 0) a.below)

  cell-along : (g : Grid B) (m k n : ℕ) → k < m → g.lengths ≡ set (replicate m 1) k n → IsGrid g → (i : ℕ) → i < n
      → InBox g.lengths (set (replicate m 0) k i) × (cell g (set (replicate m 0) k i) ≡ slice_get g.cells i)
  cell-along g m k n lt e whole i below =
      let b : InBox g.lengths (set (replicate m 0) k i) = subst (λ ns. InBox ns (set (replicate m 0) k i)) (sym e) (InBox-set_both (replicate m 1) (replicate m 0) k n i (InBox-ones m) below) in
      (b, cell-within g whole (set (replicate m 0) k i) b ∙ ap (slice_get g.cells) (ap (λ ns. rank ns (set (replicate m 0) k i)) e ∙ rank-along m k n i lt))

  -- the cells of a part along that axis
  part-along : (g h : Grid B) (k from to : ℕ) → AreAlong k g → IsGrid h → from ≤ to → to ≤ get_or g.lengths k 0 → h ≡ axis_part g k from to
      → h.cells ≡ take (to - from) (drop from g.cells)
  part-along g h k from to a whole_h le fits e =
      let m : ℕ = length g.lengths in
      let n : ℕ = to - from in
      let lg = length-along_axis g k a in
      let eh : h.lengths ≡ set (replicate m 1) k n = ap (λ v. v.lengths) e ∙ (ap (λ v. set v k n) a.alone ∙ set-set (replicate m 1) k (get_or g.lengths k 0) n) in
      let lh : length h.cells ≡ n = whole_h ∙ (ap size eh ∙ size-along m k n a.below) in
      let ld = length-drop from g.cells in
      let lt = length-take-le n (drop from g.cells) (omega arith) in
      same_from_slice_get h.cells (take n (drop from g.cells)) (omega arith)
      (λ i below.
      let is : List ℕ = set (replicate m 0) k i in
      let here = cell-along h m k n a.below eh whole_h i (omega arith) in
      let there = cell-along g m k (get_or g.lengths k 0) a.below a.alone a.whole (from + i) (omega arith) in
      let zeros = length-replicate {A = ℕ} m 0 in
      let image : set is k (from + get_or is k 0) ≡ set (replicate m 0) k (from + i) =
      ap (λ x. set is k (from + x)) (get_or-set_same (replicate m 0) k i 0 (let b = a.below in omega arith)) ∙ set-set (replicate m 0) k i (from + i) in
      sym here.1
      ∙ (ap (λ v. cell v is) e
      ∙ (tabulate-cell (set g.lengths k n) (λ js. cell g (set js k (from + get_or js k 0))) is (subst IsGrid e whole_h) (subst (λ v. InBox v.lengths is) e here.0)
      ∙ (ap (cell g) image ∙ (there.1 ∙ sym (slice_get-part g.cells n from i (omega arith) (omega arith)))))))

  pub first-along : (g h : Grid B) (k n : ℕ) → AreAlong k g → IsGrid h → n ≤ length g.cells → h ≡ axis_part g k 0 n → h.cells ≡ take n g.cells
  first-along g h k n a whole_h le e = let l = length-along_axis g k a in part-along g h k 0 n a whole_h (omega arith) (omega arith) e ∙ ap (λ m. take m g.cells) (omega arith)

  pub rest-along : (g h : Grid B) (k n : ℕ) → AreAlong k g → IsGrid h → n ≤ length g.cells → h ≡ axis_part g k n (get_or g.lengths k 0) → h.cells ≡ drop n g.cells
  rest-along g h k n a whole_h le e =
      let l = length-along_axis g k a in
      part-along g h k n (get_or g.lengths k 0) a whole_h (omega arith) (omega arith) e ∙ (ap (λ m. take (m - n) (drop n g.cells)) (sym l) ∙ take_rest g.cells n)
