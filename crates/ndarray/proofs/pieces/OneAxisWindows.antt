-- Windows along one axis: on the others there is one position.
use Rattle.std.proofs.Common.{◌≡◌, ℕ, ◌+◌, ◌-◌, ◌*◌, ◌/◌, ◌<◌, ◌≤◌, suc, zero, List, [], ◌∷◌, ◌++◌, length, map, set, get_or, replicate, inl, inr, refl, sym, ◌∙◌, ap, arith}
use Rattle.std.specs.Prelude.{All, flat_map}
use Rattle.std.specs.List.{range_with_len}
use Rattle.std.proofs.lemmas.Simd.{map-map}
use Rattle.std.proofs.lemmas.List.{append-nil, length-replicate, length-set}
use Rattle.std.proofs.lemmas.List.FromFn.{length-map-range_with_len}
use Rattle.std.proofs.lemmas.Grind.{common_steps}
use Rattle.std.proofs.lemmas.List.Elements.{All-head, All-tail, All-set, All-replicate}
use Rattle.std.proofs.Math.Nat.{div-eq-sub-div, div-eq_of_lt}
use Rattle.std.proofs.lemmas.Bool.{cases_lt}
use Rattle.ndarray.specs.Index.{row_order}
use Rattle.ndarray.specs.Grid.{Grid, cell, one_axis, grid}
use Rattle.ndarray.specs.Views.{axis_part}
use Rattle.ndarray.specs.Subviews.{ArePositive, axis_windows_of, chunk_counts, exact_chunks_of, window_index, window, window_count, window_counts, windows_of}
use Rattle.ndarray.specs.base.Pieces.{AreWindowsOf}
use Rattle.ndarray.proofs.boxes.Boxes.{InBox-length}
use Rattle.ndarray.proofs.cells.Cells.{tabulate-same, array_by-same}
use Rattle.ndarray.proofs.lists.Elements.{map-same}
use Rattle.ndarray.proofs.boxes.Orders.{row_order-one, row_order-ones}
use Rattle.ndarray.proofs.pieces.Windows.{none, some}

-- ---- whole chunks are windows that lie side by side

window_count-chunk : (n c : ℕ) → 1 ≤ c → window_count n c c ≡ n / c
window_count-chunk n c h =
    elim (cases_lt n c) [
      | inl below ↦ none n c c below ∙ sym (div-eq_of_lt below)
      | inr le ↦ some n c c le ∙ sym (div-eq-sub-div h le)
    ]

pub window_counts-chunks : (ns cs : List ℕ) → length cs ≡ length ns → All (λ c. 1 ≤ c) cs → window_counts ns cs cs ≡ chunk_counts ns cs
window_counts-chunks [] cs l h = refl
window_counts-chunks (n ∷ ns) [] l h = absurd (omega arith)
window_counts-chunks (n ∷ ns) (c ∷ cs) l h =
    let a = window_count-chunk n c (All-head (λ x. 1 ≤ x) c cs h) in
    let b = window_counts-chunks ns cs (omega arith) (All-tail (λ x. 1 ≤ x) c cs h) in
    cc

pub exact_chunks-windows : {A : Type 0} (g : Grid A) (cs : List ℕ) → ArePositive g.lengths cs → windows_of g cs cs ≡ exact_chunks_of g cs
exact_chunks-windows g cs h = array_by-same (window_counts g.lengths cs cs) (chunk_counts g.lengths cs) (window g cs cs) (window g cs cs) (window_counts-chunks g.lengths cs h.as_many h.positive) (λ is b. refl)

-- ---- one axis

-- windows are whole on the others
pub AreWindowsOf-set : (ns : List ℕ) (k w : ℕ) → 1 ≤ w → AreWindowsOf ns (set ns k w)
AreWindowsOf-set ns k w h = record { as_many = length-set ns k w; none = λ j lt z. grind (arith, common_steps) }

-- and one step apart
pub ArePositive-set : (ns : List ℕ) (k s : ℕ) → 1 ≤ s → ArePositive ns (set (replicate (length ns) 1) k s)
ArePositive-set ns k s h = record {
  as_many = length-set (replicate (length ns) 1) k s ∙ length-replicate (length ns) 1;
  positive = All-set (λ c. 1 ≤ c) (replicate (length ns) 1) k s h (All-replicate (λ c. 1 ≤ c) (length ns) 1 (omega arith));
}

window_counts-whole : (ns : List ℕ) → window_counts ns ns (replicate (length ns) 1) ≡ replicate (length ns) 1
window_counts-whole [] = refl
window_counts-whole (n ∷ ns) =
    let a : window_count n n 1 ≡ 1 = some n n 1 (omega arith) ∙ (let z : n - n ≡ 0 = omega arith in ap (λ x. x / 1 + 1) z) in
    let b = window_counts-whole ns in
    cc

pub window_counts-axis : (ns : List ℕ) (k w s : ℕ) → k < length ns → window_counts ns (set ns k w) (set (replicate (length ns) 1) k s) ≡ set (replicate (length ns) 1) k (window_count (get_or ns k 0) w s)
window_counts-axis [] k w s h = absurd (omega arith)
window_counts-axis (n ∷ ns) zero w s h = ap (λ xs. window_count n w s ∷ xs) (window_counts-whole ns)
window_counts-axis (n ∷ ns) (suc k) w s h =
    let a : window_count n n 1 ≡ 1 = some n n 1 (omega arith) ∙ (let z : n - n ≡ 0 = omega arith in ap (λ x. x / 1 + 1) z) in
    let b = window_counts-axis ns k w s (omega arith) in
    cc

heads : (zs : List ℕ) (ks : List ℕ) → flat_map (λ k. map (λ is. k ∷ is) (zs ∷ [])) ks ≡ map (λ k. k ∷ zs) ks
heads zs [] = refl
heads zs (k ∷ ks) = ap (λ xs. (k ∷ zs) ∷ xs) (heads zs ks)

pub row_order-axis : (m k c : ℕ) → k < m → row_order (set (replicate m 1) k c) ≡ map (λ i. set (replicate m 0) k i) (range_with_len 0 c)
unfolding row_order
row_order-axis zero k c h = absurd (omega arith)
row_order-axis (suc m) zero c h = ap (λ xs. flat_map (λ k. map (λ is. k ∷ is) xs) (range_with_len 0 c)) (row_order-ones m) ∙ heads (replicate m 0) (range_with_len 0 c)
row_order-axis (suc m) (suc k) c h =
    ap (λ xs. map (λ is. 0 ∷ is) xs ++ []) (row_order-axis m k c (omega arith))
    ∙ (append-nil (map (λ is. 0 ∷ is) (map (λ i. set (replicate m 0) k i) (range_with_len 0 c)))
    ∙ map-map (λ is. 0 ∷ is) (λ i. set (replicate m 0) k i) (range_with_len 0 c))

window_index-zeros : (js : List ℕ) → window_index (replicate (length js) 1) (replicate (length js) 0) js ≡ js
window_index-zeros [] = refl
window_index-zeros (j ∷ js) = let z : 0 + j ≡ j = omega arith in ap (λ x. x ∷ window_index (replicate (length js) 1) (replicate (length js) 0) js) z ∙ ap (λ xs. j ∷ xs) (window_index-zeros js)

window_index-axis : (js : List ℕ) (k i s : ℕ) → k < length js → window_index (set (replicate (length js) 1) k s) (set (replicate (length js) 0) k i) js ≡ set js k (i * s + get_or js k 0)
window_index-axis [] k i s h = absurd (omega arith)
window_index-axis (j ∷ js) zero i s h = ap (λ xs. (i * s + j) ∷ xs) (window_index-zeros js)
window_index-axis (j ∷ js) (suc k) i s h = let z : 0 + j ≡ j = omega arith in ap (λ x. x ∷ window_index (set (replicate (length js) 1) k s) (set (replicate (length js) 0) k i) js) z ∙ ap (λ xs. j ∷ xs) (window_index-axis js k i s (omega arith))

map-each : {X Y : Type 0} (f h : X → Y) (xs : List X) → ((x : X) → f x ≡ h x) → map f xs ≡ map h xs
map-each f h xs e = map-same f h (λ _. Unit {0}) xs (λ x _. e x) (λ k d lt. tt)

window-axis : {A : Type 0} (g : Grid A) (k w s i : ℕ) → k < length g.lengths → window g (set g.lengths k w) (set (replicate (length g.lengths) 1) k s) (set (replicate (length g.lengths) 0) k i) ≡ axis_part g k (i * s) (i * s + w)
window-axis g k w s i h =
    tabulate-same (set g.lengths k w) (set g.lengths k (i * s + w - i * s)) (λ js. cell g (window_index (set (replicate (length g.lengths) 1) k s) (set (replicate (length g.lengths) 0) k i) js)) (λ js. cell g (set js k (i * s + get_or js k 0)))
    (let e : w ≡ i * s + w - i * s = omega arith in ap (set g.lengths k) e)
    (λ js b.
    let l : length js ≡ length g.lengths = InBox-length (set g.lengths k w) js b ∙ length-set g.lengths k w in
    ap (cell g) (ap (λ m. window_index (set (replicate m 1) k s) (set (replicate m 0) k i) js) (sym l) ∙ window_index-axis js k i s (omega arith)))

-- the windows along one axis, as a line
pub axis_windows-one_axis : {A : Type 0} (g : Grid A) (k w s : ℕ) → k < length g.lengths → one_axis (windows_of g (set g.lengths k w) (set (replicate (length g.lengths) 1) k s)).cells ≡ axis_windows_of g k w s
axis_windows-one_axis g k w s h =
    let m : ℕ = length g.lengths in
    let c : ℕ = window_count (get_or g.lengths k 0) w s in
    let whole = λ (ps : List ℕ). window g (set g.lengths k w) (set (replicate m 1) k s) ps in
    let at = λ (i : ℕ). axis_part g k (i * s) (i * s + w) in
    let left : map whole (row_order (window_counts g.lengths (set g.lengths k w) (set (replicate m 1) k s))) ≡ map at (range_with_len 0 c) =
    ap (λ ns. map whole (row_order ns)) (window_counts-axis g.lengths k w s h)
    ∙ (ap (map whole) (row_order-axis m k c h)
    ∙ (map-map whole (λ i. set (replicate m 0) k i) (range_with_len 0 c)
    ∙ map-each (λ i. whole (set (replicate m 0) k i)) at (range_with_len 0 c) (λ i. window-axis g k w s i h))) in
    let right : map (λ ps. axis_part g k (get_or ps 0 0 * s) (get_or ps 0 0 * s + w)) (row_order (c ∷ [])) ≡ map at (range_with_len 0 c) =
    ap (map (λ ps. axis_part g k (get_or ps 0 0 * s) (get_or ps 0 0 * s + w))) (row_order-one c)
    ∙ map-map (λ ps. axis_part g k (get_or ps 0 0 * s) (get_or ps 0 0 * s + w)) (λ j. j ∷ []) (range_with_len 0 c) in
    ap one_axis left
    ∙ (ap (λ n. grid (n ∷ []) (map at (range_with_len 0 c))) (length-map-range_with_len at 0 c)
    ∙ ap (grid (c ∷ [])) (sym right))
