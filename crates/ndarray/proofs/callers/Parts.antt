-- Parts of a vector, as `split_at` and `slice_axis` give them: their lengths, and their cells.
use Rattle.std.proofs.Common.{◌≡◌, ◌∙◌, ℕ, ◌-◌, ◌*◌, ◌≤◌, [], ◌∷◌, length, take, drop, get_or, set, ap, sym, arith}
use Rattle.std.proofs.lemmas.List.{length-drop, take_all}
use Rattle.ndarray.specs.Grid.{Grid, IsGrid}
use Rattle.ndarray.specs.Index.{size}
use Rattle.ndarray.specs.Views.{axis_part}
use Rattle.ndarray.proofs.callers.Joining.{one_axis-is}
use Rattle.ndarray.proofs.cells.Matrices.{one-length}
use Rattle.ndarray.proofs.runs.OneAxisProducers.{one_axis-part}

module _ {A : Type 0} (g : Grid A) (one : length g.lengths ≡ 1) where
  -- the one length of a part
  pub part-lengths : (from to : ℕ) → (axis_part g 0 from to).lengths ≡ (to - from) ∷ []
  part-lengths from to = ap (λ ns. set ns 0 (to - from)) (one-length g.lengths one)

  module _ (whole : IsGrid g) where
    -- a vector has as many cells as its length
    pub length-cells : length g.cells ≡ get_or g.lengths 0 0
    length-cells = let n = get_or g.lengths 0 0 in whole ∙ (ap size (one-length g.lengths one) ∙ (let e : n * 1 ≡ n = omega arith in e))

    -- the cells of the part from one index up to another
    pub part-cells : (from to : ℕ) → from ≤ to → to ≤ get_or g.lengths 0 0 → (axis_part g 0 from to).cells ≡ take (to - from) (drop from g.cells)
    part-cells from to le end =
        let long = length-cells in
        ap (λ h. (axis_part h 0 from to).cells) (one_axis-is g one whole) ∙ sym (ap (λ h. h.cells) (one_axis-part g.cells from to le (omega (arith, long, end))))

    -- those before an index, and those from one on
    pub first-cells : (k : ℕ) → k ≤ get_or g.lengths 0 0 → (axis_part g 0 0 k).cells ≡ take k g.cells
    first-cells k le = part-cells 0 k (omega arith) le ∙ ap (λ m. take m g.cells) (let e : k - 0 ≡ k = omega arith in e)

    pub rest-cells : (k : ℕ) → k ≤ get_or g.lengths 0 0 → (axis_part g 0 k (get_or g.lengths 0 0)).cells ≡ drop k g.cells
    rest-cells k le =
        let n = get_or g.lengths 0 0 in
        let long = length-cells in
        part-cells k n le (omega arith) ∙ take_all (n - k) (drop k g.cells) (let d = length-drop k g.cells in omega (arith, d, long))
