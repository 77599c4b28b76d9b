-- One axis over the first elements of a slice, as many as a shape may have.
use Rattle.std.proofs.Common.{◌≡◌, ℕ, ◌*◌, ◌-◌, ◌<◌, ◌≤◌, ◌^◌, zero, suc, List, [], ◌∷◌, length, take, get_or, Option, refl, sym, ◌∙◌, ap, arith}
use Rattle.std.specs.Prelude.{slice_get}
use Rattle.std.proofs.lemmas.List.{length-take-le}
use Rattle.ndarray.specs.Grid.{Grid, grid, one_axis}
use Rattle.ndarray.specs.Limits.{nonzero_size}
use Rattle.ndarray.specs.base.Places.{Reaches, grid_at}
use Rattle.ndarray.specs.base.Strides.{AreStridesOf}
use Rattle.ndarray.specs.base.Ranks.{block_in}
use Rattle.ndarray.specs.declared.base.shape.Order.TheVariants.{RowMajor}
use Rattle.ndarray.proofs.cells.Cells.{along-row_order}
use Rattle.ndarray.proofs.strides.Reach.{length-cells_at}
use Rattle.ndarray.proofs.strides.Strides.{Reaches-slice, cells_in-slice}

one_axis-fits : (n : ℕ) → n < 2 ^ 63 → nonzero_size (n ∷ []) < 2 ^ 63
one_axis-fits zero h = omega arith
one_axis-fits (suc n) h = omega arith

strides-one : (n : ℕ) → AreStridesOf RowMajor (n ∷ []) (1 ∷ [])
strides-one n = record {
  as_many = refl;
  each = λ p lt. let z : p ≡ 0 = omega arith in ap (λ q. get_or (1 ∷ []) (1 - 1 - q) 0) z ∙ sym (ap (λ q. block_in RowMajor (n ∷ []) q) z);
}

module _ {A : Type 0} (at : ℕ → Option A) (xs : List A) (e : (p : ℕ) → at p ≡ slice_get xs p) (n : ℕ) (room : n ≤ length xs) (limit : n < 2 ^ 63) where
  pub Reaches-one_axis : (one : Type 0) → Reaches one at (n ∷ []) 0 (1 ∷ [])
  Reaches-one_axis one = Reaches-slice RowMajor (n ∷ []) (1 ∷ []) (strides-one n) (one_axis-fits n limit) one at xs e (omega arith)

  pub grid-one_axis : grid_at at (n ∷ []) 0 (1 ∷ []) ≡ one_axis (take n xs)
  grid-one_axis =
      let g : Grid A = grid_at at (n ∷ []) 0 (1 ∷ []) in
      let cells = sym (along-row_order g (length-cells_at at (n ∷ []) 0 (1 ∷ []) (Reaches-one_axis ⊥)))
      ∙ (cells_in-slice RowMajor (n ∷ []) (1 ∷ []) (strides-one n) (one_axis-fits n limit) at xs e (omega arith) ∙ ap (λ m. take m xs) (let o : n * 1 ≡ n = omega arith in o)) in
      ap (grid (n ∷ [])) cells ∙ ap (λ m. grid (m ∷ []) (take n xs)) (sym (length-take-le n xs room))
