-- What holds of each cell, and of one of them: by index lists, and of the list of cells.
use Rattle.std.proofs.Common.{◌≡◌, ◌∙◌, ◌<◌, ℕ, List, Some, [], ap, arith, get_or, length, subst, sym}
use Rattle.std.specs.Prelude.{All, Contains, slice_get}
use Rattle.std.proofs.lemmas.Option.{get_or_from_slice_get}
use Rattle.ndarray.specs.Grid.{Grid, IsGrid, cell}
use Rattle.ndarray.specs.Index.{row_order}
use Rattle.ndarray.specs.base.Ranks.{rank}
use Rattle.ndarray.proofs.boxes.Orders.{length-row_order, rank-lt, row_order-back}
use Rattle.ndarray.proofs.cells.Cells.{cell-inside, cell-within}
use Rattle.ndarray.proofs.lists.Elements.{slice_get-Some}

module _ {A : Type 0} (g : Grid A) (whole : IsGrid g) where
  -- the index list of the k-th cell
  place-of : (k : ℕ) → k < length g.cells → (is : List ℕ) × (cell g is ≡ slice_get g.cells k)
  place-of k lt =
      let l = length-row_order g.lengths in
      let b = row_order-back g.lengths k [] (omega (arith, whole, lt)) in
      (get_or (row_order g.lengths) k [], cell-within g whole (get_or (row_order g.lengths) k []) b.0 ∙ ap (slice_get g.cells) b.1)

  pub each-cell : (P : A → Type 0) → ((is : List ℕ) (x : A) → cell g is ≡ Some x → P x) → All P g.cells
  each-cell P h k d lt =
      let s = slice_get-Some g.cells k lt in
      let p = place-of k lt in
      subst P (sym (get_or_from_slice_get g.cells k s.0 d s.1)) (h p.0 s.0 (p.1 ∙ s.1))

  pub at-each-cell : (P : A → Type 0) → All P g.cells → (is : List ℕ) (x : A) → cell g is ≡ Some x → P x
  at-each-cell P h is x e =
      let inside = cell-inside g is x e in
      let here : slice_get g.cells (rank g.lengths is) ≡ Some x = sym (cell-within g whole is inside) ∙ e in
      let lt = rank-lt g.lengths is inside in
      subst P (get_or_from_slice_get g.cells (rank g.lengths is) x x here) (h (rank g.lengths is) x (omega (arith, whole, lt)))

  pub some-cell : (x : A) → Contains g.cells x → (is : List ℕ) × (cell g is ≡ Some x)
  some-cell x c =
      let s = slice_get-Some g.cells c.0 c.1 in
      let p = place-of c.0 c.1 in
      (p.0, p.1 ∙ (s.1 ∙ ap Some (sym (get_or_from_slice_get g.cells c.0 s.0 x s.1) ∙ c.2)))
