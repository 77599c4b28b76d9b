-- The cells of a view that lie side by side, in row order, as a run of its elements.
use Rattle.std.proofs.Common.{◌≡◌, ℕ, ◌+◌, ◌-◌, ◌<◌, ◌≤◌, List, [], length, map, take, drop, get_or, Option, Some, None, sym, ◌∙◌, ap, arith}
use Rattle.std.specs.Prelude.{slice_get}
use Rattle.std.specs.Option.{option_map}
use Rattle.std.proofs.lemmas.List.{length-map, length-take-le, length-drop, get_or-drop}
use Rattle.std.proofs.lemmas.Option.{slice_get-get_or, slice_get-map}
use Rattle.ndarray.specs.Index.{InBox, size, row_order}
use Rattle.ndarray.specs.base.Ranks.{rank}
use Rattle.ndarray.specs.base.Places.{place, cells_at, Reaches}
use Rattle.ndarray.specs.base.Slots.{held_at, IsRun}
use Rattle.ndarray.proofs.lists.Elements.{same_from_slice_get, slice_get-take}
use Rattle.ndarray.proofs.boxes.Orders.{row_order-back, length-row_order}
use Rattle.ndarray.proofs.strides.Reach.{all-some, length-cells_at, slice_get-cells_at}
use Rattle.ndarray.proofs.regions.Slots.{filled_within}

module _ {A one : Type 0} (cs : List (Option A)) (ns : List ℕ) (start : ℕ) (bs : List ℕ) (h : Reaches one (held_at cs) ns start bs)
    (beside : (is : List ℕ) → InBox ns is → place start bs is ≡ start + rank ns is) where
  abbrev cells : List A
  cells = cells_at (held_at cs) ns start bs

  at-run : (k : ℕ) → k < size ns → (x : A) × ((held_at cs (start + k) ≡ Some x) × (slice_get cells k ≡ Some x))
  at-run k lt =
      let some = all-some (held_at cs) ns start bs h k [] (omega (arith, length-row_order ns)) in
      let back = row_order-back ns k [] lt in
      let here = beside (get_or (row_order ns) k []) back.0 ∙ ap (λ j. start + j) back.1 in
      (some.0, (sym (ap (held_at cs) here) ∙ some.1, slice_get-cells_at (held_at cs) ns start bs h k lt ∙ some.1))

  run-within : 0 < size ns → start + size ns ≤ length cs
  run-within some =
      let last : ℕ = size ns - 1 in
      let found = at-run last (omega arith) in
      omega (arith, filled_within cs (start + last) found.0 found.1.0)

  -- the run from the start on has the cells
  pub run-cells : 0 < size ns → take (size ns) (drop start cs) ≡ map Some cells
  run-cells some =
      let within = run-within some in
      let rest = length-drop start cs in
      let long = length-take-le (size ns) (drop start cs) (omega arith) in
      let many = length-cells_at (held_at cs) ns start bs h in
      same_from_slice_get (take (size ns) (drop start cs)) (map Some cells) (omega (arith, length-map cells (λ x. Some x)))
      (λ k lt.
      let found = at-run k (omega arith) in
      slice_get-take (size ns) (drop start cs) k (omega arith)
      ∙ (slice_get-get_or (drop start cs) k None (omega arith)
      ∙ (ap Some (get_or-drop start cs k None ∙ found.1.0)
      ∙ sym (slice_get-map (λ x. Some x) cells k ∙ ap (option_map (λ x. Some x)) found.1.1))))

  pub IsRun-cells : 0 < size ns → IsRun cs start (size ns)
  IsRun-cells some = (run-within some, (cells, run-cells some))
