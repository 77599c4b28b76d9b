-- Where every selection of an array's cells has its total in range, every selection of the cells of its parts, items and windows has.
use Rattle.std.proofs.Common.{◌<◌, ℕ, arith, length}
use Rattle.std.specs.List.{AllByRecursion, range_with_len}
use Rattle.std.specs.Prelude.{slice_index}
use Rattle.std.proofs.lemmas.List.Elements.{All-map, recursion_from_All}
use Rattle.std.proofs.lemmas.List.FromFn.{get_or-range_with_len, length-range_with_len}
use Rattle.ndarray.specs.Algebra.{CommutativeMonoid}
use Rattle.ndarray.specs.AlongAxis.{IsSummableArray}
use Rattle.ndarray.specs.Grid.{Grid, IsGrid}
use Rattle.ndarray.specs.Subviews.{axis_items}
use Rattle.ndarray.specs.Views.{axis_item}
use Rattle.ndarray.proofs.algebra.RangesOfParts.{axis_item-summable}
pub use Rattle.ndarray.proofs.algebra.RangesOfParts.{axis_item-summable, axis_part-summable, window-summable}

-- all items along an axis, as an iterator over them has them
pub items-summable : {A C : Type 0} (M : CommutativeMonoid C) (in_range : C → Type 0) (value : A → C) (g : Grid A) → IsGrid g → IsSummableArray M in_range value g
    → (axis : ℕ) → axis < length g.lengths → AllByRecursion (IsSummableArray M in_range value) (axis_items g axis)
items-summable M in_range value g whole sums axis lt =
    let n : ℕ = slice_index g.lengths axis in
    let long = length-range_with_len 0 n in
    recursion_from_All (IsSummableArray M in_range value) (axis_items g axis)
    (All-map (IsSummableArray M in_range value) (axis_item g axis) (range_with_len 0 n)
    (λ k d below. axis_item-summable M in_range value g whole sums axis lt _ (omega (arith, get_or-range_with_len 0 n k d (omega arith)))))
