-- Totals of lists and of arrays.

-- The total of an array is that of the totals of its lanes, for each axis of it.
pub use Rattle.ndarray.proofs.algebra.AxisSums.{axis_sums}
-- Of two lists, one behind the other; of sums; and of totals, in either order.
pub use Rattle.ndarray.proofs.algebra.Totals.{total-append, total-plus, total-swap}
use Rattle.std.proofs.Common.{List, [], append-nil, map, subst, sym}
use Rattle.ndarray.specs.Algebra.{CommutativeMonoid}
use Rattle.ndarray.specs.Sums.{IsSummable, IsSummableBy, total_by}
use Rattle.ndarray.proofs.sums.Fronts.{front-in-range}
use Rattle.ndarray.proofs.sums.Selections.{IsSummableBy-map, total_by-map}

-- where every selection of a list has its total in range, the list has
pub total-in_range : {A C : Type 0} (M : CommutativeMonoid C) (in_range : C → Type 0) (value : A → C) (xs : List A) → IsSummableBy M in_range value xs → in_range (total_by M value xs)
total-in_range M in_range value xs sums =
    subst in_range (sym (total_by-map M value xs))
    (front-in-range M in_range (map value xs) [] (subst (IsSummable M in_range) (sym (append-nil (map value xs))) ((IsSummableBy-map M value in_range xs).0 sums)))
