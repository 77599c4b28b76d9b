-- Joining arrays along an axis, or along a new one, and when that is an error.
use Rattle.std.specs.Prelude.{ℕ, ◌+◌, ◌-◌, ◌^◌, Bool, not, nat_lt, if◌then◌else◌, List, [], ◌∷◌, length, map, sum_by, insert, remove, slice_get, slice_index, slice_set, Option, Some, None, codes, option_and_then}
use Rattle.std.specs.List.{list_all}
use Rattle.ndarray.specs.Errors.{shape_error_text}
use Rattle.ndarray.specs.Grid.{Grid, cell, same_index, tabulate}
use Rattle.ndarray.specs.Limits.{nonzero_size}
use Rattle.ndarray.specs.declared.base.error.ErrorKind.{ErrorKind}
use Rattle.ndarray.specs.declared.base.error.ErrorKind.TheVariants.{IncompatibleShape, RangeLimited, OutOfBounds, Unsupported, Overflow}
use Rattle.ndarray.specs.declared.stacking.error.StackError.{StackError}
use Rattle.ndarray.specs.declared.stacking.error.StackError.TheVariants.{Shape, Memory}

-- the lengths of each array
abbrev pub shapes_of : {A : Type 0} → List (Grid A) → List (List ℕ)
shapes_of gs = map (λ g. g.lengths) gs

-- the lengths of arrays joined along an axis: those of the first array, with the lengths of all along the axis added up
abbrev pub concatenation_lengths : ℕ → List (List ℕ) → List ℕ
concatenation_lengths axis [] = []
concatenation_lengths axis (ns ∷ nss) = slice_set ns axis (sum_by (λ ms. slice_index ms axis) (ns ∷ nss))

-- the cell of arrays joined along an axis: where the index along it is below the length of the first array, that array's; else that of the others, at the index less that length
abbrev pub concatenation_cell : {A : Type 0} → ℕ → List (Grid A) → List ℕ → Option A
concatenation_cell axis [] is = None
concatenation_cell axis (g ∷ gs) is =
    if nat_lt (slice_index is axis) (slice_index g.lengths axis) then cell g is
    else concatenation_cell axis gs (slice_set is axis (slice_index is axis - slice_index g.lengths axis))

-- arrays joined along an axis
abbrev pub concatenation : {A : Type 0} → ℕ → List (Grid A) → Grid A
concatenation axis gs = tabulate (concatenation_lengths axis (shapes_of gs)) (concatenation_cell axis gs)

-- the lengths of arrays stacked along a new axis: those of the first array, with the number of arrays put in
abbrev pub stack_lengths : ℕ → List (List ℕ) → List ℕ
stack_lengths axis [] = []
stack_lengths axis (ns ∷ nss) = insert ns axis (length (ns ∷ nss))

-- the cell of arrays stacked along a new axis: the index along it names the array, the others its cell
abbrev pub stack_cell : {A : Type 0} → ℕ → List (Grid A) → List ℕ → Option A
stack_cell axis gs is = option_and_then (λ g. cell g (remove is axis)) (slice_get gs (slice_index is axis))

-- arrays stacked along a new axis
abbrev pub stack_of : {A : Type 0} → ℕ → List (Grid A) → Grid A
stack_of axis gs = tabulate (stack_lengths axis (shapes_of gs)) (stack_cell axis gs)

-- the lengths that are not 0 multiply to at most `isize::MAX`
abbrev pub is_within_limit : List ℕ → Bool
is_within_limit ns = nat_lt (nonzero_size ns) (2 ^ 63)

-- the lengths ms are ns but along the axis: once the length there is that of ns, they are the same, as many included
abbrev pub is_same_but_along : ℕ → List ℕ → List ℕ → Bool
is_same_but_along axis ns ms = same_index ns (slice_set ms axis (slice_index ns axis))

-- why arrays of these lengths cannot be joined along an axis: the first case that holds, and `None` where they can
abbrev pub concatenate_error : ℕ → List (List ℕ) → Option ErrorKind
concatenate_error axis [] = Some Unsupported
concatenate_error axis (ns ∷ nss) =
    if not (nat_lt axis (length ns)) then Some OutOfBounds
    else if not (list_all (is_same_but_along axis ns) nss) then Some IncompatibleShape
    else if not (is_within_limit (concatenation_lengths axis (ns ∷ nss))) then Some Overflow
    else None

-- why arrays of these lengths cannot be stacked along a new axis: the first case that holds, and `None` where they can
abbrev pub stack_error : ℕ → List (List ℕ) → Option ErrorKind
stack_error axis [] = Some Unsupported
stack_error axis (ns ∷ nss) =
    if nat_lt (length ns) axis then Some OutOfBounds
    else if not (list_all (same_index ns) nss) then Some IncompatibleShape
    else if nat_lt 32 (length ns + 1) then Some RangeLimited
    else if not (is_within_limit (stack_lengths axis (ns ∷ nss))) then Some Overflow
    else None

-- what is written of an error of joining arrays
abbrev pub stack_error_text : StackError → List ℕ
stack_error_text (Shape e) = shape_error_text e
stack_error_text (Memory e) = codes "memory allocation failed"
