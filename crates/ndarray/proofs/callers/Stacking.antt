-- Two arrays stacked by joining views of them with the new axis inserted, and two items of an array stacked.
use Rattle.std.proofs.Common.{◌≡◌, ◌∙◌, ◌+◌, ◌<◌, ◌^◌, ◌≤◌, ℕ, List, [], ◌∷◌, None, ap, arith, insert, length, refl, remove, sym}
use Rattle.std.specs.Prelude.{slice_index}
use Rattle.std.proofs.lemmas.Bool.{le-ltb, lt-ltb}
use Rattle.std.proofs.lemmas.List.Edits.{length-remove}
use Rattle.std.proofs.lemmas.List.Elements.{All-cons, All-nil}
use Rattle.ndarray.specs.Grid.{Grid, IsGrid}
use Rattle.ndarray.specs.Joining.{concatenate_error, concatenation, shapes_of, stack_error, stack_of}
use Rattle.ndarray.specs.Laws.{StackIsConcatenation}
use Rattle.ndarray.specs.Limits.{IsWithinLimit, nonzero_size}
use Rattle.ndarray.specs.Views.{axis_inserted}
use Rattle.ndarray.proofs.boxes.Sizes.{nonzero-set_le}
use Rattle.ndarray.proofs.cells.LaneCells.{insert-removed}
use Rattle.ndarray.proofs.lists.CellLookup.{same_index-refl}

-- Views v and w of a and b, and those views with the axis inserted: joining these is no error, and gives the stack of a and b.
pub stack-by_joining : {A : Type 0} → StackIsConcatenation A → (axis : ℕ) (a b v w one other : Grid A) → v ≡ a → w ≡ b → IsGrid v → IsGrid w → one ≡ axis_inserted v axis → other ≡ axis_inserted w axis
    → stack_error axis (shapes_of (a ∷ b ∷ [])) ≡ None → (concatenate_error axis (shapes_of (one ∷ other ∷ [])) ≡ None) × (concatenation axis (one ∷ other ∷ []) ≡ stack_of axis (a ∷ b ∷ []))
stack-by_joining law axis a b v w one other p q whole_v whole_w e f none =
    let joined = law axis (v ∷ w ∷ []) (All-cons IsGrid v (w ∷ []) whole_v (All-cons IsGrid w [] whole_w (All-nil IsGrid)))
    (ap (λ x. stack_error axis (shapes_of (x ∷ w ∷ []))) p ∙ (ap (λ y. stack_error axis (shapes_of (a ∷ y ∷ []))) q ∙ none)) in (
      ap (λ x. concatenate_error axis (shapes_of (x ∷ other ∷ []))) e ∙ (ap (λ y. concatenate_error axis (shapes_of (axis_inserted v axis ∷ y ∷ []))) f ∙ joined.0),
      ap (λ x. concatenation axis (x ∷ other ∷ [])) e
          ∙ (ap (λ y. concatenation axis (axis_inserted v axis ∷ y ∷ [])) f
          ∙ (sym joined.1 ∙ (ap (λ x. stack_of axis (x ∷ w ∷ [])) p ∙ ap (λ y. stack_of axis (a ∷ y ∷ [])) q))),
    )

-- two items along an axis of length two or more are stacked along it without an error of shapes
pub items-stack : (ns : List ℕ) (axis : ℕ) → axis < length ns → length ns ≤ 32 → IsWithinLimit ns → 2 ≤ slice_index ns axis → stack_error axis (remove ns axis ∷ remove ns axis ∷ []) ≡ None
items-stack ns axis lt few limit some =
    let ms : List ℕ = remove ns axis in
    let shorter : length ms + 1 ≡ length ns = length-remove ns axis lt in
    let less = nonzero-set_le ns axis 2 lt some in
    let fits : nonzero_size (insert ms axis 2) < 2 ^ 63 = rw (insert-removed ns axis 2 lt) (omega (arith, less, limit)) in
    rw (le-ltb (length ms) axis (omega (arith, shorter, lt)), same_index-refl ms, le-ltb 32 (length ms + 1) (omega (arith, shorter, few)), lt-ltb (nonzero_size (insert ms axis 2)) (2 ^ 63) fits) refl
