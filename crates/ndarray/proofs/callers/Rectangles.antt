-- Rectangles of a table: windows, and their totals.
use Rattle.std.proofs.Common.{◌≡◌, ◌+◌, ◌-◌, ◌<◌, ◌≤◌, ℕ, length, get_or, set, ap, subst, arith, ◌∙◌}
use Rattle.std.proofs.lemmas.List.{get_or-set_same, length-set, set-get_or, set-set}
use Rattle.ndarray.specs.Algebra.{CommutativeMonoid}
use Rattle.ndarray.specs.Grid.{Grid, IsGrid, cell}
use Rattle.ndarray.specs.Index.{InBox}
use Rattle.ndarray.specs.ScanLaws.{rectangle}
use Rattle.ndarray.specs.Sums.{IsSummableBy, total_by}
use Rattle.ndarray.specs.Views.{axis_part}
use Rattle.ndarray.proofs.algebra.RangesOfParts.{parts-stay}
use Rattle.ndarray.proofs.algebra.Stacks.{tabulate-whole}
use Rattle.ndarray.proofs.boxes.Boxes.{InBox-get, InBox-set_both}
use Rattle.ndarray.proofs.callers.Totals.{total-in_range}
use Rattle.ndarray.proofs.cells.Cells.{cell-Some}
use Rattle.ndarray.proofs.cells.Matrices.{two-lengths}
-- With two axes, the window of so many rows and columns at a row and a column is the rectangle of these.
pub use Rattle.ndarray.proofs.algebra.SummedAreas.{window-rectangle}

-- the part of an axis from one index up to another is whole
pub part-whole : {A : Type 0} (g : Grid A) → IsGrid g → (k from to : ℕ) → k < length g.lengths → from ≤ to → to ≤ get_or g.lengths k 0 → IsGrid (axis_part g k from to)
part-whole g whole k from to lt up most =
    tabulate-whole (set g.lengths k (to - from)) (λ is. cell g (set is k (from + get_or is k 0)))
    (λ is b.
    let many = length-set g.lengths k (to - from) in
    let below = InBox-get (set g.lengths k (to - from)) is k b (omega (arith, many, lt)) in
    let room = get_or-set_same g.lengths k (to - from) 0 lt in
    cell-Some g whole (set is k (from + get_or is k 0))
    (subst (λ ns. InBox ns (set is k (from + get_or is k 0))) (set-set g.lengths k (to - from) (get_or g.lengths k 0) ∙ set-get_or g.lengths k 0)
    (InBox-set_both (set g.lengths k (to - from)) is k (get_or g.lengths k 0) (from + get_or is k 0) b (omega (arith, below, room, up, most)))))

-- where every selection of a table's cells has its total in range, each rectangle has
pub rectangle-in_range : {A C : Type 0} (M : CommutativeMonoid C) (in_range : C → Type 0) (value : A → C) (g : Grid A) → IsGrid g → length g.lengths ≡ 2 → IsSummableBy M in_range value g.cells
    → (a b c d : ℕ) → a ≤ b → b ≤ get_or g.lengths 0 0 → c ≤ d → d ≤ get_or g.lengths 1 0 → in_range (total_by M value (rectangle g a b c d).cells)
rectangle-in_range M in_range value g whole two sums a b c d up most across wide =
    let many = length-set g.lengths 0 (b - a) in
    let same : get_or (set g.lengths 0 (b - a)) 1 0 ≡ get_or g.lengths 1 0 = ap (λ ns. get_or (set ns 0 (b - a)) 1 0) (two-lengths g.lengths two) in
    total-in_range M in_range value (rectangle g a b c d).cells
    (parts-stay M in_range value (axis_part g 0 a b) 1 c d (part-whole g whole 0 a b (omega (arith, two)) up most) (omega (arith, many, two)) across (omega (arith, same, wide))
    (parts-stay M in_range value g 0 a b whole (omega (arith, two)) up most sums))
