-- Arrays that are broadcast: one to other lengths, two together, and a vector as a column with another vector.

-- An index list in the box is seen at itself, and one with an index more before it at what is left. An array that is broadcast to its own lengths is
-- the array, and one that is broadcast to those with one more before them has the array's cells below each index.
pub use Rattle.ndarray.proofs.views.OwnLengths.{broadcast_index-own, broadcast_index-row, broadcast_to-own, broadcast_to-row, broadcasts-row}
-- Lengths broadcast to themselves; two shapes broadcast together in either order; where the second broadcasts to the first, to the lengths of the first.
pub use Rattle.ndarray.proofs.views.BroadcastLengths.{broadcasts-itself, lengths-exchanged, lengths-stretched, together-exchanged, together-stretched}
use Rattle.std.proofs.Common.{◌≡◌, ◌∙◌, ◌-◌, ◌<◌, ◌≤◌, ◌==◌, if◌then◌else◌, ℕ, zero, suc, List, [], ◌∷◌, Some, ap, arith, drop, inl, inr, insert, length, refl, remove, replicate, subst, sym}
use Rattle.std.specs.Prelude.{◌↔◌, slice_index}
use Rattle.std.proofs.lemmas.Bool.Decides.{nat_tests}
use Rattle.std.proofs.lemmas.List.{get_or-drop, get_or-replicate, length-drop, length-replicate}
use Rattle.std.proofs.lemmas.List.Edits.{length-insert}
use Rattle.ndarray.specs.Broadcast.{BroadcastTogether, BroadcastsTo, broadcast_index, broadcast_lengths, zero_on_unit_axes}
use Rattle.ndarray.specs.Elementwise.{AreCellsAt, CanCombine, Combines}
use Rattle.ndarray.specs.Grid.{Grid, IsGrid, array_by, cell, grid}
use Rattle.ndarray.specs.Index.{InBox}
use Rattle.ndarray.specs.Limits.{IsWithinLimit}
use Rattle.ndarray.specs.Views.{axis_inserted, broadcast_to}
use Rattle.ndarray.proofs.algebra.Stacks.{tabulate-whole}
use Rattle.ndarray.proofs.boxes.Boxes.{InBox-drop, InBox-length, InBox-removed}
use Rattle.ndarray.proofs.callers.Elementwise.{array_by-follows}
use Rattle.ndarray.proofs.cells.Cells.{cell-Some, cell-inside, tabulate-cell}
use Rattle.ndarray.proofs.cells.Matrices.{one-length, two-lengths}
use Rattle.ndarray.proofs.lists.Elements.{remove-inserted}
use Rattle.ndarray.proofs.views.BroadcastLengths.{Meet, together}
use Rattle.ndarray.proofs.views.Broadcasting.{zero_on_unit_axes-all}

-- An index list of the lengths that others broadcast to is seen at one in their box.
pub broadcast_index-inside : (ns ms is : List ℕ) → BroadcastsTo ns ms → InBox ms is → InBox ns (broadcast_index ns is)
unfolding broadcast_index
broadcast_index-inside ns ms is t inside =
    let few = t.fewer in
    let missing : ℕ = length ms - length ns in
    let long = InBox-length ms is inside in
    let left = length-drop missing ms in
    let steps = length-replicate {A = ℕ} (length ns) 0 in
    let seen = zero_on_unit_axes-all ns (drop missing ms) (replicate (length ns) 0) (replicate (length ns) 0) (drop missing is) (omega arith) (omega arith) (omega arith)
    (λ k lt. elim (t.agree k lt) [ inl one ↦ inl (one, get_or-replicate (length ns) k 0 0 lt) | inr same ↦ inr (same ∙ sym (get_or-drop missing ms k 0), refl) ])
    (InBox-drop missing ms is inside) in
    subst (λ k. InBox ns (zero_on_unit_axes ns (drop k is))) (let e : missing ≡ length is - length ns = omega arith in e) seen.0

-- An array that broadcasts to other lengths.
module _ {A : Type 0} (g : Grid A) (whole : IsGrid g) (ms : List ℕ) (fits : BroadcastsTo g.lengths ms) where
  -- the view is whole
  pub broadcast_to-whole : IsGrid (broadcast_to g ms)
  broadcast_to-whole = tabulate-whole ms (λ is. cell g (broadcast_index g.lengths is)) (λ is inside. cell-Some g whole (broadcast_index g.lengths is) (broadcast_index-inside g.lengths ms is fits inside))

  -- and its cell at an index list is the array's where that is seen
  pub broadcast_to-cell : (is : List ℕ) → InBox ms is → cell (broadcast_to g ms) is ≡ cell g (broadcast_index g.lengths is)
  broadcast_to-cell is inside = tabulate-cell ms (λ is. cell g (broadcast_index g.lengths is)) is broadcast_to-whole inside

-- An array with an axis of length 1 put in.
module _ {A : Type 0} (g : Grid A) (whole : IsGrid g) (k : ℕ) (le : k ≤ length g.lengths) where
  -- the view is whole
  pub axis_inserted-whole : IsGrid (axis_inserted g k)
  axis_inserted-whole =
      let long = length-insert g.lengths k 1 le in
      tabulate-whole (insert g.lengths k 1) (λ is. cell g (remove is k))
      (λ is inside. cell-Some g whole (remove is k) (subst (λ ns. InBox ns (remove is k)) (remove-inserted g.lengths k 1 le) (InBox-removed (insert g.lengths k 1) is k (omega arith) inside)))

  -- and its cell at an index list is the array's at the list without the new index
  pub axis_inserted-cell : (is : List ℕ) → InBox (insert g.lengths k 1) is → cell (axis_inserted g k) is ≡ cell g (remove is k)
  axis_inserted-cell is inside = tabulate-cell (insert g.lengths k 1) (λ is. cell g (remove is k)) is axis_inserted-whole inside

-- Two arrays that broadcast together: the cells that meet at an index list are those of each array where that is seen.
module _ {A B : Type 0} (g : Grid A) (h : Grid B) (left_whole : IsGrid g) (right_whole : IsGrid h) (shapes : BroadcastTogether g.lengths h.lengths) where
  pub cells-meet : (is : List ℕ) (x : A) (y : B)
      → AreCellsAt g h is x y ↔ (InBox (broadcast_lengths g.lengths h.lengths) is × (cell g (broadcast_index g.lengths is) ≡ Some x) × (cell h (broadcast_index h.lengths is) ≡ Some y))
  cells-meet is x y = (
    λ at.
        let ns = broadcast_lengths g.lengths h.lengths in
        let inside = cell-inside (broadcast_to g ns) is x at.left in
        (inside, sym (broadcast_to-cell g left_whole ns shapes.left is inside) ∙ at.left, sym (broadcast_to-cell h right_whole ns shapes.right is inside) ∙ at.right),
    λ p. record {
      left = broadcast_to-cell g left_whole (broadcast_lengths g.lengths h.lengths) shapes.left is p.0 ∙ p.1;
      right = broadcast_to-cell h right_whole (broadcast_lengths g.lengths h.lengths) shapes.right is p.0 ∙ p.2;
    },
  )

-- Two arrays of which it is known when two cells meet at an index list, as from `cells-meet` or `outer-cells`.
module _ {A B : Type 0} (g : Grid A) (h : Grid B) (Meets : List ℕ → A → B → Type 0) (exact : (is : List ℕ) (x : A) (y : B) → AreCellsAt g h is x y ↔ Meets is x y) where
  -- what an operator requires, of an operation that is defined on each two cells that meet
  pub can-combine-where : BroadcastTogether g.lengths h.lengths → (can : A → B → Type 0) → ((is : List ℕ) (x : A) (y : B) → Meets is x y → can x y) → CanCombine g h can
  can-combine-where shapes can each = record { shapes = shapes; defined = λ is x y at. each is x y ((exact is x y).0 at) }

  -- and the operation is defined on each two cells that meet, where that is known
  pub combined-where : (can : A → B → Type 0) → CanCombine g h can → (is : List ℕ) (x : A) (y : B) → Meets is x y → can x y
  combined-where can each is x y meet = each.defined is x y ((exact is x y).1 meet)

  -- the array that an operator returns has at each index list what a function answers that the operation computes
  pub combine-follows-where : {C : Type 0} (gives : A → B → C → Type 0) (r : Grid C) (f : List ℕ → C) (ns : List ℕ) → broadcast_lengths g.lengths h.lengths ≡ ns
      → ((is : List ℕ) (x : A) (y : B) (z : C) → Meets is x y → gives x y z → z ≡ f is) → Combines g h gives r → r ≡ array_by ns f
  combine-follows-where gives r f ns same each c =
      array_by-follows r ns f c.whole (c.lengths ∙ same)
      (λ is z there.
      let (x, y, at, given) = c.cells is z there in
      each is x y z ((exact is x y).0 at) given)

-- a column of n cells and a vector of m
module _ (n m : ℕ) where
  table-lengths : broadcast_lengths (n ∷ 1 ∷ []) (m ∷ []) ≡ n ∷ m ∷ []
  unfolding broadcast_lengths
  table-lengths = let e : (if n == 1 then 1 else n) ≡ n = grind (arith, nat_tests) in ap (λ k. k ∷ m ∷ []) e

  meets : (k : ℕ) → k < 2 → Meet (n ∷ 1 ∷ []) (m ∷ []) k
  meets zero lt = inr (inr refl)
  meets (suc zero) lt = inr (inl refl)
  meets (suc (suc k)) lt = absurd (omega arith)

  seen-at : (i j : ℕ) → i < n → broadcast_index (n ∷ 1 ∷ []) (i ∷ j ∷ []) ≡ i ∷ 0 ∷ []
  unfolding broadcast_index
  seen-at i j lt = let e : (if n == 1 then 0 else i) ≡ i = grind (arith, nat_tests) in ap (λ k. k ∷ 0 ∷ []) e

module _ {A B : Type 0} (n m : ℕ) (xs : List A) (ys : List B) (whole : IsGrid (grid (n ∷ []) xs)) (whole_too : IsGrid (grid (m ∷ []) ys)) (shapes : BroadcastTogether (n ∷ 1 ∷ []) (m ∷ [])) where
  abbrev x : Grid A
  x = grid (n ∷ []) xs

  abbrev y : Grid B
  y = grid (m ∷ []) ys

  met : (is : List ℕ) (a : A) (b : B)
      → AreCellsAt (axis_inserted x 1) y is a b ↔ (InBox (broadcast_lengths (n ∷ 1 ∷ []) (m ∷ [])) is × (cell (axis_inserted x 1) (broadcast_index (n ∷ 1 ∷ []) is) ≡ Some a) × (cell y (broadcast_index (m ∷ []) is) ≡ Some b))
  met = cells-meet (axis_inserted x 1) y (axis_inserted-whole x whole 1 (omega arith)) whole_too shapes

  left : (i j : ℕ) → i < n → cell (axis_inserted x 1) (broadcast_index (n ∷ 1 ∷ []) (i ∷ j ∷ [])) ≡ cell x (i ∷ [])
  left i j lt = ap (cell (axis_inserted x 1)) (seen-at n m i j lt) ∙ axis_inserted-cell x whole 1 (omega arith) (i ∷ 0 ∷ []) (lt, (omega arith, tt))

  right : (i j : ℕ) → InBox (m ∷ []) (j ∷ []) → cell y (broadcast_index (m ∷ []) (i ∷ j ∷ [])) ≡ cell y (j ∷ [])
  right i j inside = ap (cell y) (broadcast_index-row (m ∷ []) i (j ∷ []) inside)

  at-pair : (i j : ℕ) (a : A) (b : B) → AreCellsAt (axis_inserted x 1) y (i ∷ j ∷ []) a b ↔ ((cell x (i ∷ []) ≡ Some a) × (cell y (j ∷ []) ≡ Some b))
  at-pair i j a b = (
    λ at.
        let p = (met (i ∷ j ∷ []) a b).0 at in
        let inside : InBox (n ∷ m ∷ []) (i ∷ j ∷ []) = subst (λ ns. InBox ns (i ∷ j ∷ [])) (table-lengths n m) p.0 in
        (sym (left i j inside.0) ∙ p.1, sym (right i j inside.1) ∙ p.2),
    λ p.
        let row : InBox (n ∷ []) (i ∷ []) = cell-inside x (i ∷ []) a p.0 in
        let column : InBox (m ∷ []) (j ∷ []) = cell-inside y (j ∷ []) b p.1 in
        (met (i ∷ j ∷ []) a b).1 (subst (λ ns. InBox ns (i ∷ j ∷ [])) (sym (table-lengths n m)) (row.0, column), left i j row.0 ∙ p.0, right i j column ∙ p.1),
  )

  at-list : (is : List ℕ) (a : A) (b : B) → AreCellsAt (axis_inserted x 1) y is a b ↔ ((length is ≡ 2) × (cell x (slice_index is 0 ∷ []) ≡ Some a) × (cell y (slice_index is 1 ∷ []) ≡ Some b))
  at-list is a b = (
    λ at.
        let two : length is ≡ 2 = InBox-length (n ∷ m ∷ []) is (subst (λ ns. InBox ns is) (table-lengths n m) ((met is a b).0 at).0) in
        let p = (at-pair (slice_index is 0) (slice_index is 1) a b).0 (subst (λ js. AreCellsAt (axis_inserted x 1) y js a b) (two-lengths is two) at) in
        (two, p.0, p.1),
    λ p. subst (λ js. AreCellsAt (axis_inserted x 1) y js a b) (sym (two-lengths is p.0)) ((at-pair (slice_index is 0) (slice_index is 1) a b).1 (p.1, p.2)),
  )

-- A vector as a column, and another vector.
pub record AreColumnAndRow {A B : Type 0} (x column : Grid A) (y : Grid B) : Type 0 where
  pub one : length x.lengths ≡ 1
  pub one_too : length y.lengths ≡ 1
  pub whole : IsGrid x
  pub whole_too : IsGrid y
  pub inserted : column ≡ axis_inserted x 1

module _ {A B : Type 0} (x column : Grid A) (y : Grid B) (v : AreColumnAndRow x column y) where
  abbrev n : ℕ
  n = slice_index x.lengths 0

  abbrev m : ℕ
  m = slice_index y.lengths 0

  by-lengths : (P : List ℕ → List ℕ → Grid A → Type 0) → P (n ∷ []) (m ∷ []) (axis_inserted (grid (n ∷ []) x.cells) 1) → P x.lengths y.lengths column
  by-lengths P p =
      subst (P x.lengths y.lengths) (sym v.inserted)
      (subst (λ ns. P ns y.lengths (axis_inserted (grid ns x.cells) 1)) (sym (one-length x.lengths v.one))
      (subst (λ ms. P (n ∷ []) ms (axis_inserted (grid (n ∷ []) x.cells) 1)) (sym (one-length y.lengths v.one_too)) p))

  -- the lengths of the column, and of the two broadcast together
  pub column-lengths : column.lengths ≡ n ∷ 1 ∷ []
  column-lengths = by-lengths (λ ns ms c. c.lengths ≡ n ∷ 1 ∷ []) refl

  pub outer-lengths : broadcast_lengths column.lengths y.lengths ≡ n ∷ m ∷ []
  outer-lengths = by-lengths (λ ns ms c. broadcast_lengths c.lengths ms ≡ n ∷ m ∷ []) (table-lengths n m)

  -- they broadcast together where that is within the limit
  pub outer-shapes : IsWithinLimit (n ∷ m ∷ []) → BroadcastTogether column.lengths y.lengths
  outer-shapes limit = by-lengths (λ ns ms c. BroadcastTogether c.lengths ms) (together (n ∷ 1 ∷ []) (m ∷ []) (meets n m) (subst IsWithinLimit (sym (table-lengths n m)) limit))

  -- and the cells that meet at an index list are that of the first vector at its first number, and that of the second at its second
  pub outer-cells : BroadcastTogether column.lengths y.lengths → (is : List ℕ) (a : A) (b : B)
      → AreCellsAt column y is a b ↔ ((length is ≡ 2) × (cell x (slice_index is 0 ∷ []) ≡ Some a) × (cell y (slice_index is 1 ∷ []) ≡ Some b))
  outer-cells =
      by-lengths
      (λ ns ms c. IsGrid (grid ns x.cells) → IsGrid (grid ms y.cells) → BroadcastTogether c.lengths ms → (is : List ℕ) (a : A) (b : B)
      → AreCellsAt c (grid ms y.cells) is a b ↔ ((length is ≡ 2) × (cell (grid ns x.cells) (slice_index is 0 ∷ []) ≡ Some a) × (cell (grid ms y.cells) (slice_index is 1 ∷ []) ≡ Some b)))
      (at-list n m x.cells y.cells) v.whole v.whole_too
