-- Operators between arrays of the same lengths, and between an array and a row.
use Rattle.std.proofs.Common.{◌≡◌, ◌∙◌, ◌<◌, ℕ, List, [], ◌∷◌, Some, ap, arith, length, refl, remove, subst, sym}
use Rattle.std.specs.Prelude.{slice_index}
use Rattle.ndarray.specs.Broadcast.{BroadcastsTo, broadcast_lengths}
use Rattle.ndarray.specs.Elementwise.{Assigns, CanAssign, CanCombine, Combines}
use Rattle.ndarray.specs.Everyday.{combined}
use Rattle.ndarray.specs.Grid.{Grid, IsGrid, array_by, cell}
use Rattle.ndarray.specs.Index.{InBox}
use Rattle.ndarray.specs.Limits.{IsWithinLimit}
use Rattle.ndarray.specs.Updates.{is_pair_of_cells}
use Rattle.ndarray.specs.Views.{broadcast_to}
use Rattle.ndarray.proofs.cells.Cells.{array_by-cell, array_by-whole, cell-inside, cell-Some, same_grid}
use Rattle.ndarray.proofs.cells.Mapped.{maps-combined}
use Rattle.ndarray.proofs.views.BroadcastLengths.{broadcasts-itself, lengths-stretched, together-stretched}
use Rattle.ndarray.proofs.views.OwnLengths.{broadcast_to-own, broadcast_to-row, broadcasts-row}

-- an array that has at each index list what a function answers there
pub array_by-follows : {C : Type 0} (r : Grid C) (ns : List ℕ) (f : List ℕ → C) → IsGrid r → r.lengths ≡ ns → ((is : List ℕ) (z : C) → cell r is ≡ Some z → z ≡ f is) → r ≡ array_by ns f
array_by-follows r ns f whole e at =
    same_grid r (array_by ns f) whole (array_by-whole ns f) e
    (λ is b.
    let (z, there) = cell-Some r whole is b in
    there ∙ (ap (λ v. Some v) (at is z there) ∙ sym (array_by-cell ns f is (subst (λ ms. InBox ms is) e b))))

-- the cell of an array made by a function of the index list
pub array_by-at : {B : Type 0} (ns : List ℕ) (f : List ℕ → B) (w : Grid B) (i : List ℕ) (x : B) → w ≡ array_by ns f → InBox w.lengths i → cell w i ≡ Some x → x ≡ f i
array_by-at ns f w i x e b s =
    let at = array_by-cell ns f i (subst (λ v. InBox v.lengths i) e b) in
    let k : cell w i ≡ cell (array_by ns f) i = ap (λ v. cell v i) e in
    cc

-- Two arrays of the same lengths.
module _ {A B : Type 0} (g : Grid A) (h : Grid B) (left_whole : IsGrid g) (right_whole : IsGrid h) (same : g.lengths ≡ h.lengths) where
  -- the lengths of the array that an operator returns are theirs
  pub lengths-same : broadcast_lengths g.lengths h.lengths ≡ g.lengths
  lengths-same = lengths-stretched g.lengths h.lengths (subst (λ ms. BroadcastsTo ms g.lengths) same (broadcasts-itself g.lengths))

  left-own : (is : List ℕ) → cell (broadcast_to g (broadcast_lengths g.lengths h.lengths)) is ≡ cell g is
  left-own is = ap (λ ms. cell (broadcast_to g ms) is) lengths-same ∙ ap (λ v. cell v is) (broadcast_to-own g left_whole)

  right-own : (is : List ℕ) → cell (broadcast_to h (broadcast_lengths g.lengths h.lengths)) is ≡ cell h is
  right-own is = ap (λ ms. cell (broadcast_to h ms) is) (lengths-same ∙ same) ∙ ap (λ v. cell v is) (broadcast_to-own h right_whole)

  -- what an operator requires, of an operation that is defined on the two cells at each index list
  pub can-combine : (can : A → B → Type 0) → IsWithinLimit g.lengths → ((is : List ℕ) (x : A) (y : B) → cell g is ≡ Some x → cell h is ≡ Some y → can x y) → CanCombine g h can
  can-combine can limit each = record {
    shapes = together-stretched g.lengths h.lengths (subst (λ ms. BroadcastsTo ms g.lengths) same (broadcasts-itself g.lengths)) limit;
    defined = λ is x y there. each is x y (sym (left-own is) ∙ there.left) (sym (right-own is) ∙ there.right);
  }

  -- and the operation is defined on the two cells at each index list, where that is known
  pub combined-cells : (can : A → B → Type 0) → CanCombine g h can → (is : List ℕ) (x : A) (y : B) → cell g is ≡ Some x → cell h is ≡ Some y → can x y
  combined-cells can each is x y l m = each.defined is x y (record { left = left-own is ∙ l; right = right-own is ∙ m })

  -- the array that an operator returns has these lengths, and at each index list what a function answers that the operation computes
  pub combine-follows : {C : Type 0} (gives : A → B → C → Type 0) (r : Grid C) (f : List ℕ → C) → ((is : List ℕ) (x : A) (y : B) (z : C) → cell g is ≡ Some x → cell h is ≡ Some y → gives x y z → z ≡ f is)
      → Combines g h gives r → r ≡ array_by g.lengths f
  combine-follows gives r f each c =
      array_by-follows r g.lengths f c.whole (c.lengths ∙ lengths-same)
      (λ is z there.
      let (x, y, at, given) = c.cells is z there in
      each is x y z (sym (left-own is) ∙ at.left) (sym (right-own is) ∙ at.right) given)

  -- and is what a function of two cells gives, where the operation computes that
  pub combines-combined : {C : Type 0} (gives : A → B → C → Type 0) (r : Grid C) (f : A → B → C) → ((x : A) (y : B) (z : C) → gives x y z → z ≡ f x y) → Combines g h gives r → r ≡ combined f g h
  combines-combined gives r f each c =
      maps-combined g h r gives f left_whole right_whole (sym same) each (record {
        lengths = c.lengths ∙ lengths-same;
        whole = c.whole;
        cells = λ is z there.
            let (x, y, at, given) = c.cells is z there in
            (x, y, sym (left-own is) ∙ at.left, sym (right-own is) ∙ at.right, given);
      })

-- An array, and a row: one that has its lengths without the first.
module _ {A B : Type 0} (g : Grid A) (h : Grid B) (whole : IsGrid h) (n : ℕ) (long : g.lengths ≡ n ∷ h.lengths) where
  below : (i : ℕ) (js : List ℕ) (x : A) (y : B) → is_pair_of_cells g h (i ∷ js) (x, y) → cell h js ≡ Some y
  below i js x y p =
      let b : InBox (n ∷ h.lengths) (i ∷ js) = subst (λ ns. InBox ns (i ∷ js)) long (cell-inside g (i ∷ js) x p.0) in
      sym (ap (λ ns. cell (broadcast_to h ns) (i ∷ js)) long ∙ broadcast_to-row n h whole i js b) ∙ p.1

  defined-below : (can : A → B → Type 0) → ((i : ℕ) (js : List ℕ) (x : A) (y : B) → cell g (i ∷ js) ≡ Some x → cell h js ≡ Some y → can x y)
      → (is : List ℕ) (x : A) (y : B) → is_pair_of_cells g h is (x, y) → can x y
  defined-below can each [] x y p = absurd (subst (λ ns. InBox ns []) long (cell-inside g [] x p.0))
  defined-below can each (i ∷ js) x y p = each i js x y p.0 (below i js x y p)

  -- what an assigning operator requires, of an operation that is defined on each cell and the row's cell below it
  pub can-assign-row : (can : A → B → Type 0) → ((i : ℕ) (js : List ℕ) (x : A) (y : B) → cell g (i ∷ js) ≡ Some x → cell h js ≡ Some y → can x y) → CanAssign can g h
  can-assign-row can each = record { shapes = subst (BroadcastsTo h.lengths) (sym long) (broadcasts-row n h.lengths); defined = defined-below can each }

  given-below : (gives : A → B → A → Type 0) (f : List ℕ → A)
      → ((i : ℕ) (js : List ℕ) (x : A) (y : B) (z : A) → cell g (i ∷ js) ≡ Some x → cell h js ≡ Some y → gives x y z → z ≡ f (i ∷ js))
      → (is : List ℕ) (x : A) (y : B) (z : A) → is_pair_of_cells g h is (x, y) → gives x y z → z ≡ f is
  given-below gives f each [] x y z p given = absurd (subst (λ ns. InBox ns []) long (cell-inside g [] x p.0))
  given-below gives f each (i ∷ js) x y z p given = each i js x y z p.0 (below i js x y p) given

  -- the array that it leaves has at each index list what a function answers that the operation computes
  pub assign_row-follows : (gives : A → B → A → Type 0) (new : Grid A) (f : List ℕ → A)
      → ((i : ℕ) (js : List ℕ) (x : A) (y : B) (z : A) → cell g (i ∷ js) ≡ Some x → cell h js ≡ Some y → gives x y z → z ≡ f (i ∷ js))
      → Assigns gives g h new → new ≡ array_by g.lengths f
  assign_row-follows gives new f each c =
      array_by-follows new g.lengths f c.whole c.lengths
      (λ is z there.
      let (x, y, at, given) = c.cells is z there in
      given-below gives f each is x y z at given)

pub first-and-rest : (ns : List ℕ) → 0 < length ns → ns ≡ slice_index ns 0 ∷ remove ns 0
first-and-rest [] some = absurd (omega arith)
first-and-rest (n ∷ ns) some = refl

-- The same of a row that is known, by what it has at each index list.
module _ {A B : Type 0} (g : Grid A) (h : Grid B) (m : List ℕ → B) (some : 0 < length g.lengths) (made : h ≡ array_by (remove g.lengths 0) m) where
  made-whole : IsGrid h
  made-whole = subst IsGrid (sym made) (array_by-whole (remove g.lengths 0) m)

  made-long : g.lengths ≡ slice_index g.lengths 0 ∷ h.lengths
  made-long = first-and-rest g.lengths some ∙ ap (λ v. slice_index g.lengths 0 ∷ v.lengths) (sym made)

  made-at : (js : List ℕ) (y : B) → cell h js ≡ Some y → y ≡ m js
  made-at js y below = array_by-at (remove g.lengths 0) m h js y made (cell-inside h js y below) below

  pub can-assign-row-by : (can : A → B → Type 0) → ((i : ℕ) (js : List ℕ) (x : A) → cell g (i ∷ js) ≡ Some x → can x (m js)) → CanAssign can g h
  can-assign-row-by can each =
      can-assign-row g h made-whole (slice_index g.lengths 0) made-long can (λ i js x y above below. subst (can x) (sym (made-at js y below)) (each i js x above))

  pub assign_row-by : (gives : A → B → A → Type 0) (new : Grid A) (f : List ℕ → A) → ((i : ℕ) (js : List ℕ) (x z : A) → cell g (i ∷ js) ≡ Some x → gives x (m js) z → z ≡ f (i ∷ js))
      → Assigns gives g h new → new ≡ array_by g.lengths f
  assign_row-by gives new f each =
      assign_row-follows g h made-whole (slice_index g.lengths 0) made-long gives new f
      (λ i js x y z above below given. each i js x z above (subst (λ w. gives x w z) (made-at js y below) given))
