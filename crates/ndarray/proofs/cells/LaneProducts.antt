-- The running products of a list of elements' numbers, tested one after another, and the lanes that are tested so.
use Rattle.std.proofs.Common.{◌≡◌, ◌∙◌, ◌↔◌, ◌+◌, ◌*◌, ◌<◌, ◌++◌, ◌∷◌, [], ℕ, ℤ, List, ap, append-nil, append_assoc, arith, filter_map, get_or, inl, inr, insert, length, refl, remove, set, subst, sym}
use Rattle.std.specs.Prelude.{◌*ℤ◌, All, Contains}
use Rattle.std.proofs.lemmas.Bool.{cases_eq}
use Rattle.std.proofs.lemmas.List.Elements.{All-contains, All-push}
use Rattle.ndarray.specs.AlongAxis.{CanCumulate, CanMultiplyOn}
use Rattle.ndarray.specs.AlongAxisRanges.{HasRunningProductsInRange}
use Rattle.ndarray.specs.Elementwise.{CanMap}
use Rattle.ndarray.specs.Grid.{Grid, IsGrid, array_by, cell}
use Rattle.ndarray.specs.Index.{InBox, row_order, size}
use Rattle.ndarray.specs.Subviews.{lane, lanes_of}
use Rattle.ndarray.specs.base.Ranks.{row_from}
use Rattle.ndarray.proofs.boxes.Boxes.{InBox-set}
use Rattle.ndarray.proofs.boxes.Orders.{row_order-is}
use Rattle.ndarray.proofs.boxes.Sizes.{size-one_index}
use Rattle.ndarray.proofs.callers.Collecting.{array_by-at, lanes_of-some}
use Rattle.ndarray.proofs.cells.Cells.{cell-Some, cell-inside, length-along}
use Rattle.ndarray.proofs.cells.LaneCells.{lane-among, lane-cell, lane-length, no-lane}
use Rattle.ndarray.proofs.cells.LanePlaces.{row-get}
use Rattle.ndarray.proofs.cells.LaneTests.{none-along}
use Rattle.ndarray.proofs.cells.Scans.{first-here, first-inside, first-of_lane, first-zero, lane-of_first}
use Rattle.ndarray.proofs.lists.Elements.{same_from_slice_get, slice_get-filter_map_all}
use Rattle.ndarray.proofs.strides.Rows.{length-row_from}

-- ---- one list

module _ {A : Type 0} (number : A → ℤ) (fits : ℤ → Type 0) where
  -- each element of the list may be multiplied on from the product p
  abbrev pub MultipliesOn : A → List A → Type 0
  MultipliesOn = CanMultiplyOn (λ x p. fits (number x *ℤ number p)) (λ x p r. number r ≡ number x *ℤ number p)

  -- from products of the same number the same may be multiplied
  same-on : (p q : A) (xs : List A) → number p ≡ number q → MultipliesOn p xs → MultipliesOn q xs
  same-on p q [] is h = tt
  same-on p q (x ∷ xs) is h = (subst (λ z. fits (number x *ℤ z)) is h.0, λ r gives. h.1 r (gives ∙ ap (λ z. number x *ℤ z) (sym is)))

  -- an operation that is defined where its numbers fit, and gives an element of the number, may be taken so
  module _ (can : A → A → Type 0) (gives : A → A → A → Type 0) (defined : (x p : A) → fits (number x *ℤ number p) → can x p) (law : (x p r : A) → gives x p r → fits (number x *ℤ number p) → number r ≡ number x *ℤ number p) where
    on-defined : (p : A) (xs : List A) → MultipliesOn p xs → CanMultiplyOn can gives p xs
    on-defined p [] h = tt
    on-defined p (x ∷ xs) h = (defined x p h.0, λ r given. on-defined r xs (h.1 r (law x p r given h.0)))

    pub cumulates-defined : (xs : List A) → HasRunningProductsInRange number fits xs → CanCumulate can gives xs
    cumulates-defined [] h = tt
    cumulates-defined (x ∷ xs) h = on-defined x xs h

  -- the running products of a list, where those from p on of the rest of it are to come
  pub record SameToCome (whole : List A) (p : A) (rest : List A) : Type 0 where
    pub same : HasRunningProductsInRange number fits whole ↔ MultipliesOn p rest

  pub come-start : (whole : List A) (p : A) (rest : List A) → whole ≡ p ∷ rest → SameToCome whole p rest
  come-start whole p rest e = subst (λ w. SameToCome w p rest) (sym e) (record { same = (λ h. h, λ h. h) })

  module _ (whole : List A) (p : A) (now : List A) (x : A) (rest : List A) (e : now ≡ x ∷ rest) (come : SameToCome whole p now) where
    before : HasRunningProductsInRange number fits whole ↔ MultipliesOn p (x ∷ rest)
    before = subst (λ zs. HasRunningProductsInRange number fits whole ↔ MultipliesOn p zs) e come.same

    -- the next product fits
    pub come-next : (next : A) → fits (number x *ℤ number p) → number next ≡ number x *ℤ number p → SameToCome whole next rest
    come-next next fit is = record {
      same = (
        λ h. (before.0 h).1 next is,
        λ h. before.1 (fit, λ r gives. same-on next r rest (is ∙ sym gives) h),
      );
    }

    -- it does not
    pub come-refused : (fits (number x *ℤ number p) → ⊥) → HasRunningProductsInRange number fits whole → ⊥
    come-refused not h = not (before.0 h).0

  pub come-end : (whole : List A) (p : A) (now : List A) → now ≡ [] → SameToCome whole p now → HasRunningProductsInRange number fits whole
  come-end whole p now e come = come.same.1 (subst (MultipliesOn p) (sym e) tt)

  -- a list without elements has none
  pub come-none : (whole : List A) → whole ≡ [] → HasRunningProductsInRange number fits whole
  come-none whole e = subst (HasRunningProductsInRange number fits) (sym e) tt

-- ---- the lanes of an array

module _ {A : Type 0} (g : Grid A) (whole : IsGrid g) (k : ℕ) (lt : k < length g.lengths) (s : List ℕ) (inside : InBox g.lengths s) (first : get_or s k 0 ≡ 0) (n : ℕ) (len : n ≡ get_or g.lengths k 0) where
  row-set : (j : ℕ) → j < n → get_or (row_from s k n) j [] ≡ set s k j
  row-set j below = row-get n s k j [] below ∙ (ap (λ m. set s k (m + j)) first ∙ ap (set s k) (let e : 0 + j ≡ j = omega arith in e))

  -- the index lists from the first of a lane on are in the box
  pub lane-inside : All (InBox g.lengths) (row_from s k n)
  lane-inside = λ j d at.
      let long = length-row_from s k n in
      let below : j < n = omega (arith, long, at) in
      subst (InBox g.lengths) (sym (row-get n s k j d below ∙ sym (row-get n s k j [] below) ∙ row-set j below)) (InBox-set g.lengths s k j inside (omega (arith, below, len)))

  -- and the cells there are those of the lane
  pub lane-from : filter_map (cell g) (row_from s k n) ≡ (lane g k (remove s k)).cells
  lane-from =
      let long = length-along g whole (row_from s k n) lane-inside in
      let many = length-row_from s k n in
      let own = lane-length g whole k lt s inside in
      same_from_slice_get (filter_map (cell g) (row_from s k n)) (lane g k (remove s k)).cells (omega (arith, long, many, own, len))
      (λ j at.
      let below : j < n = omega (arith, long, many, at) in
      slice_get-filter_map_all (cell g) (row_from s k n) j [] (λ i d h. cell-Some g whole (get_or (row_from s k n) i d) (lane-inside i d h)) (omega (arith, many, below))
      ∙ (ap (cell g) (row-set j below) ∙ sym (lane-cell g whole k lt s inside j (omega (arith, below, len)))))

-- an axis is not empty where the array is not
pub axis-some : (ns : List ℕ) (k : ℕ) → k < length ns → (size ns ≡ 0 → ⊥) → 0 < get_or ns k 0
axis-some ns k lt some = elim (cases_eq (get_or ns k 0) 0) [
  | inl none ↦ absurd (some (size-one_index ns k lt ∙ (ap (λ n. n * size (set ns k 1)) none ∙ omega arith)))
  | inr more ↦ omega (arith, more)
]

-- the lanes of which the first cells are before those to come have passed a test
pub record PassedLanes {A : Type 0} (P : List A → Type 0) (g : Grid A) (k : ℕ) (to_come : List (List ℕ)) : Type 0 where
  pub done : List (List ℕ)
  pub parts : done ++ to_come ≡ row_order (set g.lengths k 1)
  pub passed : All (λ s. P (lane g k (remove s k)).cells) done

-- what a test of each lane along an axis says
module _ {A : Type 0} (P : List A → Type 0) (g : Grid A) (k : ℕ) (lt : k < length g.lengths) where
  pub passed-start : (walked : List (List ℕ)) → walked ≡ row_order (set g.lengths k 1) → PassedLanes P g k walked
  passed-start walked e = record { done = []; parts = e; passed = λ j d at. absurd (omega (arith, at)) }

  -- it holds of all lanes where it does of each by its index list
  pub each-lane : ((js : List ℕ) → InBox (remove g.lengths k) js → P (lane g k js).cells) → CanMap (λ l. P l.cells) (lanes_of g k)
  each-lane each js l at =
      let among : lanes_of g k ≡ array_by (remove g.lengths k) (lane g k) = lanes_of-some g.lengths g k (omega (arith, lt)) in
      let own : InBox (lanes_of g k).lengths js = cell-inside (lanes_of g k) js l at in
      let inside : InBox (remove g.lengths k) js = subst (λ w. InBox w.lengths js) among own in
      let is : l ≡ lane g k js = array_by-at (remove g.lengths k) (lane g k) (lanes_of g k) js l among own at in
      subst (λ w. P w.cells) (sym is) (each js inside)

  -- without cells there is only the empty list
  pub no-lanes : size g.lengths ≡ 0 → P [] → CanMap (λ l. P l.cells) (lanes_of g k)
  no-lanes none empty = each-lane (λ js inside. subst P (sym (no-lane g k js (none-along g.lengths js k lt none inside))) empty)

  module _ (some : 0 < get_or g.lengths k 0) where
    module _ (to_come rest : List (List ℕ)) (s : List ℕ) (next : to_come ≡ s ∷ rest) (l : PassedLanes P g k to_come) where
      parts-now : l.done ++ (s ∷ rest) ≡ row_order (set g.lengths k 1)
      parts-now = ap (λ ls. l.done ++ ls) (sym next) ∙ l.parts

      here : InBox (set g.lengths k 1) s
      here = first-here g.lengths k 1 lt (omega arith) (omega (arith, some)) l.done s rest parts-now

      pub next-inside : InBox g.lengths s
      next-inside = first-inside g.lengths k 1 lt (omega arith) (omega (arith, some)) s here

      pub next-first : get_or s k 0 ≡ 0
      next-first = first-zero g.lengths k 1 lt (omega arith) (omega (arith, some)) s here

      pub passed-next : P (lane g k (remove s k)).cells → PassedLanes P g k rest
      passed-next holds = record {
        done = l.done ++ (s ∷ []);
        parts = append_assoc l.done (s ∷ []) rest ∙ parts-now;
        passed = All-push (λ t. P (lane g k (remove t k)).cells) l.done s l.passed holds;
      }

      -- one that does not pass is among all lanes
      pub lane-refused : IsGrid g → (P (lane g k (remove s k)).cells → ⊥) → CanMap (λ w. P w.cells) (lanes_of g k) → ⊥
      lane-refused whole not all = not (all (remove s k) (lane g k (remove s k)) (lane-among g whole k lt s next-inside))

    pub passed-end : (to_come : List (List ℕ)) → to_come ≡ [] → PassedLanes P g k to_come → CanMap (λ l. P l.cells) (lanes_of g k)
    passed-end to_come none l = each-lane (λ js inside.
        let all : l.done ≡ row_order (set g.lengths k 1) = sym (append-nil l.done) ∙ (ap (λ ls. l.done ++ ls) (sym none) ∙ l.parts) in
        subst (λ ls. P (lane g k ls).cells) (lane-of_first g.lengths k lt js inside)
        (All-contains (λ t. P (lane g k (remove t k)).cells) l.done (insert js k 0) l.passed
        (subst (λ ls. Contains ls (insert js k 0)) (sym all) ((row_order-is (set g.lengths k 1)).whole (insert js k 0) (first-of_lane g.lengths k lt js inside 1 some refl)))))
