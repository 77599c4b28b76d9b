-- Lanes: what holds of all selections of an array's cells holds of those of each lane; running products that may always be formed.
use Rattle.std.proofs.Common.{◌≡◌, ◌+◌, ◌-◌, ◌<◌, ◌≤◌, ℕ, zero, suc, Bool, false, if◌then◌else◌, List, [], ◌∷◌, Some, length, get_or, set, refl, ap, sym, ◌∙◌, subst, arith, inl, inr, remove, insert}
use Rattle.std.specs.Prelude.{slice_get}
use Rattle.std.proofs.Math.Nat.{suc-mul}
use Rattle.std.proofs.lemmas.Bool.{cases_eq}
use Rattle.std.proofs.lemmas.List.Edits.{length-remove}
use Rattle.ndarray.specs.Algebra.{CommutativeMonoid}
use Rattle.ndarray.specs.AlongAxis.{CanCumulate, CanMultiplyOn, IsSummableArray}
use Rattle.ndarray.specs.Elementwise.{CanMap, Maps}
use Rattle.ndarray.specs.Grid.{Grid, IsGrid, array_by, cell}
use Rattle.ndarray.specs.Index.{InBox}
use Rattle.ndarray.specs.Subviews.{lane, lanes_of}
use Rattle.ndarray.specs.Sums.{IsSummableBy, select, total_by}
use Rattle.ndarray.specs.base.Ranks.{block_in, rank}
use Rattle.ndarray.specs.declared.base.shape.Order.TheVariants.{RowMajor}
use Rattle.ndarray.proofs.boxes.Boxes.{InBox-length, InBox-set}
use Rattle.ndarray.proofs.callers.Collecting.{array_by-at, lanes_of-some}
use Rattle.ndarray.proofs.callers.Elementwise.{array_by-follows}
use Rattle.ndarray.proofs.cells.Cells.{cell-inside, cell-within}
use Rattle.ndarray.proofs.cells.LaneCells.{lane-cell, lane-length, no-lane}
use Rattle.ndarray.proofs.cells.RunningProducts.{block-pos, own-blocks, rank-at}
use Rattle.ndarray.proofs.views.Items.{InBox-insert}
use Rattle.ndarray.proofs.lists.Elements.{remove-inserted}
-- the selection of nothing, and one that takes the first element or leaves it out
pub use Rattle.ndarray.proofs.sums.Selections.{at_front, select-none}

later : {A : Type 0} (y : A) (ys : List A) (n : ℕ) → 1 ≤ n → slice_get (y ∷ ys) n ≡ slice_get ys (n - 1)
later y ys zero h = absurd (omega arith)
later y ys (suc n) h = ap (slice_get ys) (omega arith)

-- numbers that increase along n places are at least the first
rising-low : (p : ℕ → ℕ) (n : ℕ) → ((j : ℕ) → suc j < n → p j < p (suc j)) → (j : ℕ) → j < n → p 0 ≤ p j
rising-low p n up zero lt = omega arith
rising-low p n up (suc j) lt = let h = rising-low p n up j (omega arith) in let u = up j lt in omega (arith, h, u)

-- a selection of a list whose elements stand in another, at places that increase, is a selection of that one
select-through : {A : Type 0} (ys xs : List A) (p : ℕ → ℕ) → ((j : ℕ) → suc j < length xs → p j < p (suc j)) → ((j : ℕ) → j < length xs → slice_get ys (p j) ≡ slice_get xs j)
    → (keep : ℕ → Bool) → (mask : ℕ → Bool) × (select mask ys ≡ select keep xs)
select-through [] [] p up at keep = (keep, refl)
select-through [] (x ∷ xs) p up at keep = let e = at 0 (omega arith) in absurd (cc)
select-through (y ∷ ys) [] p up at keep = let w = select-through ys [] p (λ j lt. absurd (omega arith)) (λ j lt. absurd (omega arith)) keep in (at_front false w.0, w.1)
select-through (y ∷ ys) (x ∷ xs) p up at keep = elim (cases_eq (p 0) 0) [
  | inl e ↦
      (let same : y ≡ x = (let s = ap (slice_get (y ∷ ys)) (sym e) ∙ at 0 (omega arith) in cc) in
      let some : (j : ℕ) → j < length xs → 1 ≤ p (suc j) = λ j lt. (let u = up j (omega arith) in omega (arith, u)) in
      let w = select-through ys xs (λ j. p (suc j) - 1)
      (λ j lt. let u = up (suc j) (omega arith) in let s = some j (omega arith) in omega (arith, u, s))
      (λ j lt. sym (later y ys (p (suc j)) (some j lt)) ∙ at (suc j) (omega arith))
      (λ i. keep (suc i)) in
      (at_front (keep 0) w.0, ap (λ l. if keep 0 then y ∷ l else l) w.1 ∙ ap (λ z. if keep 0 then z ∷ select (λ i. keep (suc i)) xs else select (λ i. keep (suc i)) xs) same))
  | inr ne ↦
      (let some : (j : ℕ) → j < length (x ∷ xs) → 1 ≤ p j = λ j lt. (let l = rising-low p (length (x ∷ xs)) up j lt in omega (arith, l)) in
      let w = select-through ys (x ∷ xs) (λ j. p j - 1)
      (λ j lt. let u = up j lt in let s = some j (omega arith) in omega (arith, u, s))
      (λ j lt. sym (later y ys (p j) (some j lt)) ∙ at j lt)
      keep in
      (at_front false w.0, w.1))
]

module _ {A : Type 0} (g : Grid A) (whole : IsGrid g) (k : ℕ) (lt : k < length g.lengths) where
  -- each selection of a lane is one of the array
  lane-selection : (is : List ℕ) → InBox g.lengths is → (keep : ℕ → Bool) → (mask : ℕ → Bool) × (select mask g.cells ≡ select keep (lane g k (remove is k)).cells)
  lane-selection is b keep =
      let blocks = own-blocks g k whole lt in
      let long = lane-length g whole k lt is b in
      let pos = block-pos g k _ blocks is b in
      select-through g.cells (lane g k (remove is k)).cells (λ j. rank g.lengths (set is k j))
      (λ j h.
      let here = rank-at g k _ blocks is j b in
      let there = rank-at g k _ blocks is (suc j) b in
      let m = suc-mul j (block_in RowMajor g.lengths (length g.lengths - 1 - k)) in
      omega (arith, here, there, m, pos))
      (λ j h.
      let below : j < get_or g.lengths k 0 = omega (arith, long) in
      sym (cell-within g whole (set is k j) (InBox-set g.lengths is k j b below)) ∙ sym (lane-cell g whole k lt is b j below))
      keep

  -- sums of selections in range, or products: of the whole array, and so of each lane
  pub lanes-summable : {C : Type 0} (M : CommutativeMonoid C) (in_range : C → Type 0) (value : A → C) → IsSummableBy M in_range value g.cells → CanMap (IsSummableArray M in_range value) (lanes_of g k)
  lanes-summable M in_range value h js l e =
      let among : lanes_of g k ≡ array_by (remove g.lengths k) (lane g k) = lanes_of-some g.lengths g k (omega arith) in
      let b : InBox (remove g.lengths k) js = subst (λ w. InBox w.lengths js) among (cell-inside (lanes_of g k) js l e) in
      let is_lane : l ≡ lane g k js = array_by-at (remove g.lengths k) (lane g k) (lanes_of g k) js l among (cell-inside (lanes_of g k) js l e) e in
      elim (cases_eq (get_or g.lengths k 0) 0) [
        | inl none ↦ (λ keep. subst in_range (ap (total_by M value) (select-none g.cells ∙ (sym (ap (select keep) (ap (λ w. w.cells) is_lane ∙ no-lane g k js none))))) (h (λ _. false)))
        | inr some ↦
            (let is : List ℕ = insert js k 0 in
            let c : InBox g.lengths is = InBox-insert g.lengths js k 0 lt (omega arith) b in
            let back : remove is k ≡ js = remove-inserted js k 0 (let n = InBox-length (remove g.lengths k) js b in let r : length (remove g.lengths k) + 1 ≡ length g.lengths = length-remove g.lengths k lt in omega (arith, n, r, lt)) in
            λ keep.
            let w = lane-selection is c keep in
            subst in_range (ap (total_by M value) (w.1 ∙ ap (select keep) (ap (λ js. (lane g k js).cells) back ∙ sym (ap (λ w. w.cells) is_lane)))) (h w.0))
      ]

-- what was made of all lanes along an axis: at each index list of the other axes it is what the lane there gives
pub lane-maps : {A B : Type 0} (g : Grid A) (k : ℕ) → 0 < length g.lengths → (gives : Grid A → B → Type 0) (r : Grid B) → Maps gives (lanes_of g k) r → (js : List ℕ) (z : B) → cell r js ≡ Some z → gives (lane g k js) z
lane-maps g k some gives r m js z e =
    let (l, at, given) = m.cells js z e in
    let among = lanes_of-some g.lengths g k some in
    subst (λ x. gives x z) (array_by-at (remove g.lengths k) (lane g k) (lanes_of g k) js l among (cell-inside (lanes_of g k) js l at) at) given

-- where that is a function of the lane, it is the array of the function at the lanes
pub lanes-follow : {A B : Type 0} (g : Grid A) (k : ℕ) → 0 < length g.lengths → (gives : Grid A → B → Type 0) (h : Grid A → B) → ((l : Grid A) (z : B) → gives l z → z ≡ h l)
    → (r : Grid B) → Maps gives (lanes_of g k) r → r ≡ array_by (remove g.lengths k) (λ js. h (lane g k js))
lanes-follow g k some gives h each r m =
    array_by-follows r (remove g.lengths k) (λ js. h (lane g k js)) m.whole (m.lengths ∙ ap (λ w. w.lengths) (lanes_of-some g.lengths g k some))
    (λ js z e. each (lane g k js) z (lane-maps g k some gives r m js z e))

-- where multiplication is defined on any two elements, running products may be formed of any list
multiply-always : {A : Type 0} (can : A → A → Type 0) (gives : A → A → A → Type 0) → ((x p : A) → can x p) → (p : A) (xs : List A) → CanMultiplyOn can gives p xs
multiply-always can gives all p [] = tt
multiply-always can gives all p (x ∷ xs) = (all x p, λ r g. multiply-always can gives all r xs)

pub cumulate-always : {A : Type 0} (can : A → A → Type 0) (gives : A → A → A → Type 0) → ((x p : A) → can x p) → (xs : List A) → CanCumulate can gives xs
cumulate-always can gives all [] = tt
cumulate-always can gives all (x ∷ xs) = multiply-always can gives all x xs
