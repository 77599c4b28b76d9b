-- The cells of two parts of an axis, one place apart, and the array of their differences.
use Rattle.std.proofs.Common.{◌≡◌, ℕ, ◌+◌, ◌-◌, ◌<◌, ◌≤◌, ◌⊎◌, inl, inr, zero, suc, List, [], Some, length, get_or, set, ap, sym, ◌∙◌, subst, arith, add-one, refl}
use Rattle.std.proofs.lemmas.List.{set-get_or, get_or-set_same, length-set, set-set}
use Rattle.std.specs.Prelude.{⊤}
use Rattle.ndarray.specs.AlongAxis.{IsDifference, IsDifferenceOf, one_further}
use Rattle.ndarray.specs.Grid.{Grid, IsGrid, cell, grid}
use Rattle.ndarray.specs.Index.{InBox, size}
use Rattle.ndarray.specs.Runs.{Collects}
use Rattle.ndarray.specs.Views.{axis_part}
use Rattle.ndarray.specs.declared.base.shape.Order.{Order}
use Rattle.ndarray.proofs.boxes.Sizes.{size-set_none}
use Rattle.ndarray.proofs.boxes.Boxes.{InBox-some}
use Rattle.ndarray.proofs.cells.Cells.{cell-inside, tabulate-cell, same_grid}
use Rattle.ndarray.proofs.cells.CollectedCells.{Collects-at}

module _ {A : Type 0} (g view part : Grid A) (k from rest : ℕ) (same : view ≡ g) (is_part : part ≡ axis_part view k from (from + rest)) where
  pub part-lengths : part.lengths ≡ set g.lengths k rest
  part-lengths = ap (λ v. v.lengths) is_part ∙ (ap (set view.lengths k) (omega arith) ∙ ap (λ v. set v.lengths k rest) same)

  -- a cell of the part is one of the array
  pub part-cell : IsGrid part → (is : List ℕ) (x : A) → cell part is ≡ Some x → cell g (set is k (from + get_or is k 0)) ≡ Some x
  part-cell whole is x e =
      let b : InBox (axis_part view k from (from + rest)).lengths is = subst (λ v. InBox v.lengths is) is_part (cell-inside part is x e) in
      ap (λ v. cell v (set is k (from + get_or is k 0))) (sym same)
      ∙ (sym (tabulate-cell (set view.lengths k (from + rest - from)) (λ js. cell view (set js k (from + get_or js k 0))) is (subst IsGrid is_part whole) b) ∙ (ap (λ v. cell v is) (sym is_part) ∙ e))

-- the cells that two parts, one place apart, have at an index list
pub neighbours-at : {A : Type 0} (g view later earlier : Grid A) (k rest : ℕ) → view ≡ g → later ≡ axis_part view k 1 (1 + rest) → earlier ≡ axis_part view k 0 (0 + rest) → IsGrid later → IsGrid earlier
    → (is : List ℕ) (y x : A) → cell later is ≡ Some y → cell earlier is ≡ Some x → (cell g (one_further k is) ≡ Some y) × (cell g is ≡ Some x)
neighbours-at g view later earlier k rest same l e whole_l whole_e is y x p q =
    let next : get_or is k 0 + 1 ≡ 1 + get_or is k 0 = omega arith in
    let here : 0 + get_or is k 0 ≡ get_or is k 0 = omega arith in (
      ap (λ n. cell g (set is k n)) next ∙ part-cell g view later k 1 rest same l whole_l is y p,
      ap (cell g) (sym (set-get_or is k 0)) ∙ (ap (λ n. cell g (set is k n)) (sym here) ∙ part-cell g view earlier k 0 rest same e whole_e is x q),
    )

-- an order that may be taken is at most the length
pub order-at_most : (n len : ℕ) → (n ≡ 0) ⊎ (n < len) → n ≤ len
order-at_most n len h = elim h [ inl e ↦ omega (arith, e) | inr lt ↦ omega (arith, lt) ]

-- an array without cells has no index list
pub no-index : {A : Type 0} (g : Grid A) → size g.lengths ≡ 0 → (is : List ℕ) → InBox g.lengths is → ⊥
no-index g none is b = let some = InBox-some g.lengths is b in omega (arith, some, none)

module _ {A : Type 0} (gives : A → A → A → Type 0) (k : ℕ) (g : Grid A) where
  -- what calls on the cells of both parts made
  pub difference-of : {F X : Type 0} (call_gives : F → X → A → F → Type 0) (yields_at : List ℕ → X → Type 0) (later_of earlier_of : X → A)
      → ((i : List ℕ) (x : X) → yields_at i x → (cell g (one_further k i) ≡ Some (later_of x)) × (cell g i ≡ Some (earlier_of x)))
      → ((f : F) (x : X) (z : A) (h : F) → call_gives f x z h → gives (later_of x) (earlier_of x) z)
      → (o : Order) (f : F) (ns : List ℕ) → ns ≡ set g.lengths k (get_or g.lengths k 0 - 1) → (r : Grid A) → IsGrid r → Collects yields_at call_gives o ns f r → IsDifference gives k g r
  difference-of call_gives yields_at later_of earlier_of at each o f ns same r whole c = record {
    lengths = c.lengths ∙ same;
    whole = whole;
    cells = λ is z e.
        let i = Collects-at yields_at call_gives (λ _. ⊤) ns (λ i f x r h b y n s. tt) o f r tt c is (subst (λ ms. InBox ms is) c.lengths (cell-inside r is z e)) z e in
        (later_of i.item, earlier_of i.item, (at is i.item i.yielded).0, (at is i.item i.yielded).1, each i.before i.item z i.after i.given);
  }

  -- the difference of the next order
  pub next-difference : (n : ℕ) (h r : Grid A) → IsDifferenceOf gives k n g h → IsDifference gives k h r → IsDifferenceOf gives k (n + 1) g r
  next-difference n h r d e = rw add-one (h, d, e)

  -- how long the axis is, and that no cells come of none
  pub difference-length : (n : ℕ) (h : Grid A) → k < length g.lengths → n ≤ get_or g.lengths k 0 → IsDifferenceOf gives k n g h
      → (length h.lengths ≡ length g.lengths) × (get_or h.lengths k 0 + n ≡ get_or g.lengths k 0) × (size g.lengths ≡ 0 → size h.lengths ≡ 0)
  difference-length zero h lt le d = (ap (λ v. length v.lengths) d, ap (λ v. get_or v.lengths k 0 + 0) d ∙ omega arith, (λ none. ap (λ v. size v.lengths) d ∙ none))
  difference-length (suc n) h lt le d =
      let (p, before, last) = d in
      let (long, left, none) = difference-length n p lt (omega arith) before in
      let e : h.lengths ≡ set p.lengths k (get_or p.lengths k 0 - 1) = last.lengths in
      let v : get_or h.lengths k 0 ≡ get_or p.lengths k 0 - 1 = ap (λ ns. get_or ns k 0) e ∙ get_or-set_same p.lengths k (get_or p.lengths k 0 - 1) 0 (omega (arith, long)) in (
        ap length e ∙ (length-set p.lengths k (get_or p.lengths k 0 - 1) ∙ long),
        omega (arith, v, left),
        (λ z. ap size e ∙ size-set_none p.lengths k (get_or p.lengths k 0 - 1) (omega arith) (none z)),
      )

  -- of an array without cells, the one with the shorter axis
  pub difference-without_cells : (n : ℕ) (r : Grid A) → IsGrid g → size g.lengths ≡ 0 → k < length g.lengths → n ≤ get_or g.lengths k 0 → IsGrid r → r.lengths ≡ set g.lengths k (get_or g.lengths k 0 - n) → IsDifferenceOf gives k n g r
  difference-without_cells zero r whole none lt le whole_r same =
      let lengths : r.lengths ≡ g.lengths = same ∙ (ap (set g.lengths k) (omega arith) ∙ set-get_or g.lengths k 0) in
      same_grid r g whole_r whole lengths (λ is b. absurd (no-index g none is (subst (λ ns. InBox ns is) lengths b)))
  difference-without_cells (suc n) r whole none lt le whole_r same =
      let h : Grid A = grid (set g.lengths k (get_or g.lengths k 0 - n)) [] in
      let none_h : size h.lengths ≡ 0 = size-set_none g.lengths k (get_or g.lengths k 0 - n) (omega arith) none in
      let last : get_or h.lengths k 0 - 1 ≡ get_or g.lengths k 0 - suc n = ap (λ m. m - 1) (get_or-set_same g.lengths k (get_or g.lengths k 0 - n) 0 lt) ∙ omega arith in
      let shorter : r.lengths ≡ set h.lengths k (get_or h.lengths k 0 - 1) = same ∙ (sym (set-set g.lengths k (get_or g.lengths k 0 - n) (get_or g.lengths k 0 - suc n)) ∙ ap (set h.lengths k) (sym last)) in
      let none_r : size r.lengths ≡ 0 = ap size shorter ∙ size-set_none h.lengths k (get_or h.lengths k 0 - 1) (omega arith) none_h in (
        h,
        difference-without_cells n h whole none lt (omega arith) (sym none_h) refl,
        record {
          lengths = shorter;
          whole = whole_r;
          cells = λ is z e. absurd (no-index r none_r is (cell-inside r is z e));
        },
      )
