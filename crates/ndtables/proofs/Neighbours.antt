-- Cells of a table that stand one after the other along an axis.
use Rattle.std.proofs.Common.{inl, inr, ◌≡◌, ℕ, zero, suc, ◌+◌, ◌-◌, ◌<◌, List, Some, length, get_or, set, ap, sym, ◌∙◌, subst, arith, refl, ℤ}
use Rattle.std.specs.Prelude.{◌↔◌}
use Rattle.std.proofs.lemmas.Bool.{cases_eq}
use Rattle.std.proofs.lemmas.List.{set-get_or, get_or-set_same}
use Rattle.ndarray.specs.AlongAxis.{IsDifference, IsDifferenceOf, one_further}
use Rattle.ndarray.specs.Grid.{Grid, IsGrid, cell}
use Rattle.ndarray.specs.Index.{InBox}
use Rattle.ndarray.specs.Views.{axis_part}
use Rattle.ndarray.proofs.callers.Cells.{cell-Some, cell-inside, same_grid, tabulate-cell}
use Rattle.ndarray.proofs.callers.Differences.{difference-length, neighbours-at, next-difference}
use Rattle.ndarray.proofs.callers.IndexLists.{InBox-get, InBox-length, InBox-set_both}
use Rattle.ndtables.specs.Reducing.{CanDifferAlong, CanSubtractAlong, HasOrder, subtraction_gives}

-- Of an axis of length n, the part behind the first index, and that before the last.
module _ {A : Type 0} (g later earlier : Grid A) (k n : ℕ) (l : later ≡ axis_part g k 1 n) (e : earlier ≡ axis_part g k 0 (n - 1)) (some : 0 < n) where
  pub same-lengths : later.lengths ≡ earlier.lengths
  same-lengths =
      let left : n - 1 ≡ n - 1 - 0 = omega arith in
      ap (λ v. v.lengths) l ∙ (ap (set g.lengths k) left ∙ sym (ap (λ v. v.lengths) e))

  module _ (whole_l : IsGrid later) (whole_e : IsGrid earlier) (lt : k < length g.lengths) (long : n ≡ get_or g.lengths k 0) where
    inside : (is : List ℕ) (y x : A) → cell g (one_further k is) ≡ Some y → cell g is ≡ Some x → InBox (set g.lengths k (n - 1)) is
    inside is y x p q =
        let here = cell-inside g is x q in
        let next = cell-inside g (one_further k is) y p in
        let as_long : length is ≡ length g.lengths = InBox-length g.lengths is here in
        let at : get_or (one_further k is) k 0 ≡ get_or is k 0 + 1 = get_or-set_same is k (get_or is k 0 + 1) 0 (omega arith) in
        let below = InBox-get g.lengths (one_further k is) k next lt in
        subst (InBox (set g.lengths k (n - 1))) (set-get_or is k 0) (InBox-set_both g.lengths is k (n - 1) (get_or is k 0) here (omega (arith, at, below)))

    later-at : (is : List ℕ) → InBox (set g.lengths k (n - 1)) is → cell later is ≡ cell g (one_further k is)
    later-at is b =
        let next : 1 + get_or is k 0 ≡ get_or is k 0 + 1 = omega arith in
        ap (λ v. cell v is) l
        ∙ (tabulate-cell (set g.lengths k (n - 1)) (λ js. cell g (set js k (1 + get_or js k 0))) is (subst IsGrid l whole_l) b
        ∙ ap (λ m. cell g (set is k m)) next)

    earlier-at : (is : List ℕ) → InBox (set g.lengths k (n - 1)) is → cell earlier is ≡ cell g is
    earlier-at is b =
        let left : n - 1 ≡ n - 1 - 0 = omega arith in
        let here : 0 + get_or is k 0 ≡ get_or is k 0 = omega arith in
        ap (λ v. cell v is) e
        ∙ (tabulate-cell (set g.lengths k (n - 1 - 0)) (λ js. cell g (set js k (0 + get_or js k 0))) is (subst IsGrid e whole_e) (subst (λ m. InBox (set g.lengths k m) is) left b)
        ∙ (ap (λ m. cell g (set is k m)) here ∙ ap (cell g) (set-get_or is k 0)))

    -- what holds of the cells of both parts at each index list holds of each cell and the one further
    pub each-neighbour : (P : A → A → Type 0) → ((is : List ℕ) (y x : A) → cell later is ≡ Some y → cell earlier is ≡ Some x → P y x) ↔ ((is : List ℕ) (y x : A) → cell g (one_further k is) ≡ Some y → cell g is ≡ Some x → P y x)
    each-neighbour P =
        let one_more : n ≡ 1 + (n - 1) = omega arith in
        let none_more : n - 1 ≡ 0 + (n - 1) = omega arith in (
          λ h is y x p q. let b = inside is y x p q in h is y x (later-at is b ∙ p) (earlier-at is b ∙ q),
          λ h is y x p q.
              let at = neighbours-at g g later earlier k (n - 1) refl (l ∙ ap (axis_part g k 1) one_more) (e ∙ ap (axis_part g k 0) none_more) whole_l whole_e is y x p q in
              h is y x at.0 at.1,
        )

-- before the last of n differences there is an axis to subtract along, of two or more
pub length-left : (g h : Grid ℤ) (n axis i : ℕ) → HasOrder g n axis → i < n → IsDifferenceOf subtraction_gives axis i g h → (axis < length h.lengths) × (1 < get_or h.lengths axis 0)
length-left g h n axis i shape lt d =
    let here : axis < length g.lengths = shape.0 in
    let below : n < get_or g.lengths axis 0 = elim shape.1 [
      | inl none ↦ absurd (omega (arith, none))
      | inr more ↦ more
    ] in
    let (long, left, none) = difference-length subtraction_gives axis g i h here (omega arith) d in
    (omega (arith, long, here), omega (arith, left, below))

-- where neighbours may not be subtracted on the way, not all differences may be taken
pub not-subtracted : (g h : Grid ℤ) (n axis i : ℕ) → i < n → IsDifferenceOf subtraction_gives axis i g h → (CanSubtractAlong h axis → ⊥) → CanDifferAlong g n axis → ⊥
not-subtracted g h n axis i lt d not all = not (λ is y x p q. all i h is y x lt d p q)

-- the differences of order 1 may be taken where neighbours may be subtracted
pub first-order : (g : Grid ℤ) (axis : ℕ) → CanSubtractAlong g axis → CanDifferAlong g 1 axis
first-order g axis can zero h is y x lt d p q = can is y x (subst (λ v. cell v (one_further axis is) ≡ Some y) d p) (subst (λ v. cell v is ≡ Some x) d q)
first-order g axis can (suc k) h is y x lt d p q = absurd (omega arith)

-- the difference of order 1 of that of order n
pub one-more : (g h r : Grid ℤ) (axis n : ℕ) → IsDifferenceOf subtraction_gives axis n g h → IsDifferenceOf subtraction_gives axis 1 h r → IsDifferenceOf subtraction_gives axis (n + 1) g r
one-more g h r axis n d e =
    let (v, same, last) = e in
    next-difference subtraction_gives axis g n h r d (subst (λ w. IsDifference subtraction_gives axis w r) same last)

-- an array has one difference
one-difference : (h r s : Grid ℤ) (axis : ℕ) → IsDifference subtraction_gives axis h r → IsDifference subtraction_gives axis h s → r ≡ s
one-difference h r s axis d e =
    let same : r.lengths ≡ s.lengths = d.lengths ∙ sym e.lengths in
    same_grid r s d.whole e.whole same (λ is b.
    let (z, at) = cell-Some r d.whole is b in
    let (w, there) = cell-Some s e.whole is (subst (λ ns. InBox ns is) same b) in
    let (y, x, next, here, gives) = d.cells is z at in
    let (v, u, next', here', gives') = e.cells is w there in
    let same_y : y ≡ v = cc in
    let same_x : x ≡ u = cc in
    cc)

-- and one of each order
one-difference_of : (n axis : ℕ) (g h r : Grid ℤ) → IsDifferenceOf subtraction_gives axis n g h → IsDifferenceOf subtraction_gives axis n g r → h ≡ r
one-difference_of zero axis g h r d e = d ∙ sym e
one-difference_of (suc n) axis g h r d e =
    let (v, before, last) = d in
    let (w, before', last') = e in
    let same : v ≡ w = one-difference_of n axis g v w before before' in
    one-difference w h r axis (subst (λ z. IsDifference subtraction_gives axis z h) same last) last'

-- where the differences up to an order may be taken, and neighbours subtracted in the one of that order, so may those up to the next
pub differ-more : (g h : Grid ℤ) (axis n : ℕ) → CanDifferAlong g n axis → IsDifferenceOf subtraction_gives axis n g h → CanSubtractAlong h axis → CanDifferAlong g (n + 1) axis
differ-more g h axis n before d can = λ k r is y x lt e p q.
    elim (cases_eq k n) [
      | inl last ↦
          (let same : r ≡ h = one-difference_of n axis g r h (subst (λ m. IsDifferenceOf subtraction_gives axis m g r) last e) d in
          can is y x (subst (λ v. cell v (one_further axis is) ≡ Some y) same p) (subst (λ v. cell v is ≡ Some x) same q))
      | inr ne ↦ before k r is y x (omega arith) e p q
    ]
