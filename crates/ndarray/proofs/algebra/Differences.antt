-- Differences one after another.
use Rattle.std.proofs.Common.{◌≡◌, ℕ, zero, suc, ◌+◌, ◌<◌, ◌≤◌, ◌⊎◌, inl, inr, get_or, refl, sym, subst, arith, add-zero, add-suc}
use Rattle.ndarray.specs.AlongAxis.{IsDifferenceOf}
use Rattle.ndarray.specs.Grid.{Grid}
use Rattle.ndarray.proofs.callers.Differences.{difference-length}
use Rattle.ndarray.specs.Laws.{DifferencesAdd, DifferencesCanBeTaken}

module _ {A : Type 0} (gives : A → A → A → Type 0) where
  parted : (axis m n : ℕ) (g r : Grid A) → IsDifferenceOf gives axis (m + n) g r → (h : Grid A) × IsDifferenceOf gives axis m g h × IsDifferenceOf gives axis n h r
  parted axis m zero g r d = (r, rw add-zero at d, refl)
  parted axis m (suc n) g r d =
      let (p, before, last) : IsDifferenceOf gives axis (suc (m + n)) g r = rw add-suc at d in
      let (h, first, rest) = parted axis m n g p before in
      (h, first, (p, rest, last))

  joined : (axis m n : ℕ) (g h r : Grid A) → IsDifferenceOf gives axis m g h → IsDifferenceOf gives axis n h r → IsDifferenceOf gives axis (m + n) g r
  joined axis m zero g h r first rest = rw add-zero (subst (IsDifferenceOf gives axis m g) (sym rest) first)
  joined axis m (suc n) g h r first (p, rest, last) = rw add-suc (p, joined axis m n g h p first rest, last)

  pub differences_add : DifferencesAdd gives
  differences_add axis m n g r = (parted axis m n g r, (λ (h, first, rest). joined axis m n g h r first rest))

  pub differences_can : (can : A → A → Type 0) → DifferencesCanBeTaken can gives
  differences_can can axis m n g may = (
    record {
      axis_is = may.axis_is;
      order = order-first m n (get_or g.lengths axis 0) may.order;
      defined = λ k h is y x lt d p q. may.defined k h is y x (omega arith) d p q;
    },
    (λ h first.
        let (long, left, none) = difference-length gives axis g m h may.axis_is (order-most m n (get_or g.lengths axis 0) may.order) first in
        record {
          axis_is = omega (arith, long, may.axis_is);
          order = order-second m n (get_or g.lengths axis 0) (get_or h.lengths axis 0) left may.order;
          defined = λ k w is y x lt d p q. may.defined (m + k) w is y x (omega arith) (joined axis m k g h w first d) p q;
        }),
  )
    where
      order-first : (m n len : ℕ) → (m + n ≡ 0) ⊎ (m + n < len) → (m ≡ 0) ⊎ (m < len)
      order-first m n len (inl e) = inl (omega (arith, e))
      order-first m n len (inr lt) = inr (omega (arith, lt))

      order-most : (m n len : ℕ) → (m + n ≡ 0) ⊎ (m + n < len) → m ≤ len
      order-most m n len (inl e) = omega (arith, e)
      order-most m n len (inr lt) = omega (arith, lt)

      order-second : (m n len left : ℕ) → left + m ≡ len → (m + n ≡ 0) ⊎ (m + n < len) → (n ≡ 0) ⊎ (n < left)
      order-second m n len left e (inl none) = inl (omega (arith, none))
      order-second m n len left e (inr lt) = inr (omega (arith, lt, e))
