-- Totals over numbers one after another.
use Rattle.std.proofs.Common.{◌≡◌, ◌∙◌, ℕ, zero, suc, ◌+◌, ◌-◌, ◌<◌, ◌≤◌, map, ap, sym, refl, arith}
use Rattle.std.specs.List.{range_with_len}
use Rattle.std.proofs.lemmas.List.{map-append}
use Rattle.ndarray.specs.Algebra.{CommutativeMonoid}
use Rattle.ndarray.specs.Sums.{total}
use Rattle.ndarray.proofs.algebra.Totals.{op_unit, total-append, total-plus, total-units}
use Rattle.ndarray.proofs.lists.Elements.{map-same}
use Rattle.ndarray.proofs.lists.Ranges.{All-range, range-append}

-- over numbers that begin later
pub total-later : {C : Type 0} (M : CommutativeMonoid C) (f h : ℕ → C) (n : ℕ) → ((i : ℕ) → f (n + i) ≡ h i) → (a m : ℕ) → total M (map f (range_with_len (n + a) m)) ≡ total M (map h (range_with_len a m))
total-later M f h n each a zero = refl
total-later M f h n each a (suc m) =
    let next : n + a + 1 ≡ n + (a + 1) = omega arith in
    ap (λ t. M.op t (total M (map f (range_with_len (n + a + 1) m)))) (each a)
    ∙ ap (M.op (h a)) (ap (λ b. total M (map f (range_with_len b m))) next ∙ total-later M f h n each (a + 1) m)

module _ {C : Type 0} (plus : CommutativeMonoid C) where
  -- the total over m numbers from one on
  abbrev pub over : (ℕ → C) → ℕ → ℕ → C
  over f from m = total plus (map f (range_with_len from m))

  over-split : (f : ℕ → C) (from n m : ℕ) → over f from (n + m) ≡ plus.op (over f from n) (over f (from + n) m)
  over-split f from n m =
      ap (λ l. total plus (map f l)) (range-append from n m)
      ∙ (ap (total plus) (map-append f (range_with_len from n) (range_with_len (from + n) m))
      ∙ total-append plus (map f (range_with_len from n)) (map f (range_with_len (from + n) m)))

  pub over-more : (f : ℕ → C) (n m : ℕ) → over f 0 (n + m) ≡ plus.op (over f 0 n) (over f n m)
  over-more f n m = let begin : 0 + n ≡ n = omega arith in over-split f 0 n m ∙ ap (λ b. plus.op (over f 0 n) (over f b m)) begin

  pub over-last : (f : ℕ → C) (n : ℕ) → over f 0 (suc n) ≡ plus.op (over f 0 n) (f n)
  over-last f n = let one : suc n ≡ n + 1 = omega arith in ap (over f 0) one ∙ (over-more f n 1 ∙ ap (plus.op (over f 0 n)) (op_unit plus (f n)))

  pub over-same : (f h : ℕ → C) (m : ℕ) → ((k : ℕ) → k < m → f k ≡ h k) → over f 0 m ≡ over h 0 m
  over-same f h m each = ap (total plus) (map-same f h (λ k. k < m) (range_with_len 0 m) each (All-range (λ k. k < m) m (λ k lt. lt)))

  pub over-later : (f : ℕ → C) (from m : ℕ) → over f from m ≡ over (λ k. f (from + k)) 0 m
  over-later f from m = let begin : from ≡ from + 0 = omega arith in ap (λ b. over f b m) begin ∙ total-later plus f (λ k. f (from + k)) from (λ k. refl) 0 m

  -- neutral values add nothing
  pub over-neutral : (f : ℕ → C) (m : ℕ) → ((k : ℕ) → k < m → f k ≡ plus.unit) → over f 0 m ≡ plus.unit
  over-neutral f m each = over-same f (λ k. plus.unit) m each ∙ total-units plus (range_with_len 0 m)

  -- nor do those behind a number
  pub over-front : (f : ℕ → C) (n m : ℕ) → n ≤ m → ((k : ℕ) → n ≤ k → f k ≡ plus.unit) → over f 0 m ≡ over f 0 n
  over-front f n m most each =
      let all : m ≡ n + (m - n) = omega (arith, most) in
      ap (over f 0) all
      ∙ (over-more f n (m - n)
      ∙ (ap (plus.op (over f 0 n)) (over-later f n (m - n) ∙ over-neutral (λ k. f (n + k)) (m - n) (λ k lt. each (n + k) (omega arith)))
      ∙ op_unit plus (over f 0 n)))

  -- pairs of numbers by their sums: those below n by sums, and each first number with the second ones that are left
  pub triangle : (f : ℕ → ℕ → C) (n : ℕ) → over (λ s. over (λ i. f i (s - i)) 0 (suc s)) 0 n ≡ over (λ i. over (f i) 0 (n - i)) 0 n
  triangle f zero = refl
  triangle f (suc n) =
      let last : suc n - n ≡ 1 = omega arith in
      let none : n - n ≡ 0 = omega arith in
      over-last (λ s. over (λ i. f i (s - i)) 0 (suc s)) n
      ∙ (ap (λ t. plus.op t (over (λ i. f i (n - i)) 0 (suc n))) (triangle f n)
      ∙ (ap (plus.op (over (λ i. over (f i) 0 (n - i)) 0 n)) (over-last (λ i. f i (n - i)) n)
      ∙ (sym (plus.associates (over (λ i. over (f i) 0 (n - i)) 0 n) (over (λ i. f i (n - i)) 0 n) (f n (n - n)))
      ∙ (ap (λ t. plus.op t (f n (n - n)))
      (sym (total-plus plus (λ i. over (f i) 0 (n - i)) (λ i. f i (n - i)) (range_with_len 0 n))
      ∙ over-same (λ i. plus.op (over (f i) 0 (n - i)) (f i (n - i))) (λ i. over (f i) 0 (suc n - i)) n
      (λ i lt. let one : suc n - i ≡ suc (n - i) = omega (arith, lt) in sym (over-last (f i) (n - i)) ∙ sym (ap (over (f i) 0) one)))
      ∙ (ap (plus.op (over (λ i. over (f i) 0 (suc n - i)) 0 n))
      (ap (f n) none ∙ (sym (op_unit plus (f n 0)) ∙ sym (ap (over (f n) 0) last)))
      ∙ sym (over-last (λ i. over (f i) 0 (suc n - i)) n))))))

  -- of values that are neutral from k and from l on, the sums over both are those over the sums of the two numbers
  pub by-sums : (f : ℕ → ℕ → C) (k l : ℕ) → 1 ≤ k → 1 ≤ l → ((i j : ℕ) → k ≤ i → f i j ≡ plus.unit) → ((i j : ℕ) → l ≤ j → f i j ≡ plus.unit)
      → over (λ i. over (f i) 0 l) 0 k ≡ over (λ s. over (λ i. f i (s - i)) 0 (suc s)) 0 (k + l - 1)
  by-sums f k l some_k some_l high wide =
      sym (triangle f (k + l - 1)
      ∙ (over-front (λ i. over (f i) 0 (k + l - 1 - i)) k (k + l - 1) (omega (arith, some_l)) (λ i ge. over-neutral (f i) (k + l - 1 - i) (λ j lt. high i j ge))
      ∙ over-same (λ i. over (f i) 0 (k + l - 1 - i)) (λ i. over (f i) 0 l) k (λ i lt. over-front (f i) l (k + l - 1 - i) (omega (arith, lt)) (λ j ge. wide i j ge))))
