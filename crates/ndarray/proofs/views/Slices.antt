-- Slices of an axis: which indices they take.
use Rattle.std.proofs.Common.{◌≡◌, ◌≢◌, ℕ, ◌+◌, ◌-◌, ◌*◌, ◌/◌, ◌%◌, ◌<◌, ◌≤◌, ◌^◌, suc, zero, inl, inr, refl, sym, ◌∙◌, ap, subst, arith, min, w64}
use Rattle.std.specs.Prelude.{ℤ, pos, negsuc, ◌-ℤ◌, ◌≤ℤ◌, ◌<ℤ◌, unsigned_abs, FitsSigned}
use Rattle.std.specs.Int.{int_max, cast_unsigned}
use Rattle.std.proofs.Math.Nat.{le-div_iff_mul-le, le-mul_of_pos_right, add-mul-mod_self_right}
use Rattle.std.proofs.lemmas.Nat.{div-add-mod', div-mul-add}
use Rattle.std.proofs.lemmas.Bool.{cases_lt}
use Rattle.std.proofs.lemmas.Int.{ints, clamps}
use Rattle.ndarray.specs.Slices.{IsSliceOf, slice_start, slice_end, end_from_start, slice_length, step_index, slice_index_at}
use Rattle.ndarray.specs.declared.base.slice.Slice.{Slice}
use Rattle.ndarray.specs.base.Nested.{distance, reach}
use Rattle.ndarray.proofs.views.Cuts.{IsAxisCut}
use Rattle.ndarray.proofs.strides.Distances.{distance-signed}

pub ceil-is : (x y : ℕ) → 0 < y → x / y + min 1 (x % y) ≡ (x + y - 1) / y
ceil-is x y h =
    let q : ℕ = x / y in
    let r : ℕ = x % y in
    let d = div-add-mod' x y in
    elim (cases_lt 0 r) [
      | inl some ↦ (let e : x + y - 1 ≡ (q + 1) * y + (r - 1) = omega arith in
          let m : min 1 r ≡ 1 = omega arith in
          ap (λ n. q + n) m ∙ sym (ap (λ n. n / y) e ∙ div-mul-add (q + 1) y (r - 1) (omega arith)))
      | inr none ↦ (let e : x + y - 1 ≡ q * y + (y - 1) = omega arith in
          let m : min 1 r ≡ 0 = omega arith in
          ap (λ n. q + n) m ∙ (omega arith ∙ sym (ap (λ n. n / y) e ∙ div-mul-add q y (y - 1) (omega arith))))
    ]

-- an index below the quotient rounded up
ceil-below : (x y i : ℕ) → 0 < y → i < (x + y - 1) / y → i * y < x
ceil-below x y i h lt =
    let m : (i + 1) * y ≤ x + y - 1 = (le-div_iff_mul-le h).0 (omega arith) in
    omega arith

ceil-le : (x y : ℕ) → 0 < y → (x + y - 1) / y ≤ x
ceil-le x y h =
    elim (cases_lt x ((x + y - 1) / y)) [
      | inl more ↦ absurd (let b = ceil-below x y x h more in let m = le-mul_of_pos_right x h in omega arith)
      | inr not_more ↦ not_more
    ]

-- ---- the indices from a up to b by a step

pub size-pos : (step : ℤ) → step ≢ pos 0 → 0 < unsigned_abs step
size-pos (pos zero) other = absurd (other refl)
size-pos (pos (suc k)) other = omega arith
size-pos (negsuc k) other = omega arith

-- how far the i-th lies from the first
far_below : (a b i : ℕ) (step : ℤ) → step ≢ pos 0 → i < (b - a + unsigned_abs step - 1) / unsigned_abs step → i * unsigned_abs step < b - a
far_below a b i step other lt = ceil-below (b - a) (unsigned_abs step) i (size-pos step other) lt

pub step_index-below : (a b n i : ℕ) (step : ℤ) → a ≤ b → b ≤ n → i * unsigned_abs step < b - a → step_index a b step i < n
step_index-below a b n i (pos k) le high r = omega arith
step_index-below a b n i (negsuc k) le high r = omega arith

-- from where the indices are index_from_start modulo 2 ^ 64
abbrev pub start_index : ℕ → ℕ → ℤ → ℕ
start_index a b (pos k) = a
start_index a b (negsuc k) = (b + (2 ^ 64 - 1)) % 2 ^ 64

pub start_index-up : (a b : ℕ) (step : ℤ) → pos 0 <ℤ step → start_index a b step ≡ a
start_index-up a b (pos k) up = refl
start_index-up a b (negsuc k) up = absurd (omega (arith, ints))

pub start_index-down : (a b : ℕ) (step : ℤ) → step ≢ pos 0 → step ≤ℤ pos 0 → start_index a b step ≡ (b + (2 ^ 64 - 1)) % 2 ^ 64
start_index-down a b (pos zero) other down = absurd (other refl)
start_index-down a b (pos (suc k)) other down = absurd (omega (arith, ints))
start_index-down a b (negsuc k) other down = refl

step_index-mod : (a b i from : ℕ) (step : ℤ) → b < 2 ^ 63 → i * unsigned_abs step < b - a → FitsSigned w64 step → from ≡ start_index a b step → (from + i * cast_unsigned w64 step) % 2 ^ 64 ≡ step_index a b step i
step_index-mod a b i from (pos k) fits r word e = omega arith
step_index-mod a b i from (negsuc k) fits r word e =
    let m : ℕ = 2 ^ 64 in
    let c : ℕ = cast_unsigned w64 (negsuc k) in
    let size = word.sfits in
    let ec : c + suc k ≡ m = omega arith in
    let em : i * (c + suc k) ≡ i * m = ap (λ x. i * x) ec in
    let at : from ≡ b - 1 = omega arith in
    let sum : from + i * c ≡ b - 1 - i * suc k + i * m = omega arith in
    ap (λ x. x % m) sum ∙ (add-mul-mod_self_right (b - 1 - i * suc k) i m ∙ omega arith)

-- ---- those of a slice

-- where a slice within an axis starts and ends
pub record Ends (n : ℕ) (s : Slice) (a b : ℕ) : Type 0 where
  pub start : slice_start n s ≡ pos a
  pub end : slice_end n s ≡ pos b
  pub order : a ≤ b
  pub high : b ≤ n

ends : (x y : ℤ) (n : ℕ) → pos 0 ≤ℤ x → int_max x y ≤ℤ pos n → (x ≡ pos (unsigned_abs x)) × (int_max x y ≡ pos (unsigned_abs (int_max x y))) × (unsigned_abs x ≤ unsigned_abs (int_max x y)) × (unsigned_abs (int_max x y) ≤ n)
ends x y n low high = (omega (arith, ints, clamps), omega (arith, ints, clamps), omega (arith, ints, clamps), omega (arith, ints, clamps))

pub slice-ends : (n : ℕ) (s : Slice) → IsSliceOf n s → Ends n s (unsigned_abs (slice_start n s)) (unsigned_abs (slice_end n s))
slice-ends n s h =
    let e = ends (slice_start n s) (end_from_start n s.end) n h.low h.high in
    record { start = e.0; end = e.1; order = e.2; high = e.3 }

pub slice_length-is : (n a b : ℕ) (s : Slice) → Ends n s a b → slice_length n s ≡ (b - a + unsigned_abs s.step - 1) / unsigned_abs s.step
slice_length-is n a b s e =
    let order = e.order in
    let d : unsigned_abs (pos b -ℤ pos a) ≡ b - a = omega (arith, ints) in
    ap (λ x. (unsigned_abs (x -ℤ slice_start n s) + unsigned_abs s.step - 1) / unsigned_abs s.step) e.end
    ∙ (ap (λ x. (unsigned_abs (pos b -ℤ x) + unsigned_abs s.step - 1) / unsigned_abs s.step) e.start
    ∙ ap (λ x. (x + unsigned_abs s.step - 1) / unsigned_abs s.step) d)

module _ (n : ℕ) (s : Slice) (h : IsSliceOf n s) where
  pub reached : (i : ℕ) → i < slice_length n s → i * unsigned_abs s.step < unsigned_abs (slice_end n s) - unsigned_abs (slice_start n s)
  reached i lt = far_below (unsigned_abs (slice_start n s)) (unsigned_abs (slice_end n s)) i s.step h.step (subst (λ l. i < l) (slice_length-is n _ _ s (slice-ends n s h)) lt)

  -- the indices that it takes, modulo 2 ^ 64
  pub slice_index-mod : (from i : ℕ) → n < 2 ^ 63 → FitsSigned w64 s.step → from ≡ start_index (unsigned_abs (slice_start n s)) (unsigned_abs (slice_end n s)) s.step → i < slice_length n s → (from + i * cast_unsigned w64 s.step) % 2 ^ 64 ≡ slice_index_at n s i
  slice_index-mod from i fits word e lt =
      let high = (slice-ends n s h).high in
      step_index-mod (unsigned_abs (slice_start n s)) (unsigned_abs (slice_end n s)) i from s.step (omega arith) (reached i lt) word e

  -- the last of them lies no farther from the first than the axis reaches
  slice-near : (len : ℕ) → len ≡ slice_length n s → FitsSigned w64 s.step → reach len (cast_unsigned w64 s.step) ≤ n - 1
  slice-near zero el word = omega arith
  slice-near (suc len) el word =
      let high = (slice-ends n s h).high in
      let r = reached len (omega arith) in
      let m : (suc len - 1) * distance (cast_unsigned w64 s.step) ≡ len * unsigned_abs s.step = ap (λ x. x * distance (cast_unsigned w64 s.step)) (let e : suc len - 1 ≡ len = omega arith in e) ∙ ap (λ x. len * x) (distance-signed s.step word) in
      omega arith

  -- they are a cut of the axis
  pub IsAxisCut-slice : (from len : ℕ) → FitsSigned w64 s.step → len ≡ slice_length n s → ((i : ℕ) → i < len → (from + i * cast_unsigned w64 s.step) % 2 ^ 64 ≡ slice_index_at n s i) → IsAxisCut n from len (cast_unsigned w64 s.step) (slice_index_at n s)
  IsAxisCut-slice from len word el steps =
      let a : ℕ = unsigned_abs (slice_start n s) in
      let b : ℕ = unsigned_abs (slice_end n s) in
      let e = slice-ends n s h in
      let high = e.high in
      let w = size-pos s.step h.step in
      let few = ceil-le (b - a) (unsigned_abs s.step) w in
      let l = slice_length-is n a b s e in
      record {
        fewer = omega arith;
        within = λ i lt. step_index-below a b n i s.step e.order e.high (reached i (omega arith));
        steps = steps;
        near = slice-near len el word;
        moves = λ long. let m = distance-signed s.step word in omega arith;
      }
