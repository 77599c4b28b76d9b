use Rattle.std.proofs.Common.{ℕ, ◌≡◌, ◌<◌, ◌≤◌, ◌+◌, ◌-◌, ◌%◌, ◌^◌, arith, sym, ◌∙◌, ap, rules, w64}
use Rattle.std.specs.Prelude.{ℤ, pos, unsigned_abs, ◌-ℤ◌, ◌≤ℤ◌, ◌<ℤ◌, FitsSigned}
use Rattle.std.specs.Int.{div_ceil, cast_signed, cast_unsigned}
use Rattle.std.proofs.lemmas.Int.{ints, to_z-of_z, of_z-to_z}
use Rattle.ndarray.specs.Slices.{slice_end, slice_start}
use Rattle.ndarray.proofs.views.Slices.{slice-ends, slice_length-is, ceil-is, size-pos, start_index, start_index-up, start_index-down, slice_index-mod}
use Rattle.ndarray.proofs.base.slice.Slice.extent.Goals as goal
use Rattle.ndarray.proofs.base.slice.Slice.extent.Goals.{then-self-gt0, else-self-gt0}

-- the number of indices between the ends
between : (x y : ℤ) (a b : ℕ) → x ≡ pos a → y ≡ pos b → a ≤ b → b < 2 ^ 63 → unsigned_abs (cast_signed w64 (cast_unsigned w64 (cast_signed w64 (cast_unsigned w64 y) -ℤ cast_signed w64 (cast_unsigned w64 x)))) ≡ b - a
between x y a b ex ey order fits = omega (arith, ints)

-- it is a word with a sign
between-fits : (x y : ℤ) (a b : ℕ) → x ≡ pos a → y ≡ pos b → a ≤ b → b < 2 ^ 63 → FitsSigned w64 (cast_signed w64 (cast_unsigned w64 y) -ℤ cast_signed w64 (cast_unsigned w64 x))
between-fits x y a b ex ey order fits = omega (arith, ints)

below-limit : (b n : ℕ) → b ≤ n → n < 2 ^ 63 → b < 2 ^ 63
below-limit b n most fits = omega arith

pub overflow_sub-end : goal.overflow_sub-end
overflow_sub-end c =
    let n = c.args.len in
    let s = c.args.self.now in
    let e = slice-ends n s c.requires.within in
    let a : ℕ = unsigned_abs (slice_start n s) in
    let b : ℕ = unsigned_abs (slice_end n s) in
    between-fits c.ends-start.result.0 c.ends-start.result.1 a b (c.ends-start.ensures.start ∙ e.start) (c.ends-start.ensures.end ∙ e.end) e.order (below-limit b n e.high c.requires.fits)

pub returns-clause-len : goal.returns-clause-len
returns-clause-len c =
    let n = c.args.len in
    let s = c.args.self.now in
    let e = slice-ends n s c.requires.within in
    let a : ℕ = unsigned_abs (slice_start n s) in
    let b : ℕ = unsigned_abs (slice_end n s) in
    let word : FitsSigned w64 s.step = search rules in
    let start : c.ends-start.result.0 ≡ pos a = c.ends-start.ensures.start ∙ e.start in
    let end : c.ends-start.result.1 ≡ pos b = c.ends-start.ensures.end ∙ e.end in
    let order = e.order in
    let high = e.high in
    let size : c.unsigned_abs.result ≡ unsigned_abs s.step = c.unsigned_abs.ensures.value ∙ ap unsigned_abs (to_z-of_z w64 s.step word) in
    c.div_ceil-taken.ensures ∙ (ap (λ x. div_ceil x c.unsigned_abs.result) (between c.ends-start.result.0 c.ends-start.result.1 a b start end order (below-limit b n high c.requires.fits)) ∙ (ap (div_ceil (b - a)) size ∙ (ceil-is (b - a) (unsigned_abs s.step) (size-pos s.step c.requires.within.step) ∙ sym (slice_length-is n a b s e))))

pub returns-clause-indices : goal.returns-clause-indices
returns-clause-indices c = λ i lt.
    let n = c.args.len in
    let s = c.args.self.now in
    let e = slice-ends n s c.requires.within in
    let a : ℕ = unsigned_abs (slice_start n s) in
    let b : ℕ = unsigned_abs (slice_end n s) in
    let word : FitsSigned w64 s.step = search rules in
    let start : c.ends-start.result.0 ≡ pos a = c.ends-start.ensures.start ∙ e.start in
    let end : c.ends-start.result.1 ≡ pos b = c.ends-start.ensures.end ∙ e.end in
    let order = e.order in
    let high = e.high in
    let from : c.cast_unsigned.result ≡ start_index a b s.step =
    elim c.if-self-gt0.branch [
      | then-self-gt0 w ↦ (let up : pos 0 <ℤ s.step = omega (arith, ints, w.if-self-gt0.true) in let at : c.cast_unsigned.result ≡ a = c.cast_unsigned.ensures ∙ (ap (cast_unsigned w64) (w.from-is ∙ ap (λ z. cast_signed w64 (cast_unsigned w64 z)) start) ∙ of_z-to_z w64 a (omega arith)) in at ∙ sym (start_index-up a b s.step up))
      | else-self-gt0 w ↦ (let down : s.step ≤ℤ pos 0 = omega (arith, ints, w.if-self-gt0.false) in let at : c.cast_unsigned.result ≡ (b + (2 ^ 64 - 1)) % 2 ^ 64 = c.cast_unsigned.ensures ∙ (ap (cast_unsigned w64) (w.from-is ∙ ap (λ z. cast_signed w64 ((cast_unsigned w64 z + (2 ^ 64 - 1)) % 2 ^ 64)) end) ∙ of_z-to_z w64 ((b + (2 ^ 64 - 1)) % 2 ^ 64) (omega arith)) in at ∙ sym (start_index-down a b s.step c.requires.within.step down))
    ] in
    slice_index-mod n s c.requires.within c.cast_unsigned.result i c.requires.fits word from (omega (arith, returns-clause-len c))
