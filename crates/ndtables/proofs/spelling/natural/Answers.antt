use Rattle.std.proofs.Common.{rules, ◌≡◌, ◌<◌, ◌≤◌, ◌^◌, ℕ, List, arith, length, take}
use Rattle.std.proofs.Math.Nat.{pow-le-pow_right}
use Rattle.std.proofs.lemmas.List.{length-take-le}
use Rattle.std.specs.Str.Parse.{AllDigits, digits_value}
use Rattle.std.proofs.lemmas.Int.Digits.{digits_more, digits_value-lt, digits_value_more}
use Rattle.ndtables.proofs.spelling.natural.Goals as goal

-- the number of the digits so far has at most 17 digits
small : (ds : List ℕ) (at number : ℕ) → at < length ds → length ds ≤ 18 → AllDigits 10 (take at ds) → number ≡ digits_value 10 (take at ds) → number < 100000000000000000
small ds at number below short digits is =
    let few : length (take at ds) ≤ 17 = (let e = length-take-le at ds (omega (arith, below)) in omega (arith, e, below, short)) in
    let value = digits_value-lt 10 (take at ds) digits in
    let power : 10 ^ length (take at ds) ≤ 10 ^ 17 = pow-le-pow_right (omega arith) few in
    omega (arith, value, power, is)

pub overflow_mul-number : goal.overflow_mul-number
overflow_mul-number c =
    let below : c.loop-byte.byte-index < length c.args.digits.now = search rules in
    let short : length c.args.digits.now ≤ 18 = (let h = c.if-digits-gt18.false in omega (arith, h)) in
    let h = small c.args.digits.now c.loop-byte.byte-index c.loop-byte.number below short c.loop-byte.invariant.digits c.loop-byte.invariant.value in
    omega (arith, h)

pub overflow_add-number : goal.overflow_add-number
overflow_add-number c =
    let below : c.loop-byte.byte-index < length c.args.digits.now = search rules in
    let short : length c.args.digits.now ≤ 18 = (let h = c.if-digits-gt18.false in omega (arith, h)) in
    let h = small c.args.digits.now c.loop-byte.byte-index c.loop-byte.number below short c.loop-byte.invariant.digits c.loop-byte.invariant.value in
    let d = c.in_ok-digit.ensures.0 in
    let one = c.in_ok-digit.ensures.1 in
    omega (arith, h, d, one)

pub loop-byte-preserved : goal.loop-byte-preserved
loop-byte-preserved c =
    let ds = c.args.digits.now in
    let at = c.loop-byte.byte-index in
    let below : at < length ds = search rules in
    let more = digits_value_more 10 ds at below in
    record {
      digits = digits_more 10 ds at below c.loop-byte.invariant.digits (let d = c.in_ok-digit.ensures.1 in d);
      value = (let d = c.in_ok-digit.ensures.0 in let so_far = c.loop-byte.invariant.value in omega (arith, more, d, so_far));
    }
