use Rattle.std.proofs.Common.{arith, rules, ◌≡◌, ◌*◌, ◌%◌, ◌<◌, ◌^◌, ◌∙◌, ℕ, Bool, true, false, div-lt_iff_lt-mul, le-div_iff_mul-le, mod-eq_of_lt}
use Rattle.std.specs.Bool.{FalseIff}
use Rattle.ndarray.proofs.boxes.Sizes.{limit_stop, limit_more, limit_same}
use Rattle.ndarray.proofs.lists.Decisions.{says_no}
use Rattle.ndarray.proofs.base.dimension.Lengths.size_ok.Goals as goal
use Rattle.ndarray.proofs.base.dimension.Lengths.size_ok.Goals.{then-len-ne0+else-wraps+else-more, else-len-ne0, then-wraps-via-then-wraps, then-wraps-via-else-wraps+then-more}

wrapped : (n : ℕ) (b : Bool) → FalseIff b (n < 2 ^ 64) → b ≡ true → 9223372036854775807 < n
wrapped n true past e = omega (arith, past)
wrapped n false lt e = absurd (search rules)

not-wrapped : (n : ℕ) (b : Bool) → FalseIff b (n < 2 ^ 64) → b ≡ false → n % 2 ^ 64 ≡ n
not-wrapped n true past e = absurd (search rules)
not-wrapped n false lt e = mod-eq_of_lt lt

pub returns-then-wraps : goal.returns-then-wraps
returns-then-wraps g c =
    let all = c.loop-axis.product in
    let len = c.axis-len.result in
    let many = c.overflowing_mul-more in
    let past : 9223372036854775807 < all * len = elim c.then-wraps.branch [
      | then-wraps-via-then-wraps w ↦ wrapped (all * len) many.result.1 many.ensures.overflow w.if-wraps.true
      | then-wraps-via-else-wraps+then-more w ↦ (
          let is = not-wrapped (all * len) many.result.1 many.ensures.overflow w.if-wraps.false in
          let more = many.ensures.value in
          omega (arith, is, more, w.if-more.true))
    ] in
    let turned : 9223372036854775807 < len * all = omega (arith, past) in
    says_no _ (λ h. limit_stop (g.Self.Lengths.numbers c.args.self.now) c.loop-axis.axis all len (omega arith) c.loop-axis.invariant.product c.axis-len.ensures c.loop-axis.invariant.some (omega (arith, c.if-len-ne0.true)) ((div-lt_iff_lt-mul c.loop-axis.invariant.some).1 turned) h)

pub loop-axis-preserved : goal.loop-axis-preserved
loop-axis-preserved g c =
    let ns = g.Self.Lengths.numbers c.args.self.now in
    let all = c.loop-axis.product in
    let len = c.axis-len.result in
    elim c.if-len-ne0.branch [
      | then-len-ne0+else-wraps+else-more w ↦ (
          let many = w.overflowing_mul-more in
          let is = not-wrapped (all * len) many.result.1 many.ensures.overflow w.if-wraps.false in
          let more = many.ensures.value ∙ is in
          let fits : len * all < 9223372036854775808 = omega (arith, more, w.if-more.false) in
          let m = limit_more ns c.loop-axis.axis all len (omega arith) c.loop-axis.invariant.product c.axis-len.ensures c.loop-axis.invariant.some (omega (arith, w.if-len-ne0.true)) ((le-div_iff_mul-le c.loop-axis.invariant.some).1 (omega (arith, fits))) in
          record { some = omega (arith, m.0, more, w.product-is); fits = omega (arith, m.1, more, w.product-is); product = w.product-is ∙ more ∙ m.2 })
      | else-len-ne0 w ↦ (
          let m = limit_same ns c.loop-axis.axis all len (omega arith) c.loop-axis.invariant.product c.axis-len.ensures (omega (arith, w.if-len-ne0.false)) in
          record { some = omega (arith, w.product-is); fits = omega (arith, w.product-is); product = w.product-is ∙ m })
    ]
