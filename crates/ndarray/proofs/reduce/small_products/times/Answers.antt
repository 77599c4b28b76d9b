use Rattle.std.proofs.Common.{◌≡◌, ◌∙◌, ◌+◌, ◌*◌, ap, arith, pos, subst, sym}
use Rattle.std.specs.Prelude.{◌+ℤ◌}
use Rattle.std.proofs.lemmas.Int.{ints}
use Rattle.std.proofs.lemmas.Nat.{mul-le}
use Rattle.ndarray.proofs.sums.SmallProducts.{doubled-more}
use Rattle.ndarray.proofs.reduce.small_products.times.Goals as goal

pub halves-preserved : goal.halves-preserved
halves-preserved g c =
    let v = g.A.Number.value in
    let fits = g.A.Number.fits in
    let twice = g.met.A.CheckedAdd.checked_add_law c.halves.sum c.halves.sum _ c.in-Some.ensures in
    record {
      sum_fits = subst fits (sym twice.1) twice.0;
      enough = λ n is.
          let (s, sum, enough) = c.halves.invariant.enough n is in
          let doubled : v c.in-Some.more ≡ pos (s + s) = twice.1 ∙ (ap (λ z. z +ℤ z) sum ∙ omega (arith, ints)) in
          (s + s, doubled, doubled-more (c.args.count * n) s c.halves.left enough);
    }

pub returns : goal.returns
returns g c =
    λ n is.
    let (s, sum, enough) = c.halves.invariant.enough n is in
    let last = c.halves-test.false in
    let once = mul-le s c.halves.left s 1 (omega arith) (omega (arith, last)) in
    (c.halves.invariant.sum_fits, omega (arith, ints, once, enough, sum))
