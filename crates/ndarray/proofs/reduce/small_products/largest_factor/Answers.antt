use Rattle.std.proofs.Common.{◌≡◌, ◌∙◌, ◌+◌, ◌*◌, ap, arith, pos, subst, sym}
use Rattle.std.specs.Prelude.{◌+ℤ◌, ◌≤ℤ◌, unsigned_abs}
use Rattle.std.proofs.lemmas.Int.{ints}
use Rattle.ndarray.proofs.sums.SmallProducts.{below-fits, squares-doubled}
use Rattle.ndarray.proofs.reduce.small_products.largest_factor.Goals as goal

pub doubles-init : goal.doubles-init
doubles-init g c =
    let v = g.A.Number.value in
    let exact = g.met.A.Integral.exact_law in
    let first : v c.one-factor.result ≡ pos 1 = ap v c.one-factor.ensures ∙ g.met.A.One.one_law exact in
    let squares = c.in_ok-squares.ensures 1 (ap v c.one.ensures ∙ g.met.A.One.one_law exact) in
    let size : unsigned_abs (v c.one-factor.result) ≡ 1 = ap unsigned_abs first in
    record {
      from_zero = omega (arith, ints, first);
      up_to = subst (λ k. pos (c.args.count * (k * k)) ≤ℤ v c.in_ok-squares.squares) (sym size) squares.1;
      squares_fit = squares.0;
    }

pub doubles-preserved : goal.doubles-preserved
doubles-preserved g c =
    let v = g.A.Number.value in
    let h = c.doubles.invariant in
    let f = unsigned_abs (v c.doubles.factor) in
    let n = unsigned_abs (v c.doubles.squares) in
    let twice : v c.in-Some-checked_add.twice ≡ v c.doubles.factor +ℤ v c.doubles.factor = (g.met.A.CheckedAdd.checked_add_law c.doubles.factor c.doubles.factor _ c.in-Some-checked_add.ensures).1 in
    let four = c.in-Some.ensures n (let le = h.up_to in omega (arith, ints, le)) in
    let size : unsigned_abs (v c.in-Some-checked_add.twice) ≡ f + f = (let z = h.from_zero in omega (arith, ints, z, twice)) in
    record {
      from_zero = (let z = h.from_zero in omega (arith, ints, z, twice));
      up_to = subst (λ k. pos (c.args.count * (k * k)) ≤ℤ v c.in-Some.four_times) (sym size)
          (squares-doubled c.args.count f n (v c.in-Some.four_times) (let le = h.up_to in omega (arith, ints, le)) four.1);
      squares_fit = four.0;
    }

pub returns-in_default : goal.returns-in_default
returns-in_default g c = let h = c.doubles.invariant in (h.from_zero, below-fits g.A.Number.fits (λ x y z. g.A.Number.between_law x y z g.met.A.Integral.exact_law) (g.met.A.Zero.zero_fits_law g.met.A.Integral.exact_law) _ _ h.up_to h.squares_fit)

pub returns-in_default-checked_add : goal.returns-in_default-checked_add
returns-in_default-checked_add g c = let h = c.doubles.invariant in (h.from_zero, below-fits g.A.Number.fits (λ x y z. g.A.Number.between_law x y z g.met.A.Integral.exact_law) (g.met.A.Zero.zero_fits_law g.met.A.Integral.exact_law) _ _ h.up_to h.squares_fit)

pub returns : goal.returns
returns g c = let h = c.doubles.invariant in (h.from_zero, below-fits g.A.Number.fits (λ x y z. g.A.Number.between_law x y z g.met.A.Integral.exact_law) (g.met.A.Zero.zero_fits_law g.met.A.Integral.exact_law) _ _ h.up_to h.squares_fit)
