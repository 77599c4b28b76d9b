use Rattle.std.proofs.Common.{◌∙◌, ◌*◌, ap, arith, length, pos, refl, subst, sym}
use Rattle.std.specs.Prelude.{◌+ℤ◌, ◌*ℤ◌, ◌≤◌, unsigned_abs}
use Rattle.ndarray.proofs.cells.WholeProducts.{added-whole, product-whole}
use Rattle.ndarray.proofs.sums.SmallProducts.{small-added, small-between, small-end, small-next, small-product, small-start}
use Rattle.ndarray.proofs.reduce.small_products.sum_of_small_products.Goals as goal
use Rattle.ndarray.proofs.reduce.small_products.sum_of_small_products.Goals.{Else-not-is_between-2}

pub loop-x-init : goal.loop-x-init
loop-x-init g c =
    let v = g.A.Number.value in
    let exact = g.met.A.Integral.exact_law in
    small-start g.A.Number.fits (λ x y z. g.A.Number.between_law x y z exact) (g.met.A.Zero.zero_fits_law exact) g.met.A.IntegerElem.negated_fits v c.args.left c.args.right _ c.args.left c.args.right _
    refl refl c.requires (ap v c.zero-sum.ensures ∙ g.met.A.Zero.zero_law exact)

-- where x and y are small
module _ (g : _) (c : Else-not-is_between-2 g) where
  small-x : g.A.Number.fits (g.A.Number.value c.in-Some.x.now) × (unsigned_abs (g.A.Number.value c.in-Some.x.now) ≤ unsigned_abs (g.A.Number.value c.in_ok-most.most))
  small-x = small-between g.A.Number.fits _ _ _ c.in_ok-most.ensures.0 c.negative_or_zero-least.ensures c.is_between.ensures.fits (c.is_between.ensures.between c.if-not-is_between.false)

  small-y : g.A.Number.fits (g.A.Number.value c.in-Some-next.y.now) × (unsigned_abs (g.A.Number.value c.in-Some-next.y.now) ≤ unsigned_abs (g.A.Number.value c.in_ok-most.most))
  small-y =
      small-between g.A.Number.fits _ _ _ c.in_ok-most.ensures.0 c.negative_or_zero-least.ensures c.is_between-else-not-is_between.ensures.fits
      (c.is_between-else-not-is_between.ensures.between c.if-not-is_between-2.false)

  all : g.A.Number.fits (pos (length c.args.right * (unsigned_abs (g.A.Number.value c.in_ok-most.most) * unsigned_abs (g.A.Number.value c.in_ok-most.most))))
  all = subst (λ n. g.A.Number.fits (pos (n * (unsigned_abs (g.A.Number.value c.in_ok-most.most) * unsigned_abs (g.A.Number.value c.in_ok-most.most))))) c.len-2.ensures c.in_ok-most.ensures.1

  product-fits : g.A.Number.fits (g.A.Number.value c.in-Some.x.now *ℤ g.A.Number.value c.in-Some-next.y.now)
  product-fits =
      let exact = g.met.A.Integral.exact_law in
      small-product g.A.Number.fits (λ x y z. g.A.Number.between_law x y z exact) (g.met.A.Zero.zero_fits_law exact) g.met.A.IntegerElem.negated_fits g.A.Number.value c.args.left c.args.right _
      all c.loop-x.xs c.loop-x.ys c.next.new.self c.next-in-Some.new.self _ _ _ c.in-Some.ensures c.in-Some-next.ensures small-x small-y c.loop-x.invariant

  sum-fits : g.A.Number.fits (g.A.Number.value c.loop-x.sum +ℤ (g.A.Number.value c.in-Some.x.now *ℤ g.A.Number.value c.in-Some-next.y.now))
  sum-fits =
      let exact = g.met.A.Integral.exact_law in
      small-added g.A.Number.fits (λ x y z. g.A.Number.between_law x y z exact) (g.met.A.Zero.zero_fits_law exact) g.met.A.IntegerElem.negated_fits g.A.Number.value c.args.left c.args.right _
      all c.loop-x.xs c.loop-x.ys c.next.new.self c.next-in-Some.new.self _ _ _ c.in-Some.ensures c.in-Some-next.ensures small-x small-y c.loop-x.invariant

pub add_product-sum-requires-clause-product : goal.add_product-sum-requires-clause-product
add_product-sum-requires-clause-product g c κs within =
    let w = g.met.A.IntegerScalar.whole_values in
    let d = (goal.at.add_product-sum-requires-clause-product g c).Else-not-is_between-2 in
    (w.in_range _).1 (subst g.A.Number.fits (sym (product-whole g.A.Valued g.A.Number.value g.A.Number.fits w c.in-Some.x.now c.in-Some-next.y.now)) (product-fits g d))

pub add_product-sum-requires-clause-added : goal.add_product-sum-requires-clause-added
add_product-sum-requires-clause-added g c κs within =
    let w = g.met.A.IntegerScalar.whole_values in
    let d = (goal.at.add_product-sum-requires-clause-added g c).Else-not-is_between-2 in
    (w.in_range _).1 (subst g.A.Number.fits (sym (added-whole g.A.Valued g.A.Number.value g.A.Number.fits w c.loop-x.sum c.in-Some.x.now c.in-Some-next.y.now)) (sum-fits g d))

pub loop-x-preserved : goal.loop-x-preserved
loop-x-preserved g c =
    let w = g.met.A.IntegerScalar.whole_values in
    let exact = g.met.A.Integral.exact_law in
    let d = (goal.at.loop-x-preserved g c).Else-not-is_between-2 in
    let more = sym (w.element c.add_product-sum.result) ∙ (ap w.whole c.add_product-sum.ensures ∙ added-whole g.A.Valued g.A.Number.value g.A.Number.fits w c.loop-x.sum c.in-Some.x.now c.in-Some-next.y.now) in
    small-next g.A.Number.fits (λ x y z. g.A.Number.between_law x y z exact) (g.met.A.Zero.zero_fits_law exact) g.met.A.IntegerElem.negated_fits g.A.Number.value c.args.left c.args.right _
    (all g d) c.loop-x.xs c.loop-x.ys c.next.new.self c.next-in-Some.new.self _ _ _ c.in-Some.ensures c.in-Some-next.ensures (small-x g d) (small-y g d) c.loop-x.invariant _ more

pub returns : goal.returns
returns g c =
    let exact = g.met.A.Integral.exact_law in
    let v = g.A.Number.value in
    let m = unsigned_abs (v c.in_ok-most.most) in
    small-end g.A.Number.fits (λ x y z. g.A.Number.between_law x y z exact) (g.met.A.Zero.zero_fits_law exact) g.met.A.IntegerElem.negated_fits v c.args.left c.args.right m
    (subst (λ n. g.A.Number.fits (pos (n * (m * m)))) c.len-2.ensures c.in_ok-most.ensures.1) c.loop-x.xs c.loop-x.ys _ c.in_default.ensures.0 c.loop-x.invariant

pub unreachable-requires : goal.unreachable-requires
unreachable-requires g c =
    let same = c.loop-x.invariant.same in
    let first = ap length c.in-Some.ensures in
    let second = ap length c.in_default-next.ensures.0 in
    omega (arith, same, first, second)
