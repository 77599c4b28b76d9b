use Rattle.std.proofs.Common.{◌≡◌, Contains, arith, inl, inr, length, refl, subst}
use Rattle.std.proofs.lemmas.Bool.{cases_lt, eqb-false, eqb-true}
use Rattle.ndarray.proofs.lists.AxisOrders.{each-once, order-contains, order-length}
use Rattle.ndarray.proofs.base.permuted_axes.names_each_axis.Goals as goal

pub returns-then-axes-ndim : goal.returns-then-axes-ndim
returns-then-axes-ndim c = (λ never. cc, λ order. absurd (c.if-axes-ndim.true (order-length c.args.ndim c.args.axes.now order)))

pub loop-axis-init : goal.loop-axis-init
loop-axis-init c k lt = absurd (omega (arith, lt))

pub returns-then-not-contains : goal.returns-then-not-contains
returns-then-not-contains c = (
  λ never. cc,
  λ order.
      let (k, lt, here) = order-contains c.args.ndim c.args.axes.now order c.loop-axis.axis-counter c.loop-axis-test.true in
      absurd (eqb-false _ _ (c.if-not-contains.ensures.cases k c.loop-axis.axis-counter (omega arith) lt) here),
)

pub loop-axis-preserved : goal.loop-axis-preserved
loop-axis-preserved c k lt =
    elim (cases_lt k c.loop-axis.axis-counter) [
      | inl below ↦ c.loop-axis.invariant k below
      | inr last ↦
          let (p, within, same) = c.if-not-contains.ensures.cases in
          let one : c.loop-axis.axis-counter ≡ k = omega (arith, lt, last) in
          subst (Contains c.args.axes.now) one (p, within, eqb-true _ _ (same c.loop-axis.axis-counter))
    ]

pub returns : goal.returns
returns c =
    let many : length c.args.axes.now ≡ c.args.ndim = omega (arith, c.if-axes-ndim.false) in
    let all : c.loop-axis.axis-counter ≡ c.args.ndim = omega (arith, c.loop-axis-test.false, c.loop-axis.auto.axis-counter-end) in
    (λ _. each-once c.args.ndim c.args.axes.now many (λ k lt. c.loop-axis.invariant k (omega (arith, lt, all))), λ _. refl)
