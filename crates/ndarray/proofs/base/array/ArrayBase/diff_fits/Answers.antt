use Rattle.std.proofs.Common.{◌⊎◌, ◌<◌, ◌≡◌, arith, inl, inr}
use Rattle.std.proofs.lemmas.Result.{IfErr-weaker, IfOk-weaker}
use Rattle.std.specs.Prelude.{◌≢◌, ◌↔◌, IfErr, IfOk, IsTrue, ℕ}
use Rattle.ndarray.specs.AlongAxisRanges.{HasDifferencesInRange}
use Rattle.ndarray.specs.Index.{size}
use Rattle.ndarray.proofs.cells.DifferenceRanges.{differ-in_range}
use Rattle.ndarray.proofs.lists.Decisions.{says_no}
use Rattle.ndarray.proofs.base.array.ArrayBase.diff_fits.Goals as goal
use Rattle.ndarray.proofs.base.array.ArrayBase.diff_fits.Goals.{After-differences_fit-2}

-- an order of more than 1 is below the length
order-below : (n len : ℕ) → 1 < n → (n ≡ 0) ⊎ (n < len) → n < len
order-below n len some h = elim h [ inl e ↦ absurd (omega (arith, e, some)) | inr lt ↦ lt ]

-- what the test of the view says of the array
tested : (g : _) (c : After-differences_fit-2 g) → IfOk c.differences_fit-2.result (λ fits. IsTrue fits ↔ HasDifferencesInRange g.A.Number.value g.A.Number.fits c.args.axis.0 c.args.n c.args.self.now)
tested g c = rw c.view.ensures.same at c.differences_fit-2.ensures.exact

pub returns-then-not-diff_ok-clause-exact : goal.returns-then-not-diff_ok-clause-exact
returns-then-not-diff_ok-clause-exact g c =
    let off = c.if-not-diff_ok.true in
    says_no _ (λ all. let on = c.diff_ok.ensures.1 (all.0, all.1) in absurd (cc))

pub returns-clause-exact : goal.returns-clause-exact
returns-clause-exact g c =
    let shapes = c.diff_ok.ensures.0 c.if-not-diff_ok.false in
    IfOk-weaker c.differences_fit-2.result _ _ (λ fits same. (λ on. (shapes.0, shapes.1, same.0 on), λ all. same.1 all.2)) (tested g (goal.at.returns-clause-exact g c).After-differences_fit-2)

pub returns-clause-axis : goal.returns-clause-axis
returns-clause-axis g c =
    let shapes = c.diff_ok.ensures.0 c.if-not-diff_ok.false in
    IfOk-weaker c.differences_fit-2.result _ _ (λ fits same on. shapes.0) c.differences_fit-2.ensures.exact

pub returns-clause-order : goal.returns-clause-order
returns-clause-order g c =
    let shapes = c.diff_ok.ensures.0 c.if-not-diff_ok.false in
    IfOk-weaker c.differences_fit-2.result _ _ (λ fits same on. shapes.1) c.differences_fit-2.ensures.exact

pub returns-clause-defined : goal.returns-clause-defined
returns-clause-defined g c =
    let exact = g.met.A.Integral.exact_law in
    IfOk-weaker c.differences_fit-2.result _ _
    (λ fits same on. differ-in_range g.A.Number.value g.A.Number.fits c.args.axis.0 c.args.self.now g.A.Sub.sub_gives (λ y x r given fit. g.met.A.Num.sub_law y x r given exact fit) g.A.Sub.can_sub (λ y x fit. g.met.A.Num.can_sub_law y x (λ _. fit)) c.args.n (same.0 on))
    (tested g (goal.at.returns-clause-defined g c).After-differences_fit-2)

pub returns-clause-error : goal.returns-clause-error
returns-clause-error g c =
    let shapes = c.diff_ok.ensures.0 c.if-not-diff_ok.false in
    let failed : IfErr c.differences_fit-2.result (λ _. (1 < c.args.n) × (size c.args.self.now.lengths ≢ 0)) = rw c.view.ensures.same at c.differences_fit-2.ensures.error in
    IfErr-weaker c.differences_fit-2.result _ _ (λ _ why. (why.0, order-below c.args.n _ why.0 shapes.1, why.1)) failed
