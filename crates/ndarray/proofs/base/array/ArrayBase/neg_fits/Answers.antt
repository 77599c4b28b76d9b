use Rattle.std.specs.Prelude.{IsTrue, neg_ℤ}
use Rattle.ndarray.specs.Elementwise.{CanMap}
use Rattle.ndarray.proofs.base.array.ArrayBase.neg_fits.Goals as goal

pub returns-clause-defined : goal.returns-clause-defined
returns-clause-defined g c =
    let negatives : IsTrue c.negatives_fit-2.result → CanMap (λ x. g.A.Number.fits (neg_ℤ (g.A.Number.value x))) c.args.self.now = rw c.view.ensures.same at c.negatives_fit-2.ensures.0 in
    λ on is x at. g.met.A.Signed.can_neg_law x (λ _. negatives on is x at)
