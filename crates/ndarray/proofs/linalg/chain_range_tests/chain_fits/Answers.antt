use Rattle.std.proofs.lemmas.Result.{IfOk-weaker}
use Rattle.std.proofs.Common.{get_or}
use Rattle.std.specs.Prelude.{◌↔◌, ◌≢◌, IfOk, IsTrue}
use Rattle.ndarray.specs.ChainRanges.{HasChainInRange}
use Rattle.ndarray.specs.Products.{HasSumsInRange, column_of, matrix_of}
use Rattle.ndarray.proofs.linalg.chain_range_tests.chain_fits.Goals as goal

pub returns-clause-exact : goal.returns-clause-exact
returns-clause-exact g c =
    let shapes = c.chain_ok.ensures.0 c.if-not-chain_ok.false in
    let tested : IfOk c.chain_sums_fit.result (λ fits. IsTrue fits ↔ HasChainInRange g.A.Number.value g.A.Number.fits c.args.a.now c.args.b.now c.args.x.now)
    = rw (c.view.ensures.same, c.view-2.ensures.same, c.view-3.ensures.same) at c.chain_sums_fit.ensures.exact in
    IfOk-weaker c.chain_sums_fit.result _ _ (λ fits same. (λ on. (shapes, same.0 on), λ all. same.1 all.1)) tested

pub returns-clause-inner_sums : goal.returns-clause-inner_sums
returns-clause-inner_sums g c =
    let e = g.A.Valued in
    let sums : IfOk c.chain_sums_fit.result (λ fits. IsTrue fits → get_or c.args.a.now.lengths 0 0 ≢ 0 → HasSumsInRange e (matrix_of e c.args.b.now) (column_of e c.args.x.now))
    = rw (c.view.ensures.same, c.view-2.ensures.same, c.view-3.ensures.same) at c.chain_sums_fit.ensures.inner_sums in
    sums
