use Rattle.std.specs.Prelude.{IsTrue}
use Rattle.ndarray.specs.Elementwise.{CanAssign}
use Rattle.ndarray.specs.Products.{CanAddProduct}
use Rattle.ndarray.specs.WholeValues.{whole_numbers}
use Rattle.ndarray.proofs.cells.TestedCells.{assign-more}
use Rattle.ndarray.proofs.cells.WholeProducts.{scaled-in_range}
use Rattle.ndarray.proofs.base.array.ArrayBase.scaled_add_fits.Goals as goal

pub returns-clause-defined : goal.returns-clause-defined
returns-clause-defined g c =
    let v = whole_numbers g.A.Number.value g.A.Number.fits in
    let sums : IsTrue c.scaled_sums_fit-3.result → CanAssign (CanAddProduct v c.args.alpha) c.args.self.now c.args.rhs.now = rw (c.view.ensures.same, c.view-2.ensures.same) at c.scaled_sums_fit-3.ensures.0 in
    λ on. assign-more _ _ _ _ (λ x y can. scaled-in_range g.A.Valued g.A.Number.value g.A.Number.fits g.met.A.IntegerScalar.whole_values c.args.alpha x y can) (sums on)
