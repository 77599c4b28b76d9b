use Rattle.std.proofs.Common.{subst, sym}
use Rattle.ndarray.specs.linalg.GeneralProducts.{AccumulatesProduct, CanAccumulateProduct}
use Rattle.ndarray.proofs.linalg.general.general_mat_mul.Goals as goal

pub accumulate_product-requires-after_bounds : goal.accumulate_product-requires-after_bounds
accumulate_product-requires-after_bounds g c κs within =
    let v = g.A.Valued in
    let can : CanAccumulateProduct v c.args.alpha c.args.beta c.args.a.now c.args.b.now c.args.c.now = record { shapes = c.requires.shapes; sums = c.requires.sums; scaled = c.requires.scaled } in
    subst (λ w. CanAccumulateProduct v c.args.alpha c.args.beta w c.view-2.result c.args.c.now) (sym c.view.ensures.same) (subst (λ w. CanAccumulateProduct v c.args.alpha c.args.beta c.args.a.now w c.args.c.now) (sym c.view-2.ensures.same) can)

pub returns : goal.returns
returns g c =
    let v = g.A.Valued in
    subst (λ w. AccumulatesProduct v c.args.alpha c.args.beta w c.args.b.now c.args.c.now c.accumulate_product.new.array) c.view.ensures.same
    (subst (λ w. AccumulatesProduct v c.args.alpha c.args.beta c.view.result w c.args.c.now c.accumulate_product.new.array) c.view-2.ensures.same c.accumulate_product.ensures)
