use Rattle.std.proofs.Common.{subst, sym}
use Rattle.ndarray.specs.linalg.GeneralProducts.{AccumulatesColumn, CanAccumulateColumn}
use Rattle.ndarray.proofs.linalg.general.general_mat_vec_mul.Goals as goal

pub accumulate_column-requires-after_bounds : goal.accumulate_column-requires-after_bounds
accumulate_column-requires-after_bounds g c κs within =
    let v = g.A.Valued in
    let can : CanAccumulateColumn v c.args.alpha c.args.beta c.args.a.now c.args.x.now c.args.y.now = record { shapes = c.requires.shapes; sums = c.requires.sums; scaled = c.requires.scaled } in
    subst (λ w. CanAccumulateColumn v c.args.alpha c.args.beta w c.view-2.result c.args.y.now) (sym c.view.ensures.same) (subst (λ w. CanAccumulateColumn v c.args.alpha c.args.beta c.args.a.now w c.args.y.now) (sym c.view-2.ensures.same) can)

pub returns : goal.returns
returns g c =
    let v = g.A.Valued in
    subst (λ w. AccumulatesColumn v c.args.alpha c.args.beta w c.args.x.now c.args.y.now c.accumulate_column.new.array) c.view.ensures.same
    (subst (λ w. AccumulatesColumn v c.args.alpha c.args.beta c.view.result w c.args.y.now c.accumulate_column.new.array) c.view-2.ensures.same c.accumulate_column.ensures)
