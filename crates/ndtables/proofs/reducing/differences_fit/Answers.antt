use Rattle.std.proofs.Common.{ℤ}
use Rattle.std.specs.Prelude.{FitsSigned, ◌-ℤ◌}
use Rattle.std.specs.Int.{w64}
use Rattle.ndarray.proofs.callers.Elementwise.{can-combine, combined-cells}
use Rattle.ndtables.proofs.reducing.differences_fit.Goals as goal

pub returns : goal.returns
returns c =
    let g = c.args.left.now in
    let h = c.args.right.now in
    let can = λ (x y : ℤ). FitsSigned w64 (x -ℤ y) in (
      λ on. combined-cells g h c.raw_dim.ensures.whole c.raw_dim-2.ensures.whole c.requires.same can (c.sub_fits.ensures.exact.0 on),
      λ each. c.sub_fits.ensures.exact.1 (can-combine g h c.raw_dim.ensures.whole c.raw_dim-2.ensures.whole c.requires.same can c.raw_dim.ensures.limit each),
    )
