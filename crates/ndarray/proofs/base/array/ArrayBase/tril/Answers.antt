use Rattle.std.proofs.Common.{◌≡◌, ◌∙◌, ap, subst, w64}
use Rattle.std.specs.Int.{cast_signed, cast_unsigned}
use Rattle.std.specs.Prelude.{IfOk, int_le}
use Rattle.std.proofs.lemmas.Int.{to_z-of_z}
use Rattle.std.proofs.lemmas.Result.{IfOk-weaker}
use Rattle.ndarray.specs.Triangles.{lower_triangle}
use Rattle.ndarray.proofs.cells.Diagonals.{lengths-kept, lower-is}
use Rattle.ndarray.proofs.base.array.ArrayBase.tril.Goals as goal

pub returns-clause-cells : goal.returns-clause-cells
returns-clause-cells g c =
    subst (λ h. IfOk c.diagonals-2.result (λ r. r ≡ h)) (lower-is (cast_signed w64 (cast_unsigned w64 c.args.k)) g.A.Zero.zero c.view.result c.diagonals-2.ensures.limit ∙ ap (lower_triangle (cast_signed w64 (cast_unsigned w64 c.args.k)) g.A.Zero.zero) c.view.ensures.same ∙ ap (λ k. lower_triangle k g.A.Zero.zero c.args.self.now) (to_z-of_z w64 c.args.k c.ranges.k)) c.diagonals-2.ensures.cells

pub returns-clause-lengths : goal.returns-clause-lengths
returns-clause-lengths g c =
    IfOk-weaker c.diagonals-2.result _ _ (λ r made. ap (λ h. h.lengths) made ∙ lengths-kept (λ d. int_le d c.args.k) g.A.Zero.zero c.args.self.now) (returns-clause-cells g c)
