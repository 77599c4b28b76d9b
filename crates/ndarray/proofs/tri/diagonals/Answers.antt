use Rattle.std.proofs.Common.{◌≡◌, ◌∙◌, ◌<◌, ap, length, subst, sym, w64}
use Rattle.std.specs.Prelude.{int_le, ◌&&◌, IfOk}
use Rattle.std.specs.Int.{cast_signed, cast_unsigned}
use Rattle.std.proofs.lemmas.Bool.{lt-ltb}
use Rattle.std.proofs.lemmas.Int.{to_z-of_z}
use Rattle.std.proofs.lemmas.Result.{IfOk-weaker}
use Rattle.ndarray.specs.Triangles.{diagonals_kept}
use Rattle.ndarray.proofs.joining.Errors.{if-true}
use Rattle.ndarray.proofs.tri.diagonals.Goals as goal

-- with fewer than two axes the array itself is the answer
pub returns-then-ndim-lt2-clause-cells : goal.returns-then-ndim-lt2-clause-cells
returns-then-ndim-lt2-clause-cells g c =
    let few = subst (λ n. n < 2) (c.ndim.ensures.value ∙ ap length c.raw_dim.ensures.lengths) c.if-ndim-lt2.true in
    IfOk-weaker c.to_owned.result _ _ (λ r copy. copy c.requires.clones ∙ sym (if-true _ _ _ (lt-ltb (length c.args.array.now.lengths) 2 few))) c.to_owned.ensures.same

pub returns-in-ColumnMajor-clause-cells : goal.returns-in-ColumnMajor-clause-cells
returns-in-ColumnMajor-clause-cells g c =
    let same =
    ap (λ z. diagonals_kept (λ d. int_le z d && int_le d (cast_signed w64 (cast_unsigned w64 c.args.last))) g.A.Zero.zero c.args.array.now) (to_z-of_z w64 c.args.first c.ranges.first)
    ∙ ap (λ z. diagonals_kept (λ d. int_le c.args.first d && int_le d z) g.A.Zero.zero c.args.array.now) (to_z-of_z w64 c.args.last c.ranges.last) in
    subst (λ h. IfOk c.diagonals_by_columns.result (λ r. r ≡ h)) same c.diagonals_by_columns.ensures.cells

pub returns-in_default-clause-cells : goal.returns-in_default-clause-cells
returns-in_default-clause-cells g c =
    let same =
    ap (λ z. diagonals_kept (λ d. int_le z d && int_le d (cast_signed w64 (cast_unsigned w64 c.args.last))) g.A.Zero.zero c.args.array.now) (to_z-of_z w64 c.args.first c.ranges.first)
    ∙ ap (λ z. diagonals_kept (λ d. int_le c.args.first d && int_le d z) g.A.Zero.zero c.args.array.now) (to_z-of_z w64 c.args.last c.ranges.last) in
    subst (λ h. IfOk c.diagonals_by_rows.result (λ r. r ≡ h)) same c.diagonals_by_rows.ensures.cells
