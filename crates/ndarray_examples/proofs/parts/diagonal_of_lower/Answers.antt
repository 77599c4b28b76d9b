use Rattle.ndarray.proofs.Common.{◌∙◌, ap, arith, int_le, pos, refl, subst, IsGrid, kept-diagonal}
use Rattle.ndarray.specs.Diagonals.{diagonal_of}
use Rattle.ndarray_examples.proofs.parts.diagonal_of_lower.Goals as goal

pub returns : goal.returns
returns g c =
    let made = c.in_ok-lower.ensures.cells in
    let axes = c.ndim-axes.ensures.axes in
    c.into_diag.ensures.value ∙ (ap diagonal_of made ∙ kept-diagonal (λ d. int_le d (pos 0)) (pos 0) c.args.a.now (omega (arith, axes)) (subst IsGrid made c.in_ok-lower.ensures.whole) refl)
