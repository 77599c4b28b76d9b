use Rattle.std.proofs.Common.{◌≡◌, ◌∙◌, ◌-◌, ℤ, Bool, ap, arith, length, subst, swap, sym, w64}
use Rattle.std.specs.Prelude.{neg_ℤ, int_le, ◌&&◌}
use Rattle.std.specs.Int.{cast_signed, cast_unsigned}
use Rattle.std.proofs.lemmas.Bool.{false≢true}
use Rattle.std.proofs.lemmas.Int.{to_z-of_z}
use Rattle.std.proofs.lemmas.List.Edits.{length-swap}
use Rattle.ndarray.specs.Index.{size}
use Rattle.ndarray.specs.Triangles.{diagonals_kept}
use Rattle.ndarray.specs.Views.{axes_swapped}
use Rattle.ndarray.proofs.cells.DiagonalSwaps.{between-mirrored, diagonals-swapped}
use Rattle.ndarray.proofs.views.Swaps.{size-swap_none}
use Rattle.ndarray.proofs.tri.diagonals_by_columns.Goals as goal

pub returns-in_err-kept-clause-empty : goal.returns-in_err-kept-clause-empty
returns-in_err-kept-clause-empty g c none =
    let ns = c.args.array.now.lengths in
    let axes = c.requires.axes in
    let n = c.ndim-axis.ensures.value ∙ ap length c.raw_dim.ensures.lengths in
    let axis = c.ndim-axis.result - 1 in
    let lengths = ap (λ k. k.lengths) c.swap_axes.ensures.value ∙ ap (λ k. swap k.lengths (axis - 1) axis) c.again-columns.ensures.same in
    absurd (false≢true (c.in_err-kept.ensures.empty (ap size lengths ∙ size-swap_none ns (axis - 1) axis (omega (arith, n, axes)) (omega (arith, n, axes)) none)))

pub swap_axes-requires-2-clause-first : goal.swap_axes-requires-2-clause-first
swap_axes-requires-2-clause-first g c =
    let n = c.ndim-axis.ensures.value ∙ ap length c.raw_dim.ensures.lengths in
    let lengths = ap length (c.in_ok-kept.ensures.lengths ∙ ap (λ k. k.lengths) c.swap_axes.ensures.value) ∙ (length-swap c.again-columns.result.lengths (c.ndim-axis.result - 1 - 1) (c.ndim-axis.result - 1) ∙ ap (λ k. length k.lengths) c.again-columns.ensures.same) in
    omega (arith, n, c.requires.axes, lengths)

pub swap_axes-requires-2-clause-second : goal.swap_axes-requires-2-clause-second
swap_axes-requires-2-clause-second g c =
    let n = c.ndim-axis.ensures.value ∙ ap length c.raw_dim.ensures.lengths in
    let lengths = ap length (c.in_ok-kept.ensures.lengths ∙ ap (λ k. k.lengths) c.swap_axes.ensures.value) ∙ (length-swap c.again-columns.result.lengths (c.ndim-axis.result - 1 - 1) (c.ndim-axis.result - 1) ∙ ap (λ k. length k.lengths) c.again-columns.ensures.same) in
    omega (arith, n, c.requires.axes, lengths)

pub returns-clause-cells : goal.returns-clause-cells
returns-clause-cells g c =
    let a = c.args.array.now in
    let axis = c.ndim-axis.result - 1 in
    let axes = c.requires.axes in
    let n = c.ndim-axis.ensures.value ∙ ap length c.raw_dim.ensures.lengths in
    let first = c.args.first in
    let last = c.args.last in
    let keeps : ℤ → Bool = λ d. int_le first d && int_le d last in
    let mirrored : ℤ → Bool = λ d. int_le (neg_ℤ last) d && int_le d (neg_ℤ first) in
    let low : cast_signed w64 (cast_unsigned w64 c.opposite.result) ≡ neg_ℤ last = ap (λ z. cast_signed w64 (cast_unsigned w64 z)) (c.opposite.ensures ∙ ap neg_ℤ (to_z-of_z w64 last c.ranges.last)) ∙ to_z-of_z w64 (neg_ℤ last) c.requires.last in
    let high : cast_signed w64 (cast_unsigned w64 c.opposite-2.result) ≡ neg_ℤ first = ap (λ z. cast_signed w64 (cast_unsigned w64 z)) (c.opposite-2.ensures ∙ ap neg_ℤ (to_z-of_z w64 first c.ranges.first)) ∙ to_z-of_z w64 (neg_ℤ first) c.requires.first in
    let kept : c.in_ok-kept.kept ≡ diagonals_kept mirrored g.A.Zero.zero c.swap_axes.new.self =
    c.in_ok-kept.ensures.cells
    ∙ (ap (λ z. diagonals_kept (λ d. int_le z d && int_le d (cast_signed w64 (cast_unsigned w64 c.opposite-2.result))) g.A.Zero.zero c.swap_axes.new.self) low
    ∙ ap (λ z. diagonals_kept (λ d. int_le (neg_ℤ last) d && int_le d z) g.A.Zero.zero c.swap_axes.new.self) high) in
    c.swap_axes-2.ensures.value
    ∙ diagonals-swapped keeps mirrored (λ d. between-mirrored first last d) g.A.Zero.zero a c.swap_axes.new.self c.in_ok-kept.kept (axis - 1) axis axes (omega (arith, n)) (omega (arith, n))
    (c.swap_axes.ensures.value ∙ ap (λ k. axes_swapped k (axis - 1) axis) c.again-columns.ensures.same) c.swap_axes.ensures.whole kept c.in_ok-kept.ensures.whole

pub returns-clause-axes : goal.returns-clause-axes
returns-clause-axes g c =
    let axis = c.ndim-axis.result - 1 in
    subst g.D.Lengths.has_axes (sym (ap (λ k. length k.lengths) c.swap_axes-2.ensures.value ∙ length-swap c.in_ok-kept.kept.lengths (axis - 1) axis)) c.in_ok-kept.ensures.axes
