use Rattle.std.proofs.Common.{◌≤◌, ap, arith, length, refl, subst, sym}
use Rattle.std.proofs.lemmas.Bool.{false≢true}
use Rattle.ndarray.specs.Index.{size}
use Rattle.ndarray.specs.Limits.{IsWithinLimit}
use Rattle.ndarray.specs.Orders.{HasInOrder}
use Rattle.ndarray.proofs.cells.Cells.{cells-row_major, cells_in-HasInOrder}
use Rattle.ndarray.proofs.strides.Reach.{length-cells_at}
use Rattle.ndarray.proofs.strides.Strides.{Reaches-slice, cells_in-slice}
use Rattle.ndarray.proofs.lists.Decisions.{from_yes}
use Rattle.ndarray.proofs.boxes.ShapeErrors.{overflow-apart, is_error, is_other_error, is_no_error}
use Rattle.ndarray.proofs.base.constructors.ArrayView+A+D.from_shape.Goals as goal

pub invariant_of-result : goal.invariant_of-result
invariant_of-result g c = Reaches-slice _ (g.D.Lengths.numbers c.into_shape_with_order-dim.result.dim) _ c.default_strides-strides.ensures.strides (from_yes _ c.if-not-size_ok.ensures) ⊥ _ c.args.slice.now c.new.ensures (omega arith)

pub returns-clause-whole : goal.returns-clause-whole
returns-clause-whole g c = length-cells_at _ _ _ _ (invariant_of-result g c)

pub returns-clause-list : goal.returns-clause-list
returns-clause-list g c =
    rw (← c.into_shape_with_order-dim.ensures.order) (cells_in-slice _ (g.D.Lengths.numbers c.into_shape_with_order-dim.result.dim) _ c.default_strides-strides.ensures.strides (from_yes _ c.if-not-size_ok.ensures) _ c.args.slice.now c.new.ensures (omega arith))

pub returns-clause-row_major : goal.returns-clause-row_major
returns-clause-row_major g c = cells-row_major (g.Sh.ShapeBuilder.shape_order c.args.shape) _ _ (returns-clause-whole g c) (returns-clause-list g c)

pub returns-clause-cells : goal.returns-clause-cells
returns-clause-cells g c =
    subst (HasInOrder (g.Sh.ShapeBuilder.shape_order c.args.shape) _) (returns-clause-list g c) (cells_in-HasInOrder (g.Sh.ShapeBuilder.shape_order c.args.shape) _ (returns-clause-whole g c))

pub returns-then-not-size_ok-clause-accepts : goal.returns-then-not-size_ok-clause-accepts
returns-then-not-size_ok-clause-accepts g c =
    let over : IsWithinLimit (g.Sh.ShapeBuilder.shape_lengths c.args.shape) → ⊥ = λ limit. false≢true (c.if-not-size_ok.ensures.1 (subst IsWithinLimit (sym c.into_shape_with_order-dim.ensures.lengths) limit)) in
    (λ ok. absurd (false≢true ok), λ w. absurd (over w.0))

pub returns-then-not-size_ok-clause-overflow : goal.returns-then-not-size_ok-clause-overflow
returns-then-not-size_ok-clause-overflow g c =
    let over : IsWithinLimit (g.Sh.ShapeBuilder.shape_lengths c.args.shape) → ⊥ = λ limit. false≢true (c.if-not-size_ok.ensures.1 (subst IsWithinLimit (sym c.into_shape_with_order-dim.ensures.lengths) limit)) in
    is_error _ _ _ c.from_kind.ensures over

pub returns-then-not-size_ok-clause-short : goal.returns-then-not-size_ok-clause-short
returns-then-not-size_ok-clause-short g c =
    let over : IsWithinLimit (g.Sh.ShapeBuilder.shape_lengths c.args.shape) → ⊥ = λ limit. false≢true (c.if-not-size_ok.ensures.1 (subst IsWithinLimit (sym c.into_shape_with_order-dim.ensures.lengths) limit)) in
    is_other_error _ _ _ _ c.from_kind.ensures overflow-apart (λ w. over w.0)

pub returns-clause-accepts : goal.returns-clause-accepts
returns-clause-accepts g c =
    let limit : IsWithinLimit (g.Sh.ShapeBuilder.shape_lengths c.args.shape) = subst IsWithinLimit c.into_shape_with_order-dim.ensures.lengths (c.if-not-size_ok.ensures.0 refl) in
    let same : size (g.Sh.ShapeBuilder.shape_lengths c.args.shape) ≤ length c.args.slice.now = let e = ap size c.into_shape_with_order-dim.ensures.lengths in omega arith in
    (λ _. (limit, same), λ _. refl)

pub returns-clause-overflow : goal.returns-clause-overflow
returns-clause-overflow g c =
    let limit : IsWithinLimit (g.Sh.ShapeBuilder.shape_lengths c.args.shape) = subst IsWithinLimit c.into_shape_with_order-dim.ensures.lengths (c.if-not-size_ok.ensures.0 refl) in
    is_no_error _ _ _ (λ no. no limit)

pub returns-clause-short : goal.returns-clause-short
returns-clause-short g c =
    let same : size (g.Sh.ShapeBuilder.shape_lengths c.args.shape) ≤ length c.args.slice.now = let e = ap size c.into_shape_with_order-dim.ensures.lengths in omega arith in
    is_no_error _ _ _ (λ w. absurd (omega (arith, same, w.1)))
