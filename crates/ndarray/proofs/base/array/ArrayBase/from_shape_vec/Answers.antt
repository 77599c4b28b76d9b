use Rattle.std.proofs.Common.{◌≡◌, ◌≢◌, ap, length, refl, subst, sym, ◌∙◌}
use Rattle.std.proofs.lemmas.Bool.{false≢true}
use Rattle.ndarray.specs.Index.{size}
use Rattle.ndarray.specs.Limits.{IsWithinLimit}
use Rattle.ndarray.specs.Orders.{cells_in}
use Rattle.ndarray.proofs.cells.Cells.{cells-row_major}
use Rattle.ndarray.proofs.boxes.ShapeErrors.{outside-apart, overflow-apart, is_error, is_other_error, is_no_error}
use Rattle.ndarray.proofs.base.array.ArrayBase.from_shape_vec.Goals as goal

pub returns-clause-row_major : goal.returns-clause-row_major
returns-clause-row_major g c =
    let a = c.from_elements.result in
    cells-row_major (g.Sh.ShapeBuilder.shape_order c.args.shape) a _ c.from_elements.ensures.whole
    (ap (λ o. cells_in o a) (sym c.into_shape_with_order-dim.ensures.order) ∙ c.from_elements.ensures.list)

pub returns-then-not-size_ok-clause-accepts : goal.returns-then-not-size_ok-clause-accepts
returns-then-not-size_ok-clause-accepts g c =
    let over : IsWithinLimit (g.Sh.ShapeBuilder.shape_lengths c.args.shape) → ⊥ = λ limit. false≢true (c.if-not-size_ok.ensures.1 (subst IsWithinLimit (sym c.into_shape_with_order-dim.ensures.lengths) limit)) in
    (λ ok. absurd (false≢true ok), λ w. absurd (over w.0))

pub returns-then-not-size_ok-clause-overflow : goal.returns-then-not-size_ok-clause-overflow
returns-then-not-size_ok-clause-overflow g c =
    let over : IsWithinLimit (g.Sh.ShapeBuilder.shape_lengths c.args.shape) → ⊥ = λ limit. false≢true (c.if-not-size_ok.ensures.1 (subst IsWithinLimit (sym c.into_shape_with_order-dim.ensures.lengths) limit)) in
    is_error _ _ _ c.from_kind.ensures over

pub returns-then-not-size_ok-clause-other : goal.returns-then-not-size_ok-clause-other
returns-then-not-size_ok-clause-other g c =
    let over : IsWithinLimit (g.Sh.ShapeBuilder.shape_lengths c.args.shape) → ⊥ = λ limit. false≢true (c.if-not-size_ok.ensures.1 (subst IsWithinLimit (sym c.into_shape_with_order-dim.ensures.lengths) limit)) in
    is_other_error _ _ _ _ c.from_kind.ensures overflow-apart (λ w. over w.0)

pub returns-then-size-len-clause-accepts : goal.returns-then-size-len-clause-accepts
returns-then-size-len-clause-accepts g c =
    let many : size (g.Sh.ShapeBuilder.shape_lengths c.args.shape) ≢ length c.args.v.items = λ e. c.if-size-len.true (cc) in
    (λ ok. absurd (false≢true ok), λ w. absurd (many w.1))

pub returns-then-size-len-clause-overflow : goal.returns-then-size-len-clause-overflow
returns-then-size-len-clause-overflow g c =
    let limit : IsWithinLimit (g.Sh.ShapeBuilder.shape_lengths c.args.shape) = subst IsWithinLimit c.into_shape_with_order-dim.ensures.lengths (c.if-not-size_ok.ensures.0 refl) in
    is_other_error _ _ _ _ c.from_kind-then-size-len.ensures outside-apart (λ no. no limit)

pub returns-then-size-len-clause-other : goal.returns-then-size-len-clause-other
returns-then-size-len-clause-other g c =
    let limit : IsWithinLimit (g.Sh.ShapeBuilder.shape_lengths c.args.shape) = subst IsWithinLimit c.into_shape_with_order-dim.ensures.lengths (c.if-not-size_ok.ensures.0 refl) in
    let many : size (g.Sh.ShapeBuilder.shape_lengths c.args.shape) ≢ length c.args.v.items = λ e. c.if-size-len.true (cc) in
    is_error _ _ _ c.from_kind-then-size-len.ensures (limit, many)

pub returns-clause-accepts : goal.returns-clause-accepts
returns-clause-accepts g c =
    let limit : IsWithinLimit (g.Sh.ShapeBuilder.shape_lengths c.args.shape) = subst IsWithinLimit c.into_shape_with_order-dim.ensures.lengths (c.if-not-size_ok.ensures.0 refl) in
    let same : size (g.Sh.ShapeBuilder.shape_lengths c.args.shape) ≡ length c.args.v.items = cc in
    (λ _. (limit, same), λ _. refl)

pub returns-clause-overflow : goal.returns-clause-overflow
returns-clause-overflow g c =
    let limit : IsWithinLimit (g.Sh.ShapeBuilder.shape_lengths c.args.shape) = subst IsWithinLimit c.into_shape_with_order-dim.ensures.lengths (c.if-not-size_ok.ensures.0 refl) in
    is_no_error _ _ _ (λ no. no limit)

pub returns-clause-other : goal.returns-clause-other
returns-clause-other g c =
    let same : size (g.Sh.ShapeBuilder.shape_lengths c.args.shape) ≡ length c.args.v.items = cc in
    is_no_error _ _ _ (λ w. w.1 same)
