use Rattle.ndarray.proofs.Common.{rules, ◌≡◌, ◌≢◌, ◌∙◌, ◌*ℤ◌, ◌*◌, ◌∷◌, [], ℤ, FitsSigned, ap, arith, refl, subst, sym, w64, slice_index, BroadcastTogether, broadcast_lengths, CanCombine, Combines, Grid, array_by, size, IsWithinLimit, axis_inserted, AreColumnAndRow, can-combine-where, column-lengths, combine-follows-where, combined-where, outer-cells, outer-lengths, outer-shapes, one-length}
use Rattle.ndarray_examples.specs.RangeTests.{AreProductsInRange, product_of_two}
use Rattle.ndarray_examples.proofs.range_tests.multiplication_table.Goals as goal

module _ (x column y : Grid ℤ) (v : AreColumnAndRow x column y) where
  in-range : CanCombine column y (λ a b. FitsSigned w64 (a *ℤ b)) → AreProductsInRange x y
  in-range can i j a b here there = combined-where column y _ (outer-cells x column y v can.shapes) _ can (i ∷ j ∷ []) a b (refl, here, there)

  can-multiply : BroadcastTogether column.lengths y.lengths → AreProductsInRange x y → CanCombine column y (λ a b. FitsSigned w64 (a *ℤ b))
  can-multiply shapes range = can-combine-where column y _ (outer-cells x column y v shapes) shapes _ (λ is a b p. range (slice_index is 0) (slice_index is 1) a b p.1 p.2)

  is-table : BroadcastTogether column.lengths y.lengths → (r : Grid ℤ) → Combines column y (λ a b z. z ≡ a *ℤ b) r → r ≡ array_by (slice_index x.lengths 0 ∷ slice_index y.lengths 0 ∷ []) (product_of_two x y)
  is-table shapes r = combine-follows-where column y _ (outer-cells x column y v shapes) _ r (product_of_two x y) _ (outer-lengths x column y v) (λ is a b z p e. e ∙ rw (p.1, p.2) refl)

  -- where the first has no cells, the table's lengths are within the limit, and neither the column nor the table has cells
  none-shapes : slice_index x.lengths 0 ≡ 0 → IsWithinLimit y.lengths → BroadcastTogether column.lengths y.lengths
  none-shapes none limit = outer-shapes x column y v (subst (λ k. IsWithinLimit (k ∷ slice_index y.lengths 0 ∷ [])) (sym none) (subst IsWithinLimit (one-length y.lengths v.one_too) limit))

  none-column : slice_index x.lengths 0 ≡ 0 → size column.lengths ≡ 0
  none-column none = ap size (column-lengths x column y v) ∙ ap (λ k. k * 1) none

  none-table : slice_index x.lengths 0 ≡ 0 → size (broadcast_lengths column.lengths y.lengths) ≡ 0
  none-table none = ap size (outer-lengths x column y v) ∙ (ap (λ k. k * (slice_index y.lengths 0 * 1)) none ∙ omega arith)

pub returns-then-not-broadcast_ok-clause-error : goal.returns-then-not-broadcast_ok-clause-error
returns-then-not-broadcast_ok-clause-error g c =
    let v : AreColumnAndRow c.args.x.now c.insert_axis-column.result c.args.y.now = record { one = c.raw_dim.ensures.axes; one_too = c.raw_dim-2.ensures.axes; whole = c.raw_dim.ensures.whole; whole_too = c.raw_dim-2.ensures.whole; inserted = c.insert_axis-column.ensures.value ∙ ap (λ h. axis_inserted h 1) c.view.ensures.same } in
    (λ limit. absurd (let on = c.if-not-broadcast_ok.ensures.1 (outer-shapes _ _ _ v limit) in cc), λ none. absurd (let on = c.if-not-broadcast_ok.ensures.1 (none-shapes _ _ _ v none c.raw_dim-2.ensures.limit) in cc))

pub returns-then-not-mul_fits-clause-when : goal.returns-then-not-mul_fits-clause-when
returns-then-not-mul_fits-clause-when g c =
    let v : AreColumnAndRow c.args.x.now c.insert_axis-column.result c.args.y.now = record { one = c.raw_dim.ensures.axes; one_too = c.raw_dim-2.ensures.axes; whole = c.raw_dim.ensures.whole; whole_too = c.raw_dim-2.ensures.whole; inserted = c.insert_axis-column.ensures.value ∙ ap (λ h. axis_inserted h 1) c.view.ensures.same } in
    (λ off. absurd cc, λ range. c.if-not-mul_fits.ensures.exact.1 (can-multiply _ _ _ v (c.if-not-broadcast_ok.ensures.0 refl) range))

pub returns-in_err-copy-clause-error : goal.returns-in_err-copy-clause-error
returns-in_err-copy-clause-error g c =
    let v : AreColumnAndRow c.args.x.now c.insert_axis-column.result c.args.y.now = record { one = c.raw_dim.ensures.axes; one_too = c.raw_dim-2.ensures.axes; whole = c.raw_dim.ensures.whole; whole_too = c.raw_dim-2.ensures.whole; inserted = c.insert_axis-column.ensures.value ∙ ap (λ h. axis_inserted h 1) c.view.ensures.same } in
    let range : AreProductsInRange c.args.x.now c.args.y.now = in-range _ _ _ v (c.if-not-mul_fits.ensures.exact.0 refl) in
    let some : slice_index c.args.x.now.lengths 0 ≢ 0 = λ none. absurd (let on = c.in_err-copy.ensures.empty (none-column _ _ _ v none) in cc) in
    search (rules, range, some)

pub returns-in_err-products-clause-error : goal.returns-in_err-products-clause-error
returns-in_err-products-clause-error g c =
    let v : AreColumnAndRow c.args.x.now c.insert_axis-column.result c.args.y.now = record { one = c.raw_dim.ensures.axes; one_too = c.raw_dim-2.ensures.axes; whole = c.raw_dim.ensures.whole; whole_too = c.raw_dim-2.ensures.whole; inserted = c.insert_axis-column.ensures.value ∙ ap (λ h. axis_inserted h 1) c.view.ensures.same } in
    let range : AreProductsInRange c.args.x.now c.args.y.now = in-range _ _ _ v (c.if-not-mul_fits.ensures.exact.0 refl) in
    let same : size (broadcast_lengths c.in_ok-copy.copy.lengths c.args.y.now.lengths) ≡ size (broadcast_lengths c.insert_axis-column.result.lengths c.args.y.now.lengths) = ap (λ ns. size (broadcast_lengths ns c.args.y.now.lengths)) c.in_ok-copy.ensures.lengths in
    let some : slice_index c.args.x.now.lengths 0 ≢ 0 = λ none. absurd (let on = c.in_err-products.ensures.empty (same ∙ none-table _ _ _ v none) in cc) in
    search (rules, range, some)

pub returns-clause-when : goal.returns-clause-when
returns-clause-when g c =
    let v : AreColumnAndRow c.args.x.now c.insert_axis-column.result c.args.y.now = record { one = c.raw_dim.ensures.axes; one_too = c.raw_dim-2.ensures.axes; whole = c.raw_dim.ensures.whole; whole_too = c.raw_dim-2.ensures.whole; inserted = c.insert_axis-column.ensures.value ∙ ap (λ h. axis_inserted h 1) c.view.ensures.same } in
    (λ _. in-range _ _ _ v (c.if-not-mul_fits.ensures.exact.0 refl), λ _. refl)

pub returns-clause-products : goal.returns-clause-products
returns-clause-products g c =
    let v : AreColumnAndRow c.args.x.now c.insert_axis-column.result c.args.y.now = record { one = c.raw_dim.ensures.axes; one_too = c.raw_dim-2.ensures.axes; whole = c.raw_dim.ensures.whole; whole_too = c.raw_dim-2.ensures.whole; inserted = c.insert_axis-column.ensures.value ∙ ap (λ h. axis_inserted h 1) c.view.ensures.same } in
    let copied : c.in_ok-copy.copy ≡ c.insert_axis-column.result = c.in_ok-copy.ensures.same (λ a b e. e) in
    is-table _ _ _ v (c.if-not-broadcast_ok.ensures.0 refl) c.in_ok-products.products (subst (λ h. Combines h c.args.y.now (λ a b z. z ≡ a *ℤ b) c.in_ok-products.products) copied c.in_ok-products.ensures.made)
