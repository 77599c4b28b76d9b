-- What those who prove functions over this library cite, by one name: words of std, the definitions of the contracts, and the lemmas for callers. A proof file
-- imports from here alone.
pub use Rattle.std.proofs.Common.{All, Bool, Contains, Err, FitsSigned, IfOk, List, None, Ok, Option, Result, Some, [], ap, append-nil, append_assoc, arith, drop, false, get_or, if◌then◌else◌, inl, inr, int_div, length, length-append, map, max, min, nat_eq, nat_lt, negsuc, of_z, pos, refl, remove, rules, subst, suc, sym, take, take-append-drop, to_z, true, unsigned_abs, w64, zero, ℕ, ℤ, ⊎_elim, ◌%◌, ◌*ℤ◌, ◌*◌, ◌++◌, ◌+ℤ◌, ◌+◌, ◌-ℤ◌, ◌-◌, ◌/◌, ◌<◌, ◌==◌, ◌^◌, ◌||◌, ◌↔◌, ◌∙◌, ◌∷◌, ◌≡◌, ◌≢◌, ◌≤ℤ◌, ◌≤◌, ◌⊎◌}
pub use Rattle.std.proofs.Math.Nat.{add-mod, add-mod-mod, mod-add-mod, mod-lt}
pub use Rattle.std.proofs.lemmas.Bool.{cases_eq, cases_lt, eq-eqb, eqb-false, eqb-true, false≢true, le-ltb, lt-ltb, ltb-false, ltb-true, ne_eqb}
pub use Rattle.std.proofs.lemmas.Bool.Decides.{Decides-int_eq, nat_tests, not_from_Decides}
pub use Rattle.std.proofs.lemmas.Int.{clamps, fold-int_max_bounds, fold-int_max_reached, fold-int_min_bounds, fold-int_min_reached, ints, to_z-of_z}
pub use Rattle.std.proofs.lemmas.Iterator.{YieldsList}
pub use Rattle.std.proofs.lemmas.Iterator.Consumers.{YieldsList-at, YieldsList-from_shown, count_from_yields_List}
pub use Rattle.std.proofs.lemmas.List.{length-drop, length-map, map-append, nil_from_length, take_rest}
pub use Rattle.std.proofs.lemmas.List.Elements.{All-append, All-cons, All-from_get_or, All-head, All-nil, All-push, All-tail}
pub use Rattle.std.proofs.lemmas.List.Folds.{list_any-append, list_any_none}
pub use Rattle.std.proofs.lemmas.List.Sorted.{sum_by-IsPermutation}
pub use Rattle.std.proofs.lemmas.List.Sums.{sum_by-append, sum_by-cons}
pub use Rattle.std.proofs.lemmas.Nat.{div-add-mod'}
pub use Rattle.std.proofs.lemmas.Option.{slice_get_within}
pub use Rattle.std.specs.Int.{int_max, int_min, int_shr}
pub use Rattle.std.specs.Iterator.{AlwaysYields, Yields}
pub use Rattle.std.specs.List.{AllByRecursion, concat, filter, fold, list_all, list_any, slice_split, sum_by, zip}
pub use Rattle.std.specs.Ordering.{int_eq}
pub use Rattle.std.specs.Prelude.{IfErr, IfSome, IsSome, IsTrue, decimal, flat_map, int_le, slice_get, slice_index, string_bytes, ◌&&◌}
pub use Rattle.std.specs.Result.{IsErrAnd}
pub use Rattle.ndarray.specs.AlongAxis.{IsSummableArray, IsTotalOf}
pub use Rattle.ndarray.specs.Broadcast.{BroadcastTogether, broadcast_lengths}
pub use Rattle.ndarray.specs.Chains.{HasColumn, HasMatrix}
pub use Rattle.ndarray.specs.Convolution.{CanPad, HasFullMagnitudesInRange, HasValidMagnitudesInRange, full_convolution, valid_counts, valid_length, valid_products}
pub use Rattle.ndarray.specs.Diagonals.{diagonal_of}
pub use Rattle.ndarray.specs.Elementwise.{CanCombine, CanMap, Combines, Maps}
pub use Rattle.ndarray.specs.Errors.{shape_error}
pub use Rattle.ndarray.specs.Everyday.{combined, lanes_mapped, mapped, same_arrays}
unfoldable pub use Rattle.ndarray.specs.Grid.{cell}
pub use Rattle.ndarray.specs.Grid.{Grid, IsGrid, array_by, grid, one_axis, tabulate}
unfoldable pub use Rattle.ndarray.specs.Index.{row_order}
pub use Rattle.ndarray.specs.Index.{InBox, column_order, size}
pub use Rattle.ndarray.specs.Integers.{int_products, int_sums}
pub use Rattle.ndarray.specs.Joining.{concatenate_error, concatenation, shapes_of, stack_error, stack_of}
pub use Rattle.ndarray.specs.Laws.{ArePartsOf}
pub use Rattle.ndarray.specs.Limits.{IsWithinLimit, nonzero_size}
pub use Rattle.ndarray.specs.Matrices.{IsSameMatrix, Matrix, inner_products, transpose, values_below}
pub use Rattle.ndarray.specs.MatrixLaws.{ProductsAssociate}
pub use Rattle.ndarray.specs.MatrixPowers.{IdentityIsNeutral, identity_matrix}
pub use Rattle.ndarray.specs.MatrixSums.{matrix_sum}
pub use Rattle.ndarray.specs.Orders.{HasInOrder, IsBoxIn, box_in}
pub use Rattle.ndarray.specs.Products.{HasValues, ShapesMultiply, column_of, dot_entries, magnitude_sum, matrix_of, product_lengths, product_of, products_of, value_at, value_or}
pub use Rattle.ndarray.specs.Subviews.{axis_items, lane, lanes_of, window, window_counts, windows_of}
pub use Rattle.ndarray.specs.ScanLaws.{HasRunningTotals, rectangle}
pub use Rattle.ndarray.specs.SumLaws.{AddsUp}
pub use Rattle.ndarray.specs.Sums.{IsSummable, IsSummableBy, total, total_by}
pub use Rattle.ndarray.specs.Triangles.{column_minus_row, lower_triangle, upper_triangle}
pub use Rattle.ndarray.specs.Views.{axis_inserted, axis_item, axis_part, broadcast_to, transpose_of}
pub use Rattle.ndarray.specs.WholeValues.{HasMagnitudesInRange, i64_values, whole_numbers}
pub use Rattle.ndarray.specs.base.Ranks.{rank}
pub use Rattle.ndarray.proofs.algebra.Totals.{op_unit}
pub use Rattle.ndarray.proofs.boxes.Orders.{length-row_order}
pub use Rattle.ndarray.proofs.boxes.Sizes.{length-fits}
pub use Rattle.ndarray.proofs.boxes.ProductShapes.{inner-matrices}
pub use Rattle.ndarray.proofs.boxes.Walks.{rank_in-one}
pub use Rattle.ndarray.proofs.callers.Broadcasting.{AreColumnAndRow, axis_inserted-cell, axis_inserted-whole, broadcast_index-inside, broadcast_index-own, broadcast_index-row, broadcast_to-cell, broadcast_to-own, broadcast_to-row, broadcast_to-whole, broadcasts-itself, broadcasts-row, can-combine-where, cells-meet, column-lengths, combine-follows-where, combined-where, lengths-exchanged, lengths-stretched, outer-cells, outer-lengths, outer-shapes, together-exchanged, together-stretched}
pub use Rattle.ndarray.proofs.callers.Cells.{HasCells-first, along-first, array_by-cell, array_by-whole, beside-at, cell-Some, cell-inside, cells_in-HasInOrder, item-whole, same_grid, tabulate-cell, tabulate-is, tabulate-whole, transpose-cell, transpose_of-transpose_of, transpose_of-whole}
pub use Rattle.ndarray.proofs.callers.Collecting.{All-middle, collect-each, collect-follows, if_ok-both, if_some-both, lanes_of-some, may-gather}
pub use Rattle.ndarray.proofs.callers.ColumnOrder.{cells-transposed}
pub use Rattle.ndarray.proofs.callers.Convolving.{double-sum, filters-same, full-list, full-made, positive-one, single-sum, valid-list, valid-made, valid-one, values-list}
pub use Rattle.ndarray.proofs.callers.Diagonals.{kept-diagonal}
pub use Rattle.ndarray.proofs.callers.Differences.{differ-once, differ-without_cells, differed-once, difference-length, neighbours-at, next-difference}
pub use Rattle.ndarray.proofs.callers.EachCell.{at-each-cell, each-cell, some-cell}
pub use Rattle.ndarray.proofs.callers.Elementwise.{array_by-at, array_by-follows, assign_row-by, assign_row-follows, can-assign-row, can-assign-row-by, can-combine, combine-follows, combined-cells, combines-combined, first-and-rest, lengths-same}
pub use Rattle.ndarray.proofs.callers.EqualSlices.{equal-slices}
pub use Rattle.ndarray.proofs.callers.Folding.{Follows, fold-follows, may-by, may-follow, turns-by}
pub use Rattle.ndarray.proofs.callers.IndexLists.{InBox-get, InBox-length, InBox-set_both, IsBefore-not_itself, box_in-at, box_in-is, box_in-within, length-box_in, rank_in-lt}
pub use Rattle.ndarray.proofs.callers.Joining.{concatenation-cells, if_ok-unless, one_axis-is, only-memory, two-joined, vectors-join}
pub use Rattle.ndarray.proofs.callers.LaneLists.{cell-in_lane, row-list}
pub use Rattle.ndarray.proofs.callers.Lanes.{at_front, cumulate-always, lane-maps, lanes-follow, lanes-summable, select-none}
pub use Rattle.ndarray.proofs.callers.Mapping.{mapped-array_by, mapped-at, maps-follow, maps-follow-twice}
pub use Rattle.ndarray.proofs.callers.MatrixPowers.{identity-neutral, made-first, made-sum, power, power-columns, power-rows, power-same, powers-add, powers-multiply, total-single}
pub use Rattle.ndarray.proofs.callers.MatrixSums.{general-matrix, multiple-matrix, scaled_sum-matrix, sum-matrix}
pub use Rattle.ndarray.proofs.callers.Maxima.{greatest-bounds, greatest-reached}
pub use Rattle.ndarray.proofs.callers.NamedCells.{HasNamedSums, named-all, named-more, named-none, named-room, sum-of_ones}
pub use Rattle.ndarray.proofs.callers.PartialFolds.{folded-value, sums-by_parts}
pub use Rattle.ndarray.proofs.callers.Parts.{first-cells, length-cells, part-cells, part-lengths, rest-cells}
pub use Rattle.ndarray.proofs.callers.ProductChains.{gram, product-of_left, product-on_left, product-on_right, products-same, transpose-multiplies, transpose-product, transpose-symmetric}
pub use Rattle.ndarray.proofs.callers.Products.{below-same, column-cells, entry-product, entry-summable, matrix-by_vector, matrix-cells, matrix-shapes, one-length, product-last, row-product, rows-summable, two-lengths, vector-shapes}
pub use Rattle.ndarray.proofs.callers.Rectangles.{part-whole, rectangle-in_range, window-rectangle}
pub use Rattle.ndarray.proofs.callers.RowOrder.{box_in-rearranges, fold-cells, fold-in_row_order, fold-over-cells, fold-rearranged, in_row, list_all-cells, list_all-in_row_order, list_any-cells, list_any-in_row_order, turns-over-cells}
pub use Rattle.ndarray.proofs.callers.RowsBelow.{row-below}
pub use Rattle.ndarray.proofs.callers.RunningTotals.{scan-leaves, totals-made}
pub use Rattle.ndarray.proofs.callers.SameMatrices.{below-two, block-products-same, column-as, kronecker-same, lengths-reversed, made-as, made-column, made-matrix, made-same, magnitudes-same, matrix-by, own-matrix, product-same, same-back, same-self, same-then, sums-same, transpose-matrix, two-indices}
pub use Rattle.ndarray.proofs.callers.Scanning.{StaysInRange, SumFits, may-scan-sums, may-scan_lanes, scan-folds, scan-folds-in-range, scan-follows, scan-sums}
pub use Rattle.ndarray.proofs.callers.Stacking.{items-stack, stack-by_joining}
pub use Rattle.ndarray.proofs.callers.SummableParts.{axis_item-summable, axis_part-summable, items-summable, window-summable}
pub use Rattle.ndarray.proofs.callers.TableRows.{row-is, row-lanes, rows-mapped}
pub use Rattle.ndarray.proofs.callers.Testing.{HoldsAt, HoldsOf, all-decides, all-holds, all_or_any, any-decides, list_all-at, list_all-each, may-decide, may-test, test-follows, tested-cells, tested-holds, tested-pairs}
pub use Rattle.ndarray.proofs.callers.Totals.{axis_sums, total-append, total-in_range, total-plus, total-swap}
pub use Rattle.ndarray.proofs.callers.TriangleParts.{parts-combine, parts-same}
pub use Rattle.ndarray.proofs.callers.Triangles.{cleared-cell, int_le-false, int_le-true, kept-cell}
pub use Rattle.ndarray.proofs.callers.Updating.{update-follows}
pub use Rattle.ndarray.proofs.callers.Views.{views-compute, views-compute-where, views-gather}
pub use Rattle.ndarray.proofs.callers.Windows.{window-whole, window_count-valid}
pub use Rattle.ndarray.proofs.callers.Writing.{refitted-whole, with_cell-elsewhere, with_cell-here, with_cell-own, with_cell-whole}
pub use Rattle.ndarray.proofs.callers.Zipped.{length-zip, zip-next, zip-over}
pub use Rattle.ndarray.proofs.cells.Cells.{cell-within}
pub use Rattle.ndarray.proofs.cells.Differences.{order-at_most}
pub use Rattle.ndarray.proofs.convolution.Filters.{slice_get-later}
pub use Rattle.ndarray.proofs.convolution.OneAxis.{valid_counts-one, valid_counts-two}
pub use Rattle.ndarray.proofs.joining.Blocks.{slice_get-first, slice_get-rest}
pub use Rattle.ndarray.proofs.lists.Elements.{slice_get-Some}
pub use Rattle.ndarray.proofs.sums.InnerSums.{length-below}
