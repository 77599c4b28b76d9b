use Rattle.std.proofs.Common.{◌≡◌, ◌∙◌, ◌*◌, ◌++◌, [], ◌∷◌, ap, arith, get_or, length, map, refl, sym}
use Rattle.std.proofs.lemmas.List.{length-map}
use Rattle.ndarray.specs.Index.{size}
use Rattle.ndarray.specs.Products.{matrix_of, product_of, row_entries, row_of}
use Rattle.ndarray.specs.linalg.RowSums.{row_sums}
use Rattle.ndarray.specs.declared.base.shape.Order.TheVariants.{RowMajor}
use Rattle.ndarray.proofs.cells.Cells.{cells-row_major}
use Rattle.ndarray.proofs.cells.Products.{values-in_row_order}
use Rattle.ndarray.proofs.cells.RowProducts.{values-one}
use Rattle.ndarray.proofs.sums.InnerSums.{length-below}
use Rattle.ndarray.proofs.linalg.matrix_products.row_product.Goals as goal

pub from_elements-requires-clause-many : goal.from_elements-requires-clause-many
from_elements-requires-clause-many g c =
    let v = g.A.Valued in
    let x = c.args.x.now in
    let b = c.args.right.now in
    let columns = ap (λ k. get_or k 1 0) (c.into_pattern-columns.ensures ∙ c.raw_dim.ensures.lengths) in
    let values = c.push_row.ensures.values ∙ ap (λ l. map v.meaning l ++ row_sums v x b) c.in_ok-sums.ensures.items in
    let many = sym (length-map c.push_row.new.sums.items v.meaning) ∙ (ap length values ∙ length-below (get_or b.lengths 1 0) ((product_of v (row_of v x) (matrix_of v b)).cell 0)) in
    let dim : size c.Ix1.result.0 ≡ c.into_pattern-columns.result.1 * 1 = ap size c.Ix1.ensures in
    omega (arith, columns, many, dim)

pub returns : goal.returns
returns g c =
    let v = g.A.Valued in
    let x = c.args.x.now in
    let b = c.args.right.now in
    let columns = ap (λ k. get_or k 1 0) (c.into_pattern-columns.ensures ∙ c.raw_dim.ensures.lengths) in
    let values = c.push_row.ensures.values ∙ ap (λ l. map v.meaning l ++ row_sums v x b) c.in_ok-sums.ensures.items in
    let entries = row_entries (product_of v (row_of v x) (matrix_of v b)) in
    let r = c.from_elements.result in
    let cells = cells-row_major RowMajor r c.push_row.new.sums.items c.from_elements.ensures.whole c.from_elements.ensures.list refl in
    record {
      made = values-in_row_order v (get_or b.lengths 1 0 ∷ []) entries r (c.from_elements.ensures.lengths ∙ (c.Ix1.ensures ∙ ap (λ n. n ∷ []) columns)) c.from_elements.ensures.whole (ap (map v.meaning) cells ∙ (values ∙ sym (values-one entries (get_or b.lengths 1 0))));
      empty = λ none. refl;
    }
