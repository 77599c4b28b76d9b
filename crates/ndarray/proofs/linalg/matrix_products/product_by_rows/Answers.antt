use Rattle.std.proofs.Common.{◌∙◌, [], ◌∷◌, ap, get_or, length, map, refl, sym}
use Rattle.std.proofs.lemmas.List.{length-map}
use Rattle.ndarray.specs.Index.{row_order, size}
use Rattle.ndarray.specs.Products.{matrix_entries, matrix_of, product_of}
use Rattle.ndarray.specs.declared.base.shape.Order.TheVariants.{RowMajor}
use Rattle.ndarray.proofs.boxes.Orders.{length-row_order}
use Rattle.ndarray.proofs.cells.Cells.{cells-row_major}
use Rattle.ndarray.proofs.cells.Products.{values-in_row_order, values-none}
use Rattle.ndarray.proofs.linalg.matrix_products.product_by_rows.Goals as goal

pub returns-then-size-eq0 : goal.returns-then-size-eq0
returns-then-size-eq0 g c =
    let v = g.A.Valued in
    let a = c.args.left.now in
    let b = c.args.right.now in
    let left = c.into_pattern-rows.ensures ∙ c.raw_dim.ensures.lengths in
    let right = c.into_pattern-columns.ensures ∙ c.raw_dim-2.ensures.lengths in
    let dim = c.Ix2-dim.ensures ∙ (ap (λ k. get_or k 0 0 ∷ c.into_pattern-columns.result.1 ∷ []) left ∙ ap (λ k. get_or a.lengths 0 0 ∷ get_or k 1 0 ∷ []) right) in
    record {
      made = values-none v (get_or a.lengths 0 0 ∷ get_or b.lengths 1 0 ∷ []) (matrix_entries (product_of v (matrix_of v a) (matrix_of v b))) c.from_elements.result (c.from_elements.ensures.lengths ∙ dim) c.from_elements.ensures.whole
          (ap size (sym dim) ∙ (sym c.size-size.ensures ∙ c.if-size-eq0.true));
      empty = λ none. refl;
    }

pub from_elements-requires-2-clause-many : goal.from_elements-requires-2-clause-many
from_elements-requires-2-clause-many g c =
    let v = g.A.Valued in
    let a = c.args.left.now in
    let b = c.args.right.now in
    let left = c.into_pattern-rows.ensures ∙ c.raw_dim.ensures.lengths in
    let right = c.into_pattern-columns.ensures ∙ c.raw_dim-2.ensures.lengths in
    let dim = c.Ix2-dim.ensures ∙ (ap (λ k. get_or k 0 0 ∷ c.into_pattern-columns.result.1 ∷ []) left ∙ ap (λ k. get_or a.lengths 0 0 ∷ get_or k 1 0 ∷ []) right) in
    let ns = get_or a.lengths 0 0 ∷ get_or b.lengths 1 0 ∷ [] in
    let entries = matrix_entries (product_of v (matrix_of v a) (matrix_of v b)) in
    sym (length-map c.push_rows.new.sums.items v.meaning) ∙ (ap length c.push_rows.ensures ∙ (length-map (row_order ns) entries ∙ (length-row_order ns ∙ ap size (sym dim))))

pub returns : goal.returns
returns g c =
    let v = g.A.Valued in
    let a = c.args.left.now in
    let b = c.args.right.now in
    let left = c.into_pattern-rows.ensures ∙ c.raw_dim.ensures.lengths in
    let right = c.into_pattern-columns.ensures ∙ c.raw_dim-2.ensures.lengths in
    let dim = c.Ix2-dim.ensures ∙ (ap (λ k. get_or k 0 0 ∷ c.into_pattern-columns.result.1 ∷ []) left ∙ ap (λ k. get_or a.lengths 0 0 ∷ get_or k 1 0 ∷ []) right) in
    let r = c.from_elements-2.result in
    let cells = cells-row_major RowMajor r c.push_rows.new.sums.items c.from_elements-2.ensures.whole c.from_elements-2.ensures.list refl in
    record {
      made = values-in_row_order v (get_or a.lengths 0 0 ∷ get_or b.lengths 1 0 ∷ []) (matrix_entries (product_of v (matrix_of v a) (matrix_of v b))) r (c.from_elements-2.ensures.lengths ∙ dim) c.from_elements-2.ensures.whole
          (ap (map v.meaning) cells ∙ c.push_rows.ensures);
      empty = λ none. refl;
    }
