use Rattle.std.proofs.Common.{◌≡◌, ◌∙◌}
use Rattle.std.specs.Prelude.{◌⊎◌}
use Rattle.std.proofs.lemmas.List.Elements.{All-same}
use Rattle.ndarray.proofs.cells.Cells.{All-cells, cells-alike}
use Rattle.ndarray.proofs.lists.Elements.{All-from_recursion, All-to_recursion}
use Rattle.ndarray.proofs.base.array.ArrayBase.from_elem.Goals as goal

pub returns-clause-cells : goal.returns-clause-cells
returns-clause-cells g c =
    let P = λ (y : _). (y ≡ c.args.elem) ⊎ g.A.Clone.is_clone c.args.elem y in
    let a = c.from_elements.result in
    All-to_recursion P a.cells (All-cells P c.into_shape_with_order-dim.result.order a c.from_elements.ensures.whole (All-same P _ _ c.from_elements.ensures.list (All-from_recursion P _ c.in_ok-items.ensures.clones)))

pub returns-clause-same : goal.returns-clause-same
returns-clause-same g c = λ same. cells-alike c.args.elem _ c.into_shape_with_order-dim.result.order c.from_elements.result c.from_elements.ensures.whole (c.from_elements.ensures.list ∙ c.in_ok-items.ensures.same same)
