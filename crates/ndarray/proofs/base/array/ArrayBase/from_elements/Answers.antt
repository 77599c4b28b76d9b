use Rattle.std.proofs.Common.{arith, ◌∙◌, subst}
use Rattle.std.proofs.lemmas.List.{take_all}
use Rattle.ndarray.specs.Index.{size}
use Rattle.ndarray.specs.Orders.{HasInOrder}
use Rattle.ndarray.proofs.cells.Cells.{cells_in-HasInOrder}
use Rattle.ndarray.proofs.strides.Reach.{length-cells_at}
use Rattle.ndarray.proofs.strides.Strides.{Reaches-slice, cells_in-slice}
use Rattle.ndarray.proofs.base.array.ArrayBase.from_elements.Goals as goal

pub invariant_of-result : goal.invariant_of-result
invariant_of-result g c = Reaches-slice c.args.order (g.D.Lengths.numbers c.args.dim) _ c.default_strides-strides.ensures.strides c.requires.limit (g.S.Data.apart c.new.result) _ c.args.items.items c.new.ensures (omega (arith, c.requires.many))

pub returns-clause-whole : goal.returns-clause-whole
returns-clause-whole g c = length-cells_at _ _ _ _ (invariant_of-result g c)

pub returns-clause-list : goal.returns-clause-list
returns-clause-list g c =
    let xs = c.args.items.items in
    let many = c.requires.many in
    cells_in-slice c.args.order (g.D.Lengths.numbers c.args.dim) _ c.default_strides-strides.ensures.strides c.requires.limit _ xs c.new.ensures (omega arith)
    ∙ take_all (size (g.D.Lengths.numbers c.args.dim)) xs (omega arith)

pub returns-clause-cells : goal.returns-clause-cells
returns-clause-cells g c =
    subst (HasInOrder c.args.order _) (returns-clause-list g c) (cells_in-HasInOrder c.args.order _ (returns-clause-whole g c))
