use Rattle.std.proofs.Common.{sym}
use Rattle.ndarray.proofs.strides.Reach.{cell_found, cell_not_found}
use Rattle.ndarray.proofs.base.array.ArrayBase.cell.Goals as goal

pub returns-in-Some-clause-value : goal.returns-in-Some-clause-value
returns-in-Some-clause-value g c =
    let a = c.self.inside in
    sym (cell_found (g.S.Data.at a.storage) (g.D.Lengths.numbers a.layout.dim) a.layout.start (g.D.Lengths.numbers a.layout.strides) _ _ c.in-Some.place _ c.self.invariant c.self.view_is c.in-Some.ensures.0 c.in-Some.ensures.1 c.element.ensures)

pub returns-in-None-clause-value : goal.returns-in-None-clause-value
returns-in-None-clause-value g c =
    let a = c.self.inside in
    sym (cell_not_found (g.S.Data.at a.storage) (g.D.Lengths.numbers a.layout.dim) a.layout.start (g.D.Lengths.numbers a.layout.strides) _ _ c.self.view_is c.in-None.ensures)
