use Rattle.ndarray.proofs.cells.UpdatedCells.{updates-collect}
use Rattle.ndarray.proofs.ops.computing.update_cells_beside.Goals as goal

pub returns-in-Ok-clause-ran : goal.returns-in-Ok-clause-ran
returns-in-Ok-clause-ran g c =
    let (o, u) = c.in-Ok.ensures.ran in
    (o, updates-collect _ _ o _ _ _ c.in-Ok.ensures.whole u)

pub returns-in-Err-clause-stopped : goal.returns-in-Err-clause-stopped
returns-in-Err-clause-stopped g c =
    let (o, u) = c.in-Err.ensures.ran in
    (o, _, u)
