use Rattle.ndarray.proofs.Common.{◌∙◌, refl, assign_row-follows, can-assign-row}
use Rattle.ndarray_examples.specs.Callers.{sum_below}
use Rattle.ndarray_examples.proofs.add_row.Goals as goal

pub add_assign-requires : goal.add_assign-requires
add_assign-requires c = let (n, long) = c.requires.as_long in can-assign-row _ _ c.raw_dim-length.ensures.whole n long _ c.requires.fits

pub returns : goal.returns
returns c =
    let (n, long) = c.requires.as_long in
    assign_row-follows _ _ c.raw_dim-length.ensures.whole n long _ _ (sum_below c.args.table.now c.args.row.now)
    (λ i js x y z above below given. given ∙ rw (above, below) refl)
    c.add_assign.ensures.after
