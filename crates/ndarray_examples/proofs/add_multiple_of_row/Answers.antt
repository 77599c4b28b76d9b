use Rattle.ndarray.proofs.Common.{◌∙◌, refl, assign_row-follows, can-assign-row}
use Rattle.ndarray_examples.specs.Callers.{multiple_added}
use Rattle.residue.specs.Residue.{residue_sums}
use Rattle.ndarray_examples.proofs.add_multiple_of_row.Goals as goal

pub scaled_add-requires : goal.scaled_add-requires
scaled_add-requires c = let (n, long) = c.requires.as_long in (λ a h. h, can-assign-row _ _ c.raw_dim-length.ensures.whole n long _ (λ i js x y above below. (tt, tt)))

pub returns : goal.returns
unfolding residue_sums
returns c =
    let (n, long) = c.requires.as_long in
    assign_row-follows _ _ c.raw_dim-length.ensures.whole n long _ _ (multiple_added c.args.factor c.args.table.now c.args.row.now)
    (λ i js x y z above below given. given ∙ rw (above, below) refl)
    c.scaled_add.ensures
