use Rattle.std.proofs.Common.{sym}
use Rattle.ndarray.proofs.strides.Reach.{length-cells_at, grid_at-same, Reaches-same}
use Rattle.ndarray.proofs.regions.Slots.{held-slice}
use Rattle.ndarray.proofs.base.view_mut.Parts.into_view.Goals as goal

pub invariant_of-result : goal.invariant_of-result
invariant_of-result g c = Reaches-same _ _ _ _ _ (λ x. x) (λ p. sym (held-slice _ _ c.of.ensures.value p)) c.requires

pub returns : goal.returns
returns g c = record {
  same = grid_at-same _ _ _ _ _ (held-slice _ _ c.of.ensures.value);
  whole = length-cells_at _ _ _ _ (invariant_of-result g c);
}
