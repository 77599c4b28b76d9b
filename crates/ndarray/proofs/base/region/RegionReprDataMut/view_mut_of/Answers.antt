use Rattle.ndarray.proofs.strides.Reach.{length-cells_at}
use Rattle.ndarray.proofs.base.region.RegionReprDataMut.view_mut_of.Goals as goal

pub returns : goal.returns
returns g c = record {
  same = rw (c.copied-layout.ensures.start, c.copied-layout.ensures.dim, c.copied-layout.ensures.strides) c.reborrow-storage.ensures.same;
  whole = rw (c.copied-layout.ensures.start, c.copied-layout.ensures.dim, c.copied-layout.ensures.strides) (length-cells_at _ _ _ _ c.reborrow-storage.ensures.reaches);
}
