use Rattle.ndarray.proofs.algebra.RangesOfParts.{chunks-stay, items-stay, lanes-stay, parts-stay, slices-stay, windows-stay}
use Rattle.ndarray.proofs.laws.ranges_pass.Goals as goal

pub returns : goal.returns
returns g c = record {
  parts = parts-stay g.A.Valued.addition g.A.Valued.InRange g.A.Valued.meaning;
  slices = slices-stay g.A.Valued.addition g.A.Valued.InRange g.A.Valued.meaning;
  items = items-stay g.A.Valued.addition g.A.Valued.InRange g.A.Valued.meaning;
  lanes = lanes-stay g.A.Valued.addition g.A.Valued.InRange g.A.Valued.meaning;
  windows = windows-stay g.A.Valued.addition g.A.Valued.InRange g.A.Valued.meaning;
  chunks = chunks-stay g.A.Valued.addition g.A.Valued.InRange g.A.Valued.meaning;
  part_products = parts-stay g.A.Valued.multiplication g.A.Valued.InRange g.A.Valued.meaning;
  slice_products = slices-stay g.A.Valued.multiplication g.A.Valued.InRange g.A.Valued.meaning;
  item_products = items-stay g.A.Valued.multiplication g.A.Valued.InRange g.A.Valued.meaning;
  lane_products = lanes-stay g.A.Valued.multiplication g.A.Valued.InRange g.A.Valued.meaning;
  window_products = windows-stay g.A.Valued.multiplication g.A.Valued.InRange g.A.Valued.meaning;
  chunk_products = chunks-stay g.A.Valued.multiplication g.A.Valued.InRange g.A.Valued.meaning;
}
