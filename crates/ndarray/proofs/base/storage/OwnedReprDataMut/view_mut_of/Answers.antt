use Rattle.std.proofs.Common.{◌∙◌}
use Rattle.ndarray.proofs.base.storage.OwnedReprDataMut.view_mut_of.Goals as goal

pub returns : goal.returns
returns g c = record {
  same = c.into_view.ensures.same ∙ c.parts_mut.ensures.same;
  whole = c.into_view.ensures.whole;
}
