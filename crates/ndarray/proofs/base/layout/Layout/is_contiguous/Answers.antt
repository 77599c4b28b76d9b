use Rattle.std.proofs.Common.{◌∙◌, sym}
use Rattle.ndarray.proofs.strides.PlacesInOrder.{none-follow, rows-follow}
use Rattle.ndarray.proofs.base.layout.Layout.is_contiguous.Goals as goal

pub returns-then-size-eq0 : goal.returns-then-size-eq0
returns-then-size-eq0 g c = λ _. none-follow _ _ _ (sym c.size.ensures ∙ c.if-size-eq0.true)

pub returns : goal.returns
returns g c = λ yes. rows-follow _ _ _ (c.is_row_major.ensures.places.0 yes)
