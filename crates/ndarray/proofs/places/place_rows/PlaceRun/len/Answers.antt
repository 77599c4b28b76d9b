use Rattle.std.proofs.Common.{sym, ◌∙◌, ap, length}
use Rattle.ndarray.proofs.strides.Rows.{length-places_from}
use Rattle.ndarray.proofs.places.place_rows.PlaceRun.len.Goals as goal

pub returns : goal.returns
returns c = sym (length-places_from _ _ _) ∙ ap length c.self.view_is
