use Rattle.std.proofs.Common.{sym, ◌∙◌, arith}
use Rattle.ndarray.proofs.strides.Rows.{places_from-some}
use Rattle.ndarray.proofs.strides.NoPlaces.{none-left}
use Rattle.ndarray.proofs.places.place_rows.PlaceRow.next.Goals as goal

pub returns-then-self-eq0 : goal.returns-then-self-eq0
returns-then-self-eq0 c = let e = none-left _ _ _ _ c.self.view_is c.if-self-eq0.true in (e, e)

pub returns : goal.returns
returns c = sym c.self.view_is ∙ places_from-some _ _ c.self.inside.left (omega (arith, c.if-self-eq0.false))
