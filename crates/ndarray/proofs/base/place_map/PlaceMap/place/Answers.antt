use Rattle.std.proofs.Common.{length, sym, ◌∙◌, ap, subst}
use Rattle.ndarray.specs.base.PlaceMap.{LiesApart}
use Rattle.ndarray.specs.base.CellLayouts.{place_in}
use Rattle.ndarray.proofs.boxes.Boxes.{InBox-length}
use Rattle.ndarray.proofs.moving.CellPlaces.{lies-alone}
use Rattle.ndarray.proofs.base.place_map.PlaceMap.place.Goals as goal

pub place-requires : goal.place-requires
place-requires g c = c.self.invariant.as_many ∙ (ap (λ m. length m.lengths) c.self.view_is ∙ sym (InBox-length _ _ c.requires))

pub returns-clause-alone : goal.returns-clause-alone
returns-clause-alone g c = λ is b e. lies-alone c.args.self.now (subst LiesApart c.self.view_is c.self.invariant) is _ b c.requires (e ∙ (c.place.ensures ∙ ap (λ m. place_in m (g.D.Lengths.numbers c.args.index.now)) c.self.view_is))
