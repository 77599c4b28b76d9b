use Rattle.std.proofs.Common.{◌≡◌, ◌≢◌, ℕ, List, sym, ◌∙◌, ap, subst}
use Rattle.ndarray.specs.Index.{InBox}
use Rattle.ndarray.specs.base.Places.{place}
use Rattle.ndarray.specs.base.PlaceMap.{LiesApart}
use Rattle.ndarray.specs.base.CellLayouts.{place_in}
use Rattle.ndarray.proofs.moving.CellPlaces.{lies-alone, if_some}
use Rattle.ndarray.proofs.base.place_map.PlaceMap.index_of.Goals as goal

pub returns-clause-alone : goal.returns-clause-alone
returns-clause-alone g c =
    let l = c.self.inside.layout in
    let to : (index : g.row.D.Denot) → InBox (g.D.Lengths.numbers l.dim) (g.D.Lengths.numbers index) × (place l.start (g.D.Lengths.numbers l.strides) (g.D.Lengths.numbers index) ≡ c.args.at) → (is : List ℕ) → InBox c.args.self.now.lengths is → place_in c.args.self.now is ≡ c.args.at → is ≡ g.D.Lengths.numbers index = λ index f is b e.
    lies-alone c.args.self.now (subst LiesApart c.self.view_is c.self.invariant) is (g.D.Lengths.numbers index) b
    (subst (λ m. InBox m.lengths (g.D.Lengths.numbers index)) c.self.view_is f.0)
    (e ∙ (sym f.1 ∙ ap (λ m. place_in m (g.D.Lengths.numbers index)) c.self.view_is)) in
    if_some c.index_of.result ((is : List ℕ) → InBox (g.D.Lengths.numbers l.dim) is → place l.start (g.D.Lengths.numbers l.strides) is ≢ c.args.at) _ _ c.index_of.ensures to
