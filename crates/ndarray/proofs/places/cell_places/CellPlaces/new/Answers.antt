use Rattle.std.proofs.Common.{◌≡◌, sym, ◌∙◌, ap, subst}
use Rattle.ndarray.specs.Index.{row_order}
use Rattle.ndarray.specs.places.CellPlaces.{AreOnceInBox}
use Rattle.ndarray.proofs.moving.CellPlaces.{once-first}
use Rattle.ndarray.proofs.places.cell_places.CellPlaces.new.Goals as goal

pub invariant_of-result : goal.invariant_of-result
invariant_of-result g c =
    let e : c.new-walk.result ≡ row_order c.args.map.lengths = c.new-walk.ensures.list ∙ ap row_order c.raw_dim.ensures.lengths in
    subst (AreOnceInBox c.args.map.lengths) (sym e) (once-first c.args.map.lengths)
