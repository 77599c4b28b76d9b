use Rattle.std.proofs.Common.{sym}
use Rattle.ndarray.proofs.strides.Rows.{row-places}
use Rattle.ndarray.proofs.places.place_rows.PlaceRow.along.Goals as goal

pub returns : goal.returns
returns g c =
    let l = c.args.layout.now in
    let r = c.args.row.now in
    rw (c.place.ensures, c.stride.ensures) (sym (row-places l.start (g.D.Lengths.numbers l.strides) r.axis r.count (g.D.Lengths.numbers r.first) c.requires))
