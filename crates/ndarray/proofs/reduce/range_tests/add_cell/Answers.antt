use Rattle.std.proofs.Common.{◌++◌, ◌+◌, ap, drop, map}
use Rattle.ndarray.proofs.sums.InnerSums.{drop-next}
use Rattle.ndarray.proofs.sums.SignedSums.{AddedApart-added}
use Rattle.ndarray.proofs.reduce.range_tests.add_cell.Goals as goal

pub returns : goal.returns
returns g c =
    let v = g.A.Number.value in
    let exact = g.met.A.Integral.exact_law in
    let cells = c.args.cells.now in
    let i = c.args.i in
    let x = c.index-cells-i.result in
    let next = drop-next cells i x c.requires c.index-cells-i.is in
    let added = c.add_by_sign.ensures in
    λ whole rest h. AddedApart-added g.A.Number.fits whole (map v (drop i cells) ++ rest) (map v (drop (i + 1) cells) ++ rest) (v x) v c.args.sums.up c.args.sums.down
    (ap (λ l. map v l ++ rest) next) h (g.met.A.Zero.zero_fits_law exact) (λ y z t. g.A.Number.between_law y z t exact)
    (λ s. s.up) (λ s. s.down) c.add_by_sign.result added.up added.down
