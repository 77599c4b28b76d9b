use Rattle.std.proofs.Common.{refl}
use Rattle.ndarray.proofs.cells.IndexedCells.{indexed-row_order, indexed-cells, indexed-own, indexed-fits}
use Rattle.ndarray.proofs.base.array.ArrayBase.indexed_iter_mut.Goals as goal

pub returns : goal.returns
returns g c =
    let v = c.args.self.now in
    let e = c.places_mut.ensures in (
      (refl, λ w. refl),
      record {
        writes_back = tt;
        row_order = indexed-row_order v e.whole _ e.list;
        cells = indexed-cells v e.whole _ e.list;
        list = e.list;
        own_cells = indexed-own v e.whole _ e.list;
        fits = indexed-fits v e.whole _ e.list e.limit;
      },
    )
