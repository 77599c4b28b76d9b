use Rattle.std.proofs.Common.{◌≡◌, ◌∙◌, ap, subst}
use Rattle.std.specs.Prelude.{zip}
use Rattle.ndarray.specs.Grid.{IsGrid}
use Rattle.ndarray.specs.Index.{row_order}
use Rattle.ndarray.specs.Limits.{IsWithinLimit}
use Rattle.ndarray.proofs.cells.IndexedCells.{indexed-row_order, indexed-cells, indexed-own, indexed-fits}
use Rattle.ndarray.proofs.base.array.ArrayBase.indexed_iter.Goals as goal

pub returns : goal.returns
returns g c =
    let v = c.args.self.now in
    let same = c.view.ensures.same in
    let whole = subst IsGrid same c.view.ensures.whole in
    let list : c.new.result ≡ zip (row_order v.lengths) v.cells = c.new.ensures.list ∙ ap (λ w. zip (row_order w.lengths) w.cells) same in
    record {
      row_order = indexed-row_order v whole _ list;
      cells = indexed-cells v whole _ list;
      list = list;
      own_cells = indexed-own v whole _ list;
      fits = indexed-fits v whole _ list (subst (λ w. IsWithinLimit w.lengths) same c.new.ensures.limit);
    }
