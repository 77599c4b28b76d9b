use Rattle.std.proofs.Common.{◌∙◌, ℕ, List, [], None, ap, refl, sym}
use Rattle.ndarray.specs.Index.{size}
use Rattle.ndarray.specs.Orders.{box_in}
use Rattle.ndarray.specs.order.Rows.{rows_in}
use Rattle.ndarray.specs.declared.zip.row_items.RowItems.{RowItems}
use Rattle.ndarray.specs.zip.RowItems.{GivesFirst, HoldsItems}
use Rattle.ndarray.proofs.boxes.Orders.{length-box_in}
use Rattle.ndarray.proofs.boxes.Rows.{rows-joined, rows-within}
use Rattle.ndarray.proofs.runs.RowItems.{yields-first}
use Rattle.ndarray.proofs.zip.row_items.AnyRun.run.Given.{Over}
use Rattle.ndarray.proofs.zip.row_items.AnyRun.run.Goals as goal

-- at first all items are to come
start : (g : Over) (c : goal.After-into_rows g) → HoldsItems g.P.Rows.Iterator.next_gives g.P.Rows.Iterator.can_next (g.P.NdProducer.row_form c.args.self) g.P.RowRun.Iterator.next_gives g.P.RowRun.Iterator.can_next (g.P.NdProducer.yields_at c.args.self) None c.into_rows.result (box_in c.args.order (g.P.Shaped.lengths c.args.self))
start g c =
    let o = c.args.order in
    let ns = g.P.Shaped.lengths c.args.self in
    record {
      here = [];
      others = rows_in o ns;
      parts = rows-joined o ns;
      begun = refl;
      can = c.into_rows.ensures.can;
      gives = c.into_rows.ensures.gives.from;
      some = λ k d lt. (rows-within o ns k d lt).0;
    }

pub returns-clause-can : goal.returns-clause-can
returns-clause-can g c =
    let o = c.args.order in
    let ns = g.P.Shaped.lengths c.args.self in
    (c.args.self, (box_in o ns, (start g c, length-box_in o ns ∙ (ap size (sym c.raw_dim.ensures.lengths) ∙ sym c.size-left.ensures))))

pub returns-clause-gives : goal.returns-clause-gives
returns-clause-gives g c = record {
  from = yields-first {S = RowItems g.row.P.Denot g.row.P-Item.Denot g.row.P-Dim.Denot g.row.P-Row.Denot g.row.P-Rows.Denot g.row.P-RowRun.Denot g.row.P-FlatRow.Denot} _ _
      (λ s is. HoldsItems g.P.Rows.Iterator.next_gives g.P.Rows.Iterator.can_next (g.P.NdProducer.row_form c.args.self) g.P.RowRun.Iterator.next_gives g.P.RowRun.Iterator.can_next (g.P.NdProducer.yields_at c.args.self) s.row s.rows is)
      (λ s o t is (step : (p : g.row.P.Denot) (js : List (List ℕ)) → HoldsItems g.P.Rows.Iterator.next_gives g.P.Rows.Iterator.can_next (g.P.NdProducer.row_form p) g.P.RowRun.Iterator.next_gives g.P.RowRun.Iterator.can_next (g.P.NdProducer.yields_at p) s.row s.rows js → GivesFirst (g.P.NdProducer.yields_at p) (HoldsItems g.P.Rows.Iterator.next_gives g.P.Rows.Iterator.can_next (g.P.NdProducer.row_form p) g.P.RowRun.Iterator.next_gives g.P.RowRun.Iterator.can_next (g.P.NdProducer.yields_at p) t.row t.rows) js o) h. step c.args.self is h)
      _ _ (start g c);
}
