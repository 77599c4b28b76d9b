use Rattle.std.proofs.Common.{◌≡◌, ◌∙◌, ap, refl, subst}
use Rattle.ndarray.specs.Grid.{cell}
use Rattle.ndarray.specs.Index.{InBox}
use Rattle.ndarray.specs.Products.{AddsScaled}
use Rattle.ndarray.proofs.callers.Collecting.{array_by-at, may-gather}
use Rattle.ndarray.proofs.cells.Cells.{cell-inside}
use Rattle.ndarray.proofs.cells.CollectedCells.{Collects-at}
use Rattle.ndarray.proofs.cells.UpdatedCells.{updates-collect}
use Rattle.ndarray.proofs.linalg.general.accumulate.Goals as goal

pub try_update-requires-clause-callable : goal.try_update-requires-clause-callable
try_update-requires-clause-callable g c = λ o. may-gather _ _ _ _ (λ i x r k s h. h.1) _ o
    (λ i x b s.
    let at = array_by-at _ (λ is. is) c.of-lists.result i _ c.of-lists.ensures (cell-inside c.of-lists.result i _ s.1) s.1 in
    c.requires x.1 x.0 (ap (λ j. cell c.args.array.now j) at ∙ s.0))

pub returns : goal.returns
returns g c =
    let (o, u) = c.in-Ok.ensures.ran in
    let whole = c.in-Ok.ensures.whole in
    let ran = updates-collect _ _ o _ _ _ whole u in
    let v = g.A.Valued in
    record {
      lengths = ran.lengths;
      whole = whole;
      cells = λ is z e.
          let b = subst (λ ms. InBox ms is) ran.lengths (cell-inside c.try_update.new.array is z e) in
          let k = Collects-at _ _ (λ f. (f.sums ≡ c.args.sums) × (f.alpha ≡ c.args.alpha) × (f.beta ≡ c.args.beta)) _
          (λ i f x z h b y n k. (ap (λ f. f.sums) k.1 ∙ n.0, ap (λ f. f.alpha) k.1 ∙ n.1, ap (λ f. f.beta) k.1 ∙ n.2)) o _ c.try_update.new.array (refl, refl, refl) ran is b z e in
          let (s, computed, added) = k.given.0 in
          let there = k.yielded in (
            k.item.0,
            there.0,
            k.item.1,
            s,
            array_by-at _ (λ js. js) c.of-lists.result is _ c.of-lists.ensures (cell-inside c.of-lists.result is _ there.1) there.1,
            subst (λ f. g.C.Entries.computes f k.item.1 s) k.known.0 computed,
            subst (λ y. AddsScaled v (v.meaning c.args.alpha) (v.meaning y) (v.meaning k.item.0) (v.meaning s) (v.meaning z)) k.known.2
                (subst (λ y. AddsScaled v (v.meaning y) (v.meaning k.before.beta) (v.meaning k.item.0) (v.meaning s) (v.meaning z)) k.known.1 added),
          );
    }
