use Rattle.std.proofs.Common.{◌≡◌, ◌∙◌, ap, refl, subst, sym}
use Rattle.ndarray.proofs.callers.Collecting.{if_ok-both, may-gather}
use Rattle.ndarray.proofs.cells.Elementwise.{maps-of}
use Rattle.ndarray.proofs.cells.UpdatedCells.{stopped-never, stopped-none}
use Rattle.ndarray.proofs.ops.computing.map_cells_in_place.Goals as goal

pub update_cells-requires-clause-callable : goal.update_cells-requires-clause-callable
update_cells-requires-clause-callable g c = λ o. may-gather _ _ _ _ (λ i x r k s h. h.2) _ o (λ i x b s. c.requires i x.0 s.0)

pub returns : goal.returns
returns g c =
    let e = c.update_cells.ensures in
    record {
      made = if_ok-both c.update_cells.result _ _ _
          (λ r ran whole. maps-of _ _ (λ f. f.0 ≡ c.args.operation) (λ f x z h n k. ap (λ f. f.0) k.2 ∙ n) ran.0 _ refl r whole c.args.array (λ x. x.0) _
          (λ i x s. s.0) (λ f x z h n k. subst (λ f. g.C.CellOperation.apply_gives f x.0 z) n k.0) _ refl ran.1)
          e.ran e.whole;
      axes = e.axes;
      empty = λ none. stopped-none _ _ _ _ c.update_cells.result none e.stopped;
      in_place = λ infallible. stopped-never _ _ _ _ (λ f. f.0 ≡ c.args.operation) (λ f x a h n k. ap (λ f. f.0) k.2 ∙ n) refl
          (λ i f x e h n y k. let ok = k.1 (subst (λ f. g.C.CellOperation.is_infallible f x.0) (sym n) (infallible x.0)) in absurd (cc)) c.update_cells.result e.stopped;
    }
