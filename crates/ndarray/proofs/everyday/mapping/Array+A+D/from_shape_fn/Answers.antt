use Rattle.std.proofs.Common.{◌≡◌, ◌∙◌, ℕ, List, Some, ap, subst, sym}
use Rattle.ndarray.specs.Grid.{Grid, IsGrid, array_by, cell}
use Rattle.ndarray.specs.Index.{InBox}
use Rattle.ndarray.proofs.callers.Collecting.{collect-each, may-gather, if_ok-both}
use Rattle.ndarray.proofs.callers.Elementwise.{array_by-follows}
use Rattle.ndarray.proofs.cells.Cells.{array_by-cell, cell-inside}
use Rattle.ndarray.proofs.everyday.mapping.Array+A+D.from_shape_fn.Goals as goal

-- an item that is yielded at an index list is its pattern
yielded : (ns is js : List ℕ) (lists : Grid (List ℕ)) → lists ≡ array_by ns (λ ks. ks) → InBox lists.lengths is → cell lists is ≡ Some js → js ≡ is
yielded ns is js lists same inside shown =
    let within : InBox ns is = subst (λ v. InBox v.lengths is) same inside in
    let here : cell lists is ≡ Some is = ap (λ v. cell v is) same ∙ array_by-cell ns (λ ks. ks) is within in
    cc

pub collect_items-requires : goal.collect_items-requires
collect_items-requires g c =
    let ns = g.Sh.ShapeBuilder.shape_lengths c.args.shape in
    let lists = c.of.result in
    let same : lists ≡ array_by ns (λ is. is) = c.of.ensures ∙ ap (λ ms. array_by ms (λ is. is)) c.into_shape_with_order-dim.ensures.lengths in
    record {
      callable = may-gather _ _ _ _ (λ i x r k s h. h.1) _ _
          (λ i x inside shown.
          let place = yielded ns i (g.D.Dimension.pattern_numbers x) lists same inside shown in
          c.requires.callable x (subst (InBox ns) (sym place) (subst (λ v. InBox v.lengths i) same inside)));
    }

pub returns-clause-cells : goal.returns-clause-cells
returns-clause-cells g c =
    let ns = g.Sh.ShapeBuilder.shape_lengths c.args.shape in
    let lists = c.of.result in
    let same : lists ≡ array_by ns (λ is. is) = c.of.ensures ∙ ap (λ ms. array_by ms (λ is. is)) c.into_shape_with_order-dim.ensures.lengths in
    if_ok-both c.collect_items.result _ _ _
    (λ a ran whole. collect-each _ _ _ (λ i r. (x : _) × (g.D.Dimension.pattern_numbers x ≡ i) × g.F.Fn.post c.args.f (x, tt) r) _
    (λ i x r k inside shown call. (call.1, (x, yielded ns i (g.D.Dimension.pattern_numbers x) lists same inside shown, call.0)))
    _ a ran)
    c.collect_items.ensures.ran c.collect_items.ensures.whole

pub returns-clause-inside : goal.returns-clause-inside
returns-clause-inside g c h acts =
    let ns = g.Sh.ShapeBuilder.shape_lengths c.args.shape in
    let same = c.of.ensures ∙ ap (λ ms. array_by ms (λ is. is)) c.into_shape_with_order-dim.ensures.lengths in
    if_ok-both c.collect_items.result _ _ _
    (λ a each made.
    let lengths : a.lengths ≡ ns = made.0 ∙ ap (λ v. v.lengths) same in
    array_by-follows a ns h made.1 lengths
    (λ is z there.
    let (x, place, gives) = each is z there in
    acts x z (subst (InBox ns) (sym place) (subst (λ ms. InBox ms is) lengths (cell-inside a is z there))) gives ∙ ap h place))
    (returns-clause-cells g c)
    (if_ok-both c.collect_items.result _ _ (λ a. (a.lengths ≡ c.of.result.lengths) × IsGrid a) (λ a ran whole. (ran.lengths, whole)) c.collect_items.ensures.ran c.collect_items.ensures.whole)

pub returns-clause-values : goal.returns-clause-values
returns-clause-values g c h acts = returns-clause-inside g c h (λ x r inside gives. acts x r gives)
