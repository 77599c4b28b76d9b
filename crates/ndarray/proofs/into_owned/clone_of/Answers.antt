use Rattle.std.proofs.Common.{◌≡◌, ◌∙◌, ap, sym, subst}
use Rattle.std.specs.Prelude.{⊤, IfOk}
use Rattle.std.specs.List.{AllZip}
use Rattle.std.proofs.lemmas.List.Elements.{same_from_all_zip}
use Rattle.ndarray.specs.Elementwise.{Maps}
use Rattle.ndarray.specs.Grid.{IsGrid, cell, grid}
use Rattle.ndarray.specs.Index.{size}
use Rattle.ndarray.proofs.callers.Collecting.{if_ok-both}
use Rattle.ndarray.proofs.cells.CellsInOrder.{at_places}
use Rattle.ndarray.proofs.cells.Elementwise.{maps-of}
use Rattle.ndarray.proofs.into_owned.clone_of.Goals as goal

-- the cells are clones of the array's
cells-of : (g : _) (c : goal.After-try_collect_items g) → IfOk c.try_collect_items.result (λ a. AllZip g.A.Clone.is_clone c.args.array.now.cells a.cells)
cells-of g c =
    let R = g.A.Clone.is_clone in
    let a = c.args.array.now in
    let same = c.view.ensures.same in
    let whole : IsGrid a = subst IsGrid same c.view.ensures.whole in
    if_ok-both c.try_collect_items.result _ _ _
    (λ r ran whole_r.
    let made : Maps R a r = maps-of _ _ (λ _. ⊤) (λ f x z h n k. tt) _ _ tt r whole_r a (λ x. x.now) R (λ i x s. ap (λ v. cell v i) (sym same) ∙ s) (λ f x z h n k. k) _ (ap (λ v. v.lengths) same) ran in
    at_places R a r whole whole_r made.lengths
    (λ is b x y p q.
    let (x', e, k) = made.cells is y q in
    let here : x' ≡ x = (let s = sym e ∙ p in cc) in
    subst (λ v. R v y) here k))
    c.try_collect_items.ensures.ran c.try_collect_items.ensures.whole

pub returns : goal.returns
returns g c =
    let made = c.try_collect_items.ensures in
    let same_lengths = ap (λ v. v.lengths) c.view.ensures.same in
    record {
      lengths = if_ok-both c.try_collect_items.result _ _ _ (λ r ran whole. ran.lengths ∙ same_lengths) made.ran made.whole;
      axes = made.axes;
      cells = cells-of g c;
      whole = made.whole;
      same = if_ok-both c.try_collect_items.result _ _ _
          (λ r ran cells same.
          let equal = same_from_all_zip g.A.Clone.is_clone _ _ cells same in
          ap (λ ms. grid ms r.cells) (ran.lengths ∙ same_lengths) ∙ ap (λ xs. grid c.args.array.now.lengths xs) equal)
          made.ran (cells-of g c);
      empty = λ none. made.empty (ap size same_lengths ∙ none);
    }
