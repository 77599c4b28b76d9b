use Rattle.ndarray.proofs.Common.{rules, ◌≡◌, ◌∙◌, ◌≤ℤ◌, Some, All, Contains, ap, arith, inl, inr, subst, sym, w64, to_z, of_z, int_min, fold, clamps, fold-int_min_bounds, fold-int_min_reached, ints, to_z-of_z, IsGrid, cell, turns-over-cells}
use Rattle.ndarray_examples.proofs.least_cell.Goals as goal

least-is : (c : goal.After-fold) → c.fold.result ≡ fold int_min c.in-Some.first.now c.args.a.now.cells
least-is c =
    let a = c.args.a.now in
    let first : c.from.result.nested ≡ a = c.from.ensures ∙ c.view.ensures.same in
    let read : to_z w64 (of_z w64 c.in-Some.first.now) ≡ c.in-Some.first.now = search (rules, to_z-of_z) in
    let (o, ran) = c.fold.ensures.ran in
    let (last, turns) = ran in
    turns-over-cells a (subst IsGrid c.view.ensures.same c.view.ensures.whole) _ _ int_min (λ b x y. omega (arith, ints, clamps))
    (λ b i q t.
    let there : cell a i ≡ Some t.0.now = rw first at t.1 in
    let answer : q.1 ≡ int_min b t.0.now = search (rules, t.2) in
    (t.0.now, there, search rules, answer))
    _ _ _ _ (ap (λ v. v.lengths) first) turns
    ∙ ap (λ z. fold int_min z a.cells) read

pub returns-clause-bounds : goal.returns-clause-bounds
returns-clause-bounds c =
    let value : to_z w64 (of_z w64 c.fold.result) ≡ c.fold.result = search (rules, to_z-of_z) in
    subst (λ r. All (λ y. r ≤ℤ y) c.args.a.now.cells) (sym value) (fold-int_min_bounds c.in-Some.first.now c.args.a.now.cells c.fold.result (least-is c)).1

pub returns-clause-reached : goal.returns-clause-reached
returns-clause-reached c _ =
    let value : to_z w64 (of_z w64 c.fold.result) ≡ c.fold.result = search (rules, to_z-of_z) in
    let held : Contains c.args.a.now.cells c.in-Some.first.now = search rules in
    let least : Contains c.args.a.now.cells c.fold.result = elim (fold-int_min_reached c.in-Some.first.now c.args.a.now.cells c.fold.result (least-is c)) [
      | inl e ↦ subst (Contains c.args.a.now.cells) (sym e) held
      | inr h ↦ h
    ] in
    subst (Contains c.args.a.now.cells) (sym value) least
