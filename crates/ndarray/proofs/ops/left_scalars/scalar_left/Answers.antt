use Rattle.std.proofs.Common.{◌≡◌, ◌∙◌, Some, ap, refl, sym, subst}
use Rattle.std.proofs.lemmas.Result.{IfOk-weaker}
use Rattle.ndarray.specs.Calls.{can_call_by_ref2, call_gives_by_ref2}
use Rattle.ndarray.specs.Grid.{IsGrid, cell}
use Rattle.ndarray.specs.Orders.{box_in}
use Rattle.ndarray.specs.Updates.{is_cell}
use Rattle.ndarray.specs.declared.base.shape.Order.TheVariants.{RowMajor, ColumnMajor}
use Rattle.ndarray.proofs.callers.Collecting.{collect-each, if_ok-both}
use Rattle.ndarray.proofs.cells.Mapped.{maps-mapped}
use Rattle.ndarray.proofs.runs.RunsThrough.{Collects-known, MayGather-known}
use Rattle.ndarray.proofs.ops.left_scalars.scalar_left.Goals as goal

pub collect_in_either_order-requires-clause-by_rows : goal.collect_in_either_order-requires-clause-by_rows
collect_in_either_order-requires-clause-by_rows g c =
    let same = c.view.ensures.same in
    let scalar = c.args.scalar in
    MayGather-known _ (is_cell c.args.array.now) _ (λ f x r h. call_gives_by_ref2 g.F.FnMut f (scalar, x) r h) (λ p. p.f) (λ x. x.now) (λ p. p.scalar ≡ scalar)
    (λ i x s. ap (λ v. cell v i) (sym same) ∙ s) (λ p x r q n k. (subst (λ z. call_gives_by_ref2 g.F.FnMut p.f (z, x.now) r q.f) n k.0, k.1 ∙ n)) _ refl
    _ (λ f x. can_call_by_ref2 g.F.FnMut f (scalar, x)) (λ p x n h. subst (λ z. can_call_by_ref2 g.F.FnMut p.f (z, x.now)) (sym n) h) _ _ (ap (λ v. box_in RowMajor v.lengths) (sym same)) (c.requires.callable RowMajor)

pub collect_in_either_order-requires-clause-by_columns : goal.collect_in_either_order-requires-clause-by_columns
collect_in_either_order-requires-clause-by_columns g c =
    let same = c.view.ensures.same in
    let scalar = c.args.scalar in
    MayGather-known _ (is_cell c.args.array.now) _ (λ f x r h. call_gives_by_ref2 g.F.FnMut f (scalar, x) r h) (λ p. p.f) (λ x. x.now) (λ p. p.scalar ≡ scalar)
    (λ i x s. ap (λ v. cell v i) (sym same) ∙ s) (λ p x r q n k. (subst (λ z. call_gives_by_ref2 g.F.FnMut p.f (z, x.now) r q.f) n k.0, k.1 ∙ n)) _ refl
    _ (λ f x. can_call_by_ref2 g.F.FnMut f (scalar, x)) (λ p x n h. subst (λ z. can_call_by_ref2 g.F.FnMut p.f (z, x.now)) (sym n) h) _ _ (ap (λ v. box_in ColumnMajor v.lengths) (sym same)) (c.requires.callable ColumnMajor)

pub returns-clause-ran : goal.returns-clause-ran
returns-clause-ran g c =
    let same = c.view.ensures.same in
    let scalar = c.args.scalar in
    IfOk-weaker c.collect_in_either_order.result _ _
    (λ a ran. (
      ran.0,
      Collects-known _ (is_cell c.args.array.now) _ (λ f x r h. call_gives_by_ref2 g.F.FnMut f (scalar, x) r h) (λ p. p.f) (λ x. x.now) (λ p. p.scalar ≡ scalar)
          (λ i x s. ap (λ v. cell v i) (sym same) ∙ s) (λ p x r q n k. (subst (λ z. call_gives_by_ref2 g.F.FnMut p.f (z, x.now) r q.f) n k.0, k.1 ∙ n)) _ refl
          ran.0 _ _ (ap (λ v. v.lengths) same) a ran.1,
    ))
    c.collect_in_either_order.ensures.ran

pub returns-clause-follows : goal.returns-clause-follows
returns-clause-follows g c = λ h each.
    let a = c.args.array.now in
    if_ok-both c.collect_in_either_order.result _ _ _
    (λ b ran whole.
    maps-mapped a b (λ x z. z ≡ h x) h (subst IsGrid c.view.ensures.same c.view.ensures.whole) (λ x z k. k)
    (record {
      lengths = ran.1.lengths;
      whole = whole;
      cells = collect-each _ _ _ (λ i z. (x : _) × (cell a i ≡ Some x) × (z ≡ h x)) _
          (λ i x z k inside shown call. let (kept, gives) = each x z k call in (kept, (x, shown, gives)))
          ran.0 b ran.1;
    }))
    (returns-clause-ran g c) c.collect_in_either_order.ensures.whole
