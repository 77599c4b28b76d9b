use Rattle.std.proofs.Common.{◌≡◌, ◌∙◌, ap, refl, subst, sym}
use Rattle.std.proofs.lemmas.Result.{IfOk-weaker}
use Rattle.ndarray.specs.Everyday.{MapsTwo, ReturnsAtBoth}
use Rattle.ndarray.specs.Grid.{IsGrid, cell}
use Rattle.ndarray.proofs.callers.Collecting.{may-gather, if_ok-both}
use Rattle.ndarray.proofs.cells.Mapped.{maps-combined, maps_two-of}
use Rattle.ndarray.proofs.base.array.ArrayBase.combine.Goals as goal

pub collect_of_both-requires-clause-callable : goal.collect_of_both-requires-clause-callable
collect_of_both-requires-clause-callable g c = λ o.
    may-gather _ _ _ _ (λ i x r k s h. h.1) _ o
    (λ i x b s. c.requires.callable i x.0.now x.1.now (ap (λ v. cell v i) (sym c.view.ensures.same) ∙ s.0) (ap (λ v. cell v i) (sym c.view-2.ensures.same) ∙ s.1))

pub returns-clause-cells : goal.returns-clause-cells
returns-clause-cells g c =
    let a = c.args.self.now in
    let b = c.args.other.now in
    if_ok-both c.collect_of_both.result _ _ (MapsTwo (ReturnsAtBoth g.F.Fn c.args.f) a b)
    (λ r ran whole. maps_two-of _ _ (λ d. d.0 ≡ c.args.f) (λ d x z h n k. ap (λ d. d.0) k.1 ∙ n) ran.0 _ refl r whole a b (λ x. x.0.now) (λ x. x.1.now) _
    (λ i x s. (ap (λ v. cell v i) (sym c.view.ensures.same) ∙ s.0, ap (λ v. cell v i) (sym c.view-2.ensures.same) ∙ s.1))
    (λ d x z h n k. subst (λ f. ReturnsAtBoth g.F.Fn f x.0.now x.1.now z) n k.0) _ (ap (λ v. v.lengths) c.view.ensures.same) ran.1)
    c.collect_of_both.ensures.ran c.collect_of_both.ensures.whole

pub returns-clause-values : goal.returns-clause-values
returns-clause-values g c h acts =
    IfOk-weaker c.collect_of_both.result _ _
    (λ r made. maps-combined c.args.self.now c.args.other.now r _ h (subst IsGrid c.view.ensures.same c.view.ensures.whole) (subst IsGrid c.view-2.ensures.same c.view-2.ensures.whole) c.requires.same
    (λ x y z k. acts k.first k.second z k.met ∙ (ap (λ u. h u k.second.now) k.shows.0 ∙ ap (h x) k.shows.1)) made)
    (returns-clause-cells g c)
