use Rattle.ndarray.proofs.Common.{rules, ◌≡◌, ◌∙◌, ◌∷◌, [], ap, sym, subst, array_by, InBox, if_ok-both}
use Rattle.uses.specs.Life.{next_generation, next_state_at}
use Rattle.uses.proofs.life.step.Goals as goal

pub returns-clause-cells : goal.returns-clause-cells
returns-clause-cells g c =
    let a = c.args.grid.now in
    let view : c.view-grid.result ≡ a = c.view-grid.ensures.same in
    let lengths = c.raw_dim.ensures.lengths ∙ ap (λ v. v.lengths) view in
    if_ok-both c.from_shape_fn.result _ _ (λ b. b ≡ next_generation a)
    (λ b made axes. made ∙ ap (λ ns. array_by ns (next_state_at a)) lengths)
    (c.from_shape_fn.ensures.inside (next_state_at a)
    (λ x r inside call.
    let there : InBox c.view-grid.result.lengths (x.0 ∷ x.1 ∷ []) = subst (λ ns. InBox ns (x.0 ∷ x.1 ∷ [])) c.raw_dim.ensures.lengths inside in
    let answer : r ≡ next_state_at c.view-grid.result (x.0 ∷ x.1 ∷ []) = search (rules, call, there) in
    answer ∙ ap (λ v. next_state_at v (x.0 ∷ x.1 ∷ [])) view))
    c.from_shape_fn.ensures.axes
