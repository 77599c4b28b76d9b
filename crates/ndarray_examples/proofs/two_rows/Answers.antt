use Rattle.ndarray.proofs.Common.{◌≡◌, ◌∙◌, ◌∷◌, [], ap, subst, IfOk, IsGrid, cell, InBox, stack_of, tabulate-cell, if_ok-both}
use Rattle.ndarray_examples.proofs.two_rows.Goals as goal

pub returns-clause-table : goal.returns-clause-table
returns-clause-table c =
    subst (λ g. IfOk c.stack.result (λ t. t ≡ stack_of 0 (g ∷ c.args.second.now ∷ []))) c.view.ensures.same
    (subst (λ g. IfOk c.stack.result (λ t. t ≡ stack_of 0 (c.view.result ∷ g ∷ []))) c.view-2.ensures.same c.stack.ensures.cells)

pub returns-clause-second_row : goal.returns-clause-second_row
returns-clause-second_row c =
    if_ok-both c.stack.result _ _ _
    (λ t e whole j b.
    ap (λ g. cell g (1 ∷ j ∷ [])) e
    ∙ (tabulate-cell _ _ (1 ∷ j ∷ []) (subst IsGrid e whole) (subst (λ g. InBox g.lengths (1 ∷ j ∷ [])) e b) ∙ ap (λ g. cell g (j ∷ [])) c.view-2.ensures.same))
    c.stack.ensures.cells c.stack.ensures.whole
