use Rattle.ndarray.proofs.Common.{◌∙◌, ◌∷◌, [], ap, arith, subst, pos, int_le, ints, IsGrid, cell, column_minus_row, if_ok-both, InBox-length, cleared-cell, int_le-false, int_le-true, kept-cell}
use Rattle.ndarray_examples.proofs.lower_part.Goals as goal

pub returns-clause-kept : goal.returns-clause-kept
returns-clause-kept g c =
    if_ok-both c.tril.result _ _ _ (λ l e whole i j b le.
    let axes = InBox-length c.args.a.now.lengths (i ∷ j ∷ []) b in
    ap (λ h. cell h (i ∷ j ∷ [])) e ∙ kept-cell (λ d. int_le d (pos 0)) (pos 0) c.args.a.now (omega (arith, axes)) (subst IsGrid e whole) (i ∷ j ∷ []) b
    (int_le-true (column_minus_row (i ∷ j ∷ [])) (pos 0) (omega (arith, ints))))
    c.tril.ensures.cells c.tril.ensures.whole

pub returns-clause-zero : goal.returns-clause-zero
returns-clause-zero g c =
    if_ok-both c.tril.result _ _ _ (λ l e whole i j b lt.
    let axes = InBox-length c.args.a.now.lengths (i ∷ j ∷ []) b in
    ap (λ h. cell h (i ∷ j ∷ [])) e ∙ cleared-cell (λ d. int_le d (pos 0)) (pos 0) c.args.a.now (omega (arith, axes)) (subst IsGrid e whole) (i ∷ j ∷ []) b
    (int_le-false (column_minus_row (i ∷ j ∷ [])) (pos 0) (λ le. omega (arith, ints))))
    c.tril.ensures.cells c.tril.ensures.whole
