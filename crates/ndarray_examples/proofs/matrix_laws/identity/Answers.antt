use Rattle.ndarray.proofs.Common.{rules, ◌==◌, if◌then◌else◌, ℕ, ℤ, List, pos, refl, slice_index, identity_matrix, int_products, int_sums, matrix-by, i64_values}
use Rattle.ndarray_examples.proofs.matrix_laws.identity.Goals as goal

pub returns-clause-matrix : goal.returns-clause-matrix
returns-clause-matrix c =
    let f : List ℕ → ℤ = λ is. if slice_index is 0 == slice_index is 1 then pos 1 else pos 0 in
    matrix-by i64_values (identity_matrix int_sums int_products c.args.rows) f (λ i j l m. refl) c.in_ok-made.made (c.in_ok-made.ensures.values f (λ x r call. search (rules, call)))
