use Rattle.ndarray.proofs.Common.{◌≡◌, ◌∙◌, ap, array_by-follows}
use Rattle.residue.specs.Residue.{Below, modulus_pos, residue_products}
use Rattle.ndarray_examples.proofs.multiply_into.Goals as goal

-- a product with one
once : (one s new : Below 5) → one ≡ (residue_products 5 (modulus_pos 5)).unit → new ≡ (residue_products 5 (modulus_pos 5)).op one s → new ≡ s
once one s new e f = f ∙ (ap (λ t. (residue_products 5 (modulus_pos 5)).op t s) e ∙ (residue_products 5 (modulus_pos 5)).unit_op s)

pub returns-clause-product : goal.returns-clause-product
returns-clause-product c = λ _.
    let made = c.general_mat_vec_mul.ensures in
    array_by-follows _ _ _ made.whole made.lengths
    (λ is z there. let left = made.cells is z there in once c.one.result _ z c.one.ensures (left.2.zero c.zero.ensures))
