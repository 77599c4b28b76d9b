use Rattle.ndarray.proofs.Common.{◌≡◌, ◌≢◌, ◌∙◌, Option, Some, ap, sym, arith, array_by-follows}
use Rattle.ndarray_examples.specs.Callers.{residue}
use Rattle.residue.specs.Residue.{Below, modulus_pos, residue_of, residue_products, residue_sums}
use Rattle.ndarray_examples.proofs.add_product.Goals as goal

-- one is not zero
one-not-zero : (one : Below 5) → one ≡ (residue_products 5 (modulus_pos 5)).unit → one ≢ (residue_sums 5 (modulus_pos 5)).unit
unfolding residue_of residue_sums residue_products
one-not-zero one e z = let same : 1 ≡ 0 = ap (λ (r : Below 5). r.number) (sym e ∙ z) in omega (arith, same)

-- the old value times one, plus one times a sum
added-once : (one other old s new : Below 5) → one ≡ (residue_products 5 (modulus_pos 5)).unit → other ≡ (residue_products 5 (modulus_pos 5)).unit
    → new ≡ (residue_sums 5 (modulus_pos 5)).op ((residue_products 5 (modulus_pos 5)).op old other) ((residue_products 5 (modulus_pos 5)).op one s)
    → new ≡ (residue_sums 5 (modulus_pos 5)).op old s
added-once one other old s new e k f =
    let plus = residue_sums 5 (modulus_pos 5) in
    let times = residue_products 5 (modulus_pos 5) in
    f
    ∙ ap (λ t. plus.op t (times.op one s)) (ap (times.op old) k ∙ times.commutes old times.unit ∙ times.unit_op old)
    ∙ ap (plus.op old) (ap (λ t. times.op t s) e ∙ times.unit_op s)

-- the same of the value at an index list
added-there : (o : Option (Below 5)) (one other old s new : Below 5) → o ≡ Some old → one ≡ (residue_products 5 (modulus_pos 5)).unit → other ≡ (residue_products 5 (modulus_pos 5)).unit
    → new ≡ (residue_sums 5 (modulus_pos 5)).op ((residue_products 5 (modulus_pos 5)).op old other) ((residue_products 5 (modulus_pos 5)).op one s)
    → new ≡ (residue_sums 5 (modulus_pos 5)).op (residue o) s
added-there o one other old s new at e k f = added-once one other old s new e k f ∙ ap (λ t. (residue_sums 5 (modulus_pos 5)).op (residue t) s) (sym at)

pub returns-clause-sum : goal.returns-clause-sum
returns-clause-sum c = λ _.
    let made = c.general_mat_mul.ensures in
    array_by-follows _ _ _ made.whole made.lengths
    (λ is z there.
    let (x, at, added) = made.cells is z there in
    added-there _ c.one.result c.one-2.result x _ z at c.one.ensures c.one-2.ensures (added.some (one-not-zero c.one-2.result c.one-2.ensures)))
