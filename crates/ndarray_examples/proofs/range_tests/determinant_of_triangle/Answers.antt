use Rattle.ndarray.proofs.Common.{rules, ◌≡◌, ◌∙◌, ◌+◌, ◌*ℤ◌, ◌∷◌, [], ℕ, ℤ, suc, ap, arith, inl, inr, of_z, subst, sym, to_z, w64, FitsSigned, slice_index, cases_eq, to_z-of_z, Grid, cell}
use Rattle.ndarray_examples.specs.Callers.{whole_number}
use Rattle.ndarray_examples.specs.RangeTests.{diagonal_product}
use Rattle.ndarray_examples.proofs.range_tests.determinant_of_triangle.Goals as goal

next-product : (a : Grid ℤ) (n : ℕ) (p x : ℤ) → p ≡ diagonal_product a n → whole_number (cell a (n ∷ n ∷ [])) ≡ x → diagonal_product a (n + 1) ≡ p *ℤ x
next-product a n p x before here =
    let one_more : n + 1 ≡ suc n = omega arith in
    ap (diagonal_product a) one_more ∙ (ap (λ q. q *ℤ whole_number (cell a (n ∷ n ∷ []))) (sym before) ∙ ap (λ y. p *ℤ y) here)

pub returns-in_default-checked_mul-clause-when : goal.returns-in_default-checked_mul-clause-when
returns-in_default-checked_mul-clause-when g c =
    let long = ap (λ l. slice_index l 0) (c.into_pattern-rows.ensures ∙ c.raw_dim.ensures.lengths) in
    let read : to_z w64 (of_z w64 c.in-Some.x.now) ≡ c.in-Some.x.now = search (rules, to_z-of_z) in
    let next = next-product c.args.a.now c.loop-i.i (to_z w64 c.loop-i.product-bits) (to_z w64 (of_z w64 c.in-Some.x.now)) c.loop-i.invariant.0 (ap whole_number (sym c.in-Some.ensures.value) ∙ sym read) in
    (λ off. absurd (search rules), λ range. absurd (c.in_default-checked_mul.ensures (subst (FitsSigned w64) next (range.fits (c.loop-i.i + 1) (omega (arith, c.loop-i-test.true, long))))))

pub loop-i-preserved : goal.loop-i-preserved
loop-i-preserved g c =
    let read : to_z w64 (of_z w64 c.in-Some.x.now) ≡ c.in-Some.x.now = search (rules, to_z-of_z) in
    let next = next-product c.args.a.now c.loop-i.i (to_z w64 c.loop-i.product-bits) (to_z w64 (of_z w64 c.in-Some.x.now)) c.loop-i.invariant.0 (ap whole_number (sym c.in-Some.ensures.value) ∙ sym read) in
    let product = to_z w64 c.loop-i.product-bits *ℤ to_z w64 (of_z w64 c.in-Some.x.now) in
    let fits : FitsSigned w64 product = c.in-Some-checked_mul.ensures.0 in
    let value : c.in-Some-checked_mul.next ≡ product = c.in-Some-checked_mul.ensures.1 in (
      to_z-of_z w64 c.in-Some-checked_mul.next (subst (FitsSigned w64) (sym value) fits) ∙ (value ∙ sym next),
      λ n le. elim (cases_eq n (c.loop-i.i + 1)) [
        | inl e ↦ subst (λ k. FitsSigned w64 (diagonal_product c.args.a.now k)) (sym e) (subst (FitsSigned w64) (sym next) fits)
        | inr other ↦ c.loop-i.invariant.1 n (omega (arith, le, other))
      ],
    )

pub returns-clause-product : goal.returns-clause-product
returns-clause-product g c =
    let long = ap (λ l. slice_index l 0) (c.into_pattern-rows.ensures ∙ c.raw_dim.ensures.lengths) in
    let all : c.loop-i.i ≡ slice_index c.args.a.now.lengths 0 = omega (arith, long, c.loop-i-test.false, c.loop-i.auto.i-end) in
    c.loop-i.invariant.0 ∙ ap (diagonal_product c.args.a.now) all
