use Rattle.std.proofs.Common.{◌≢◌, ◌∙◌, ap, subst, sym}
use Rattle.std.proofs.lemmas.Bool.{iff_false}
use Rattle.ndarray.proofs.linalg.product_tiles.scaled_sum.Goals as goal

pub returns-then-is_zero : goal.returns-then-is_zero
returns-then-is_zero g c =
    let k = c.requires in
    let zero = (g.met.A.SumElem.is_zero_meaning c.args.beta).0 (sym c.is_zero.ensures.test ∙ c.if-is_zero.true) in
    let sum = g.met.A.ProductElem.mul_meaning c.args.alpha c.args.sum c.mul-added.result k.scaled c.mul-added.ensures in
    record { zero = λ _. sum; some = λ some. absurd (some zero) }

pub mul-requires : goal.mul-requires
mul-requires g c =
    let v = g.A.Valued in
    let some : v.meaning c.args.beta ≢ v.addition.unit = iff_false (g.met.A.SumElem.is_zero_meaning c.args.beta) (sym c.is_zero.ensures.test ∙ c.if-is_zero.false) in
    g.met.A.ProductElem.mul_in_range c.args.old c.args.beta (c.requires.kept some)

pub add-requires : goal.add-requires
add-requires g c =
    let v = g.A.Valued in
    let some : v.meaning c.args.beta ≢ v.addition.unit = iff_false (g.met.A.SumElem.is_zero_meaning c.args.beta) (sym c.is_zero.ensures.test ∙ c.if-is_zero.false) in
    let k = c.requires in
    let old = g.met.A.ProductElem.mul_meaning c.args.old c.args.beta c.mul.result (k.kept some) c.mul.ensures in
    let sum = g.met.A.ProductElem.mul_meaning c.args.alpha c.args.sum c.mul-added.result k.scaled c.mul-added.ensures in
    g.met.A.SumElem.add_in_range c.mul.result c.mul-added.result
    (subst (λ x. v.InRange (v.addition.op x (v.meaning c.mul-added.result))) (sym old)
    (subst (λ y. v.InRange (v.addition.op (v.multiplication.op (v.meaning c.args.old) (v.meaning c.args.beta)) y)) (sym sum) (k.added some)))

pub returns : goal.returns
returns g c =
    let v = g.A.Valued in
    let some : v.meaning c.args.beta ≢ v.addition.unit = iff_false (g.met.A.SumElem.is_zero_meaning c.args.beta) (sym c.is_zero.ensures.test ∙ c.if-is_zero.false) in
    let k = c.requires in
    let old = g.met.A.ProductElem.mul_meaning c.args.old c.args.beta c.mul.result (k.kept some) c.mul.ensures in
    let sum = g.met.A.ProductElem.mul_meaning c.args.alpha c.args.sum c.mul-added.result k.scaled c.mul-added.ensures in
    let both = ap (λ x. v.addition.op x (v.meaning c.mul-added.result)) old ∙ ap (v.addition.op (v.multiplication.op (v.meaning c.args.old) (v.meaning c.args.beta))) sum in
    let range = subst v.InRange (sym both) (k.added some) in
    record { zero = λ z. absurd (some z); some = λ _. g.met.A.SumElem.add_meaning c.mul.result c.mul-added.result c.add.result range c.add.ensures ∙ both }
