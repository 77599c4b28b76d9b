use Rattle.ndarray.proofs.Common.{rules, ◌≡◌, ◌∙◌, ◌+ℤ◌, pos, ◌-ℤ◌, ap, refl, int_sums, total, lower_triangle, upper_triangle}
use Rattle.ndarray_examples.proofs.MadeTriangles.{parts-made}
use Rattle.ndarray_examples.proofs.laws.triangles.Goals as goal

pub returns-clause-parts : goal.returns-clause-parts
returns-clause-parts g c =
    parts-made (pos 0) c.args.k c.args.array.now c.in_ok-upper.upper c.in_ok-lower.lower (search rules) (search rules) (c.triangles_part.ensures.cells c.args.k (pos 0) c.args.array.now c.raw_dim-whole.ensures.whole c.requires.axes)

pub returns-clause-totals : goal.returns-clause-totals
returns-clause-totals g c =
    let a = c.args.array.now in
    let upper : c.in_ok-upper.upper ≡ upper_triangle c.args.k (pos 0) a = search rules in
    let lower : c.in_ok-lower.lower ≡ lower_triangle (c.args.k -ℤ pos 1) (pos 0) a = search rules in
    ap (λ u. total int_sums u.cells +ℤ total int_sums c.in_ok-lower.lower.cells) upper
    ∙ (ap (λ l. total int_sums (upper_triangle c.args.k (pos 0) a).cells +ℤ total int_sums l.cells) lower ∙ c.triangles_part.ensures.totals c.args.k (pos 0) a refl c.raw_dim-whole.ensures.whole c.requires.axes)
