use Rattle.ndarray.proofs.Common.{rules, ◌≡◌, ◌∙◌, [], ◌∷◌, ap, All-cons, All-nil, IsGrid, concatenation, int_sums, op_unit, total}
use Rattle.ndarray_examples.proofs.laws_of_parts.sum_of_joined.Goals as goal

pub returns-clause-sum : goal.returns-clause-sum
returns-clause-sum g c = λ none.
    let a = c.args.a.now in
    let b = c.args.b.now in
    let whole = All-cons IsGrid a (b ∷ []) c.raw_dim.ensures.whole (All-cons IsGrid b [] c.raw_dim-2.ensures.whole (All-nil IsGrid)) in
    let joined : total int_sums (concatenation c.args.axis.0 (a ∷ b ∷ [])).cells ≡ int_sums.op (total int_sums a.cells) (total int_sums b.cells) =
    c.concat_adds.ensures c.args.axis.0 (a ∷ b ∷ []) whole none ∙ ap (int_sums.op (total int_sums a.cells)) (op_unit int_sums (total int_sums b.cells)) in
    search (rules, joined)
