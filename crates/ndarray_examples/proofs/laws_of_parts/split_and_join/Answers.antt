use Rattle.ndarray.proofs.Common.{rules, sym}
use Rattle.ndarray_examples.proofs.laws_of_parts.split_and_join.Goals as goal

pub returns-clause-shapes : goal.returns-clause-shapes
returns-clause-shapes c = λ k refused.
    let some = rw (c.split_at-first.ensures.first, c.split_at-first.ensures.second) at ((c.concatenate.ensures.errors k).0 refused) in
    let none = c.parts_join.ensures.allowed c.args.a c.args.axis.0 c.args.index c.raw_dim-whole.ensures.limit c.requires.axis c.requires.within in
    absurd (cc)
