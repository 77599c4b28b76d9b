use Rattle.std.proofs.Common.{ap, sym, ◌∙◌, length, arith, inl, inr}
use Rattle.std.proofs.lemmas.Bool.{cases_lt}
use Rattle.ndarray.proofs.boxes.Sizes.{size-le}
use Rattle.ndarray.proofs.boxes.Walks.{length-walk_rest}
use Rattle.ndarray.proofs.order.Walk.bounded_len.Goals as goal

pub returns-clause-value : goal.returns-clause-value
returns-clause-value g c = sym (ap length (sym c.self.view_is) ∙ length-walk_rest _ _ _ _ c.self.invariant)

pub returns-clause-fits : goal.returns-clause-fits
returns-clause-fits g c =
    let w = c.self.inside in
    let m = c.self.invariant.limit in
    let s = size-le (g.D.Lengths.numbers w.dim) in
    elim (cases_lt 0 w.left) [
      | inl some ↦ (let f = c.self.invariant.fits some in omega arith)
      | inr none ↦ omega arith
    ]
