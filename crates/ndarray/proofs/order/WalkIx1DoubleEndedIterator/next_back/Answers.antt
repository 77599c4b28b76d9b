use Rattle.std.proofs.Common.{rules, arith, ◌-◌, ◌≡◌, ap, sym, ◌∙◌, length, length-append}
use Rattle.ndarray.proofs.boxes.Walks.{walk_rest-back_one, one-fits}
use Rattle.ndarray.proofs.order.WalkIx1DoubleEndedIterator.next_back.Goals as goal

pub overflow_add-result : goal.overflow_add-result
overflow_add-result c =
    let b = one-fits c.self.inside.order c.self.inside.dim.0 c.self.inside.index.0 c.self.inside.left (search rules) (omega (arith, c.if-self-eq0.false)) c.self.invariant in
    omega arith

pub returns-clause-steps : goal.returns-clause-steps
returns-clause-steps c =
    let old = c.self.inside in
    let one : length old.index.0 ≡ 1 = search rules in
    sym c.self.view_is ∙ walk_rest-back_one old.order old.dim.0 old.index.0 c.axis.result old.left (old.left - 1) one c.axis.ensures c.self.invariant (omega (arith, c.if-self-eq0.false))

pub returns-clause-goes : goal.returns-clause-goes
returns-clause-goes c = let e = ap length (returns-clause-steps c) in search (rules, length-append)
