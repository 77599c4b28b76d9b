use Rattle.std.proofs.Common.{◌≡◌, ◌+◌, ◌≤◌, vec_len}
use Rattle.std.specs.Vec.{vec_capacity}
use Rattle.ndarray.proofs.iter.vectors.to_vec.Given as goal

-- the items so far, and room for as many as may still come
abbrev pub invariant-loop-item : goal.invariant-loop-item
invariant-loop-item g l = record {
  can : (goal.iterator-loop-item g).can_next l.item-iterator;
  finite : (goal.iterator-loop-item g).is_finite l.item-iterator;
  items : l.items.items ≡ l.yielded;
  room : vec_len l.items + (goal.iterator-loop-item g).remaining l.item-iterator ≤ vec_capacity l.items;
}
