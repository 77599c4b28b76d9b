-- Filled from the front: the numbers before the axis, and those after it.
use Rattle.std.proofs.Common.{◌≡◌, ◌≢◌, ◌∙◌, ◌⊎◌, ◌+◌, ◌-◌, ◌<◌, ◌≤◌, ℕ, List, [], length, remove, ap, inl, inr, arith, refl, subst}
use Rattle.std.proofs.lemmas.List.{length-replicate}
use Rattle.std.proofs.lemmas.List.Edits.{length-remove, get_or-remove_below, get_or-remove_above}
use Rattle.ndarray.proofs.lists.Counters.{at-end, carried}
use Rattle.ndarray.proofs.lists.Prefixes.{IsFilledTo, IsFilledTo-none, IsFilledTo-more, IsFilledTo-all}
use Rattle.ndarray.proofs.base.dimension.Dimension.try_remove_axis.Goals as goal

-- where there are axes, the one that is named is among them
below : (ns : List ℕ) (axis ndim : ℕ) → (ns ≡ []) ⊎ (axis < length ns) → ndim ≡ length ns → ndim ≢ 0 → axis < length ns
below ns axis ndim h e some = elim h [ inl none ↦ absurd (some (omega (arith, ap length none))) | inr lt ↦ lt ]

-- a list that is one shorter
shorter : (d n m : ℕ) → d ≡ n → m + 1 ≡ n → d - 1 ≡ m
shorter d n m axes less = omega arith

-- the places before the axis and after it, in both lists
before-axis : (k a n l m : ℕ) → k < a → a < n → l ≡ m → m + 1 ≡ n → k < l
before-axis k a n l m lt named long less = omega arith

after-axis : (k d n l m : ℕ) → k < d - 1 → d ≡ n → l ≡ m → m + 1 ≡ n → k < l
after-axis k d n l m lt axes long less = omega arith

below-axis : (k a n : ℕ) → k < a → a < n → k < n
below-axis k a n lt named = omega arith

next-axis : (k d n : ℕ) → k < d - 1 → d ≡ n → k + 1 < n
next-axis k d n lt axes = omega arith

all-filled : (k d n m : ℕ) → d - 1 ≤ k → d ≡ n → m + 1 ≡ n → m ≤ k
all-filled k d n m least axes less = omega arith

pub loop-k-init : goal.loop-k-init
loop-k-init g c =
    let ns = g.Self.Lengths.numbers c.args.self.now in
    let lt = below ns c.args.axis.0 c.ndim-ndim.result c.requires c.ndim-ndim.ensures.value c.if-ndim-eq0.false in
    IsFilledTo-none _ _ (ap length c.zeros-smaller.ensures ∙ (length-replicate (c.ndim-ndim.result - 1) 0 ∙ shorter c.ndim-ndim.result (length ns) (length (remove ns c.args.axis.0)) c.ndim-ndim.ensures.value (length-remove ns c.args.axis.0 lt)))

pub axis-requires : goal.axis-requires
axis-requires g c =
    let ns = g.Self.Lengths.numbers c.args.self.now in
    let lt = below ns c.args.axis.0 c.ndim-ndim.result c.requires c.ndim-ndim.ensures.value c.if-ndim-eq0.false in
    below-axis c.loop-k.k c.args.axis.0 (length ns) c.loop-k-test.true lt

pub set_axis-requires : goal.set_axis-requires
set_axis-requires g c =
    let ns = g.Self.Lengths.numbers c.args.self.now in
    let lt = below ns c.args.axis.0 c.ndim-ndim.result c.requires c.ndim-ndim.ensures.value c.if-ndim-eq0.false in
    before-axis c.loop-k.k c.args.axis.0 (length ns) (length (g.Self.Smaller.Lengths.numbers c.loop-k.smaller)) (length (remove ns c.args.axis.0)) c.loop-k-test.true lt c.loop-k.invariant.as_long (length-remove ns c.args.axis.0 lt)

pub loop-k-preserved : goal.loop-k-preserved
loop-k-preserved g c =
    let ns = g.Self.Lengths.numbers c.args.self.now in
    let long = length (remove ns c.args.axis.0) in
    let lt = below ns c.args.axis.0 c.ndim-ndim.result c.requires c.ndim-ndim.ensures.value c.if-ndim-eq0.false in
    let e = get_or-remove_below ns c.args.axis.0 0 c.loop-k.k c.loop-k-test.true lt in
    IsFilledTo-more (remove ns c.args.axis.0) c.loop-k.k _ _ _ 0 c.loop-k.invariant
    (before-axis c.loop-k.k c.args.axis.0 (length ns) long long c.loop-k-test.true lt refl (length-remove ns c.args.axis.0 lt))
    c.set_axis.ensures (carried e c.axis.ensures)

pub loop-k-2-init : goal.loop-k-2-init
loop-k-2-init g c =
    subst (λ k. IsFilledTo (remove (g.Self.Lengths.numbers c.args.self.now) c.args.axis.0) k (g.Self.Smaller.Lengths.numbers c.loop-k.smaller)) (at-end c.loop-k.k c.args.axis.0 c.loop-k.auto.k-end c.loop-k-test.false) c.loop-k.invariant

pub axis-requires-in-loop-k-2 : goal.axis-requires-in-loop-k-2
axis-requires-in-loop-k-2 g c = next-axis c.loop-k-2.k c.ndim-ndim.result (length (g.Self.Lengths.numbers c.args.self.now)) c.loop-k-2-test.true c.ndim-ndim.ensures.value

pub set_axis-requires-in-loop-k-2 : goal.set_axis-requires-in-loop-k-2
set_axis-requires-in-loop-k-2 g c =
    let ns = g.Self.Lengths.numbers c.args.self.now in
    let lt = below ns c.args.axis.0 c.ndim-ndim.result c.requires c.ndim-ndim.ensures.value c.if-ndim-eq0.false in
    after-axis c.loop-k-2.k c.ndim-ndim.result (length ns) (length (g.Self.Smaller.Lengths.numbers c.loop-k-2.smaller)) (length (remove ns c.args.axis.0)) c.loop-k-2-test.true c.ndim-ndim.ensures.value c.loop-k-2.invariant.as_long (length-remove ns c.args.axis.0 lt)

pub loop-k-2-preserved : goal.loop-k-2-preserved
loop-k-2-preserved g c =
    let ns = g.Self.Lengths.numbers c.args.self.now in
    let long = length (remove ns c.args.axis.0) in
    let lt = below ns c.args.axis.0 c.ndim-ndim.result c.requires c.ndim-ndim.ensures.value c.if-ndim-eq0.false in
    let e = get_or-remove_above ns c.args.axis.0 0 c.loop-k-2.k c.loop-k-2.auto.k lt in
    IsFilledTo-more (remove ns c.args.axis.0) c.loop-k-2.k _ _ _ 0 c.loop-k-2.invariant
    (after-axis c.loop-k-2.k c.ndim-ndim.result (length ns) long long c.loop-k-2-test.true c.ndim-ndim.ensures.value refl (length-remove ns c.args.axis.0 lt))
    c.set_axis-in-loop-k-2.ensures (carried e c.axis-in-loop-k-2.ensures)

pub returns : goal.returns
returns g c =
    let ns = g.Self.Lengths.numbers c.args.self.now in
    let lt = below ns c.args.axis.0 c.ndim-ndim.result c.requires c.ndim-ndim.ensures.value c.if-ndim-eq0.false in
    IsFilledTo-all _ _ _ c.loop-k-2.invariant (all-filled c.loop-k-2.k c.ndim-ndim.result (length ns) (length (remove ns c.args.axis.0)) c.loop-k-2-test.false c.ndim-ndim.ensures.value (length-remove ns c.args.axis.0 lt))
