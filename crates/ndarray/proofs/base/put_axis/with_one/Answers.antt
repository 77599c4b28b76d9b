-- Filled from the front: the numbers before the axis, the 1 at it, and the numbers from it on.
use Rattle.std.proofs.Common.{◌≡◌, ◌∙◌, ◌+◌, ◌<◌, ◌≤◌, ℕ, ap, insert, length, arith, refl, subst, sym}
use Rattle.std.proofs.lemmas.List.{length-replicate}
use Rattle.std.proofs.lemmas.List.Edits.{length-insert, get_or-insert_at, get_or-insert_below, get_or-insert_above}
use Rattle.ndarray.proofs.lists.Counters.{at-end, carried}
use Rattle.ndarray.proofs.lists.Prefixes.{IsFilledTo, IsFilledTo-none, IsFilledTo-more, IsFilledTo-all}
use Rattle.ndarray.proofs.base.put_axis.with_one.Goals as goal

-- the places before the axis, at it and after it, in a list that is one longer
before-axis : (k a n l m : ℕ) → k < a → a ≤ n → l ≡ m → m ≡ n + 1 → k < l
before-axis k a n l m lt most long more = omega arith

at-axis : (a n l m : ℕ) → a ≤ n → l ≡ m → m ≡ n + 1 → a < l
at-axis a n l m most long more = omega arith

after-axis : (k d n l m : ℕ) → k < d → d ≡ n → l ≡ m → m ≡ n + 1 → k + 1 < l
after-axis k d n l m lt axes long more = omega arith

below-axis : (k a n : ℕ) → k < a → a ≤ n → k < n
below-axis k a n lt most = omega arith

all-filled : (k d n m : ℕ) → d ≤ k → d ≡ n → m ≡ n + 1 → m ≤ k + 1
all-filled k d n m least axes more = omega arith

pub loop-k-init : goal.loop-k-init
loop-k-init g c =
    let longer = length-insert (g.D.Lengths.numbers c.args.numbers.now) c.args.place 1 c.requires.place in
    IsFilledTo-none _ _ (ap length c.zeros-more.ensures ∙ (length-replicate c.args.many 0 ∙ (c.requires.more ∙ sym longer)))

pub axis-requires : goal.axis-requires
axis-requires g c = below-axis c.loop-k.k c.args.place (length (g.D.Lengths.numbers c.args.numbers.now)) c.loop-k-test.true c.requires.place

pub set_axis-requires : goal.set_axis-requires
set_axis-requires g c =
    let ns = g.D.Lengths.numbers c.args.numbers.now in
    before-axis c.loop-k.k c.args.place (length ns) (length (g.E.Lengths.numbers c.loop-k.more)) (length (insert ns c.args.place 1)) c.loop-k-test.true c.requires.place c.loop-k.invariant.as_long (length-insert ns c.args.place 1 c.requires.place)

pub loop-k-preserved : goal.loop-k-preserved
loop-k-preserved g c =
    let ns = g.D.Lengths.numbers c.args.numbers.now in
    let long = length (insert ns c.args.place 1) in
    let e = get_or-insert_below ns c.args.place 1 0 c.loop-k.k c.loop-k-test.true c.requires.place in
    IsFilledTo-more (insert ns c.args.place 1) c.loop-k.k _ _ _ 0 c.loop-k.invariant
    (before-axis c.loop-k.k c.args.place (length ns) long long c.loop-k-test.true c.requires.place refl (length-insert ns c.args.place 1 c.requires.place))
    c.set_axis.ensures (carried e c.axis.ensures)

pub set_axis-requires-2 : goal.set_axis-requires-2
set_axis-requires-2 g c =
    let ns = g.D.Lengths.numbers c.args.numbers.now in
    at-axis c.args.place (length ns) (length (g.E.Lengths.numbers c.loop-k.more)) (length (insert ns c.args.place 1)) c.requires.place c.loop-k.invariant.as_long (length-insert ns c.args.place 1 c.requires.place)

pub loop-k-2-init : goal.loop-k-2-init
loop-k-2-init g c =
    let ns = g.D.Lengths.numbers c.args.numbers.now in
    let long = length (insert ns c.args.place 1) in
    let filled : IsFilledTo (insert ns c.args.place 1) c.args.place (g.E.Lengths.numbers c.loop-k.more) =
    subst (λ k. IsFilledTo (insert ns c.args.place 1) k (g.E.Lengths.numbers c.loop-k.more)) (at-end c.loop-k.k c.args.place c.loop-k.auto.k-end c.loop-k-test.false) c.loop-k.invariant in
    IsFilledTo-more (insert ns c.args.place 1) c.args.place _ _ _ 0 filled
    (at-axis c.args.place (length ns) long long c.requires.place refl (length-insert ns c.args.place 1 c.requires.place))
    c.set_axis-2.ensures (get_or-insert_at ns c.args.place 1 0 c.requires.place)

pub axis-requires-in-loop-k-2 : goal.axis-requires-in-loop-k-2
axis-requires-in-loop-k-2 g c = subst (λ n. c.loop-k-2.k < n) c.ndim-ndim.ensures.value c.loop-k-2-test.true

pub set_axis-requires-in-loop-k-2 : goal.set_axis-requires-in-loop-k-2
set_axis-requires-in-loop-k-2 g c =
    let ns = g.D.Lengths.numbers c.args.numbers.now in
    after-axis c.loop-k-2.k c.ndim-ndim.result (length ns) (length (g.E.Lengths.numbers c.loop-k-2.more)) (length (insert ns c.args.place 1)) c.loop-k-2-test.true c.ndim-ndim.ensures.value c.loop-k-2.invariant.as_long (length-insert ns c.args.place 1 c.requires.place)

pub loop-k-2-preserved : goal.loop-k-2-preserved
loop-k-2-preserved g c =
    let ns = g.D.Lengths.numbers c.args.numbers.now in
    let long = length (insert ns c.args.place 1) in
    let e = get_or-insert_above ns c.args.place 1 0 c.loop-k-2.k c.loop-k-2.auto.k c.requires.place in
    IsFilledTo-more (insert ns c.args.place 1) (c.loop-k-2.k + 1) _ _ _ 0 c.loop-k-2.invariant
    (after-axis c.loop-k-2.k c.ndim-ndim.result (length ns) long long c.loop-k-2-test.true c.ndim-ndim.ensures.value refl (length-insert ns c.args.place 1 c.requires.place))
    c.set_axis-in-loop-k-2.ensures (carried e c.axis-in-loop-k-2.ensures)

pub returns : goal.returns
returns g c =
    let ns = g.D.Lengths.numbers c.args.numbers.now in
    IsFilledTo-all _ _ _ c.loop-k-2.invariant (all-filled c.loop-k-2.k c.ndim-ndim.result (length ns) (length (insert ns c.args.place 1)) c.loop-k-2-test.false c.ndim-ndim.ensures.value (length-insert ns c.args.place 1 c.requires.place))
