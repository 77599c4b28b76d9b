use Rattle.std.proofs.Common.{◌≡◌, ◌+◌, ◌<◌, ℕ, ap, arith, get_or, inl, inr, sym, ◌∙◌, set, subst, length, max, List}
use Rattle.std.proofs.lemmas.Bool.{cases_eq}
use Rattle.std.proofs.lemmas.List.{get_or-set_same, get_or-set_other, length-set}
use Rattle.ndarray.specs.Broadcast.{meeting_length, with_ones_before, broadcast_lengths}
use Rattle.ndarray.specs.Limits.{IsWithinLimit}
use Rattle.ndarray.proofs.lists.Decisions.{from_yes}
use Rattle.ndarray.proofs.views.BroadcastLengths.{Meet, is-broadcast, together, meets}
use Rattle.ndarray.proofs.base.broadcast.met_lengths.Goals as goal

-- what holds up to k, and at k, holds up to k + 1
up_to_next : (P : ℕ → Type 0) (k : ℕ) → ((j : ℕ) → j < k → P j) → P k → (j : ℕ) → j < k + 1 → P j
up_to_next P k before here j lt = elim (cases_eq j k) [ inl e ↦ subst P (sym e) here | inr ne ↦ before j (omega arith) ]

axes-of : (ns ms : List ℕ) {r n m : ℕ} → r ≡ max n m → n ≡ length ns → m ≡ length ms → r ≡ max (length ns) (length ms)
axes-of ns ms {n = n} {m = m} e a b = e ∙ (ap (λ k. max k m) a ∙ ap (max (length ns)) b)

pub loop-k-preserved : goal.loop-k-preserved
loop-k-preserved g c =
    let before = g.O.Lengths.numbers c.loop-k.lengths in
    let after = g.O.Lengths.numbers c.set_axis.new.self in
    let k = c.loop-k.k in
    let v = c.in-Some.length in
    let is : after ≡ set before k v = c.set_axis.ensures in
    let long : length before ≡ c.max-ndim.result = c.loop-k.invariant.long in
    let left = get_or (with_ones_before c.max-ndim.result (g.D.Lengths.numbers c.args.left.now)) k 0 in
    let right = get_or (with_ones_before c.max-ndim.result (g.E.Lengths.numbers c.args.right.now)) k 0 in
    let met : (c.length_below.result, c.length_below-in-loop-k.result) ≡ (left, right) = cc in
    let last : v ≡ meeting_length (left, right) = c.in-Some.ensures.0 ∙ ap meeting_length met in
    let written : get_or after k 0 ≡ v = ap (λ l. get_or l k 0) is ∙ get_or-set_same before k v 0 (omega (arith, long)) in
    let here : get_or after k 0 ≡ meeting_length (left, right) = written ∙ last in
    let axes = axes-of (g.D.Lengths.numbers c.args.left.now) (g.E.Lengths.numbers c.args.right.now) c.max-ndim.ensures c.ndim.ensures.value c.ndim-2.ensures.value in
    record {
      long = ap length is ∙ (length-set before k v ∙ long);
      each = up_to_next _ k
          (λ j lt. ap (λ l. get_or l j 0) is ∙ (get_or-set_other before k j v 0 (λ e. absurd (omega (arith, e, lt))) ∙ c.loop-k.invariant.each j lt))
          here;
      meet = up_to_next (Meet (g.D.Lengths.numbers c.args.left.now) (g.E.Lengths.numbers c.args.right.now)) k c.loop-k.invariant.meet (rw axes at (rw (c.length_below.ensures, c.length_below-in-loop-k.ensures) at c.in-Some.ensures.1));
    }

pub returns : goal.returns
returns g c =
    let ns = g.D.Lengths.numbers c.args.left.now in
    let ms = g.E.Lengths.numbers c.args.right.now in
    let axes : c.max-ndim.result ≡ max (length ns) (length ms) = axes-of ns ms c.max-ndim.ensures c.ndim.ensures.value c.ndim-2.ensures.value in
    let is : g.O.Lengths.numbers c.loop-k.lengths ≡ broadcast_lengths ns ms =
    is-broadcast ns ms _ (c.loop-k.invariant.long ∙ axes) (λ k lt. rw axes at (c.loop-k.invariant.each k (let l = c.loop-k.invariant.long in omega arith))) in
    (is, together ns ms (λ k lt. c.loop-k.invariant.meet k (omega (arith, axes))) (subst IsWithinLimit is (from_yes _ c.if-not-size_ok.ensures)))

pub returns-then-not-size_ok : goal.returns-then-not-size_ok
returns-then-not-size_ok g c =
    let ns = g.D.Lengths.numbers c.args.left.now in
    let ms = g.E.Lengths.numbers c.args.right.now in
    let axes : c.max-ndim.result ≡ max (length ns) (length ms) = axes-of ns ms c.max-ndim.ensures c.ndim.ensures.value c.ndim-2.ensures.value in
    let is : g.O.Lengths.numbers c.loop-k.lengths ≡ broadcast_lengths ns ms =
    is-broadcast ns ms _ (c.loop-k.invariant.long ∙ axes) (λ k lt. rw axes at (c.loop-k.invariant.each k (let l = c.loop-k.invariant.long in omega arith))) in
    λ t. let no = c.if-not-size_ok.ensures.1 (subst IsWithinLimit (sym is) t.limit) in absurd (cc)

pub returns-in-None : goal.returns-in-None
returns-in-None g c =
    let ns = g.D.Lengths.numbers c.args.left.now in
    let ms = g.E.Lengths.numbers c.args.right.now in
    let k = c.loop-k.k in
    let axes : c.max-ndim.result ≡ max (length ns) (length ms) = axes-of ns ms c.max-ndim.ensures c.ndim.ensures.value c.ndim-2.ensures.value in
    let left = rw axes at c.length_below.ensures in
    let right = rw axes at c.length_below-in-loop-k.ensures in
    λ t. elim (meets ns ms t k (omega (arith, axes))) [
      | inl e ↦ c.in-None.ensures.0 (left ∙ e ∙ sym right)
      | inr w ↦ elim w [ inl e ↦ c.in-None.ensures.1 (left ∙ e) | inr e ↦ c.in-None.ensures.2 (right ∙ e) ]
    ]
