use Rattle.std.proofs.Common.{◌≡◌, ◌∙◌, ap, arith, get_or, remove, set, subst, sym}
use Rattle.ndarray.specs.AlongAxisRanges.{HasRunningProductsInRange}
use Rattle.ndarray.specs.Index.{row_order}
use Rattle.ndarray.specs.Limits.{IsWithinLimit}
use Rattle.ndarray.specs.Subviews.{lane}
use Rattle.ndarray.proofs.cells.LaneProducts.{axis-some, lane-from, lane-inside, lane-refused, next-first, next-inside, no-lanes, passed-end, passed-next, passed-start}
use Rattle.ndarray.proofs.cells.Scans.{set-smaller}
use Rattle.ndarray.proofs.lists.Decisions.{says_no, says_yes}
use Rattle.ndarray.proofs.reduce.along_axis_range_tests.lanes_cumulate.Goals as goal

pub returns-then-len-eq0 : goal.returns-then-len-eq0
returns-then-len-eq0 g c =
    says_yes _ (no-lanes (HasRunningProductsInRange g.A.Number.value g.A.Number.fits) c.args.array.now c.args.axis.0 c.requires (sym c.len.ensures.size ∙ c.if-len-eq0.true) tt)

pub new-first-items-requires : goal.new-first-items-requires
new-first-items-requires g c =
    let firsts = c.set_axis.ensures ∙ ap (λ ns. set ns c.args.axis.0 1) c.raw_dim-dim.ensures.lengths in
    subst IsWithinLimit (sym firsts) (set-smaller c.args.array.now.lengths c.args.axis.0 1 (omega arith) c.raw_dim-dim.ensures.limit)

pub loop-first-init : goal.loop-first-init
loop-first-init g c =
    let firsts = c.set_axis.ensures ∙ ap (λ ns. set ns c.args.axis.0 1) c.raw_dim-dim.ensures.lengths in
    passed-start (HasRunningProductsInRange g.A.Number.value g.A.Number.fits) c.args.array.now c.args.axis.0 c.requires c.into_iter-first-iterator.result
    (c.into_iter-first-iterator.ensures.into_iter_gives ∙ (c.new-first-items.ensures.list ∙ ap row_order firsts))

pub cells_along-requires-clause-some : goal.cells_along-requires-clause-some
cells_along-requires-clause-some g c =
    let a = c.args.array.now in
    let some = axis-some a.lengths c.args.axis.0 c.requires (λ none. c.if-len-eq0.false (c.len.ensures.size ∙ none)) in
    let len : c.axis-len.result ≡ get_or a.lengths c.args.axis.0 0 = c.axis-len.ensures ∙ ap (λ ns. get_or ns c.args.axis.0 0) c.raw_dim-dim.ensures.lengths in
    omega (arith, some, len)

pub cells_along-requires-clause-within : goal.cells_along-requires-clause-within
cells_along-requires-clause-within g c =
    let a = c.args.array.now in
    let k = c.args.axis.0 in
    let P = HasRunningProductsInRange g.A.Number.value g.A.Number.fits in
    let some = axis-some a.lengths k c.requires (λ none. c.if-len-eq0.false (c.len.ensures.size ∙ none)) in
    let len : c.axis-len.result ≡ get_or a.lengths k 0 = c.axis-len.ensures ∙ ap (λ ns. get_or ns k 0) c.raw_dim-dim.ensures.lengths in
    let steps = c.in-Some.ensures.steps in
    lane-inside a c.raw_dim-dim.ensures.whole k c.requires (g.D.Lengths.numbers c.in-Some.first) (next-inside P a k c.requires some _ _ _ steps c.loop-first.invariant) (next-first P a k c.requires some _ _ _ steps c.loop-first.invariant) c.axis-len.result len

pub returns-then-not-cells_cumulate : goal.returns-then-not-cells_cumulate
returns-then-not-cells_cumulate g c =
    let a = c.args.array.now in
    let k = c.args.axis.0 in
    let P = HasRunningProductsInRange g.A.Number.value g.A.Number.fits in
    let some = axis-some a.lengths k c.requires (λ none. c.if-len-eq0.false (c.len.ensures.size ∙ none)) in
    let len : c.axis-len.result ≡ get_or a.lengths k 0 = c.axis-len.ensures ∙ ap (λ ns. get_or ns k 0) c.raw_dim-dim.ensures.lengths in
    let steps = c.in-Some.ensures.steps in
    let s = g.D.Lengths.numbers c.in-Some.first in
    let cells : c.cells_along.result ≡ (lane a k (remove s k)).cells = c.cells_along.ensures
    ∙ lane-from a c.raw_dim-dim.ensures.whole k c.requires s (next-inside P a k c.requires some _ _ _ steps c.loop-first.invariant) (next-first P a k c.requires some _ _ _ steps c.loop-first.invariant) c.axis-len.result len in
    let off = c.if-not-cells_cumulate.true in
    says_no _ (λ all. lane-refused P a k c.requires some _ _ _ steps c.loop-first.invariant c.raw_dim-dim.ensures.whole
    (λ holds. let on = c.cells_cumulate.ensures.1 (subst P (sym cells) holds) in absurd (cc)) all)

pub loop-first-preserved : goal.loop-first-preserved
loop-first-preserved g c =
    let a = c.args.array.now in
    let k = c.args.axis.0 in
    let P = HasRunningProductsInRange g.A.Number.value g.A.Number.fits in
    let some = axis-some a.lengths k c.requires (λ none. c.if-len-eq0.false (c.len.ensures.size ∙ none)) in
    let len : c.axis-len.result ≡ get_or a.lengths k 0 = c.axis-len.ensures ∙ ap (λ ns. get_or ns k 0) c.raw_dim-dim.ensures.lengths in
    let steps = c.in-Some.ensures.steps in
    let s = g.D.Lengths.numbers c.in-Some.first in
    let cells : c.cells_along.result ≡ (lane a k (remove s k)).cells = c.cells_along.ensures
    ∙ lane-from a c.raw_dim-dim.ensures.whole k c.requires s (next-inside P a k c.requires some _ _ _ steps c.loop-first.invariant) (next-first P a k c.requires some _ _ _ steps c.loop-first.invariant) c.axis-len.result len in
    passed-next P a k c.requires some _ _ _ steps c.loop-first.invariant (subst P cells (c.cells_cumulate.ensures.0 c.if-not-cells_cumulate.false))

pub returns : goal.returns
returns g c =
    let a = c.args.array.now in
    let some = axis-some a.lengths c.args.axis.0 c.requires (λ none. c.if-len-eq0.false (c.len.ensures.size ∙ none)) in
    says_yes _ (passed-end (HasRunningProductsInRange g.A.Number.value g.A.Number.fits) a c.args.axis.0 c.requires some _ c.in-None.ensures.steps.0 c.loop-first.invariant)
