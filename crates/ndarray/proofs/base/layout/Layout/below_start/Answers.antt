use Rattle.std.proofs.Common.{◌≡◌, ◌+◌, suc, refl, sym, ◌∙◌, ap, arith, take, get_or}
use Rattle.ndarray.specs.base.Nested.{reach, sum_over_axes, below_first}
use Rattle.ndarray.proofs.boxes.Boxes.{InBox-zeros, InBox-get}
use Rattle.ndarray.proofs.strides.SumsOverAxes.{sum_over_axes-one, sum_over_axes-le, sum_over_axes-take_more, sum_over_axes-take_le, sum_over_axes-take_all}
use Rattle.ndarray.proofs.strides.ForwardAxes.{below_first-le}
use Rattle.ndarray.proofs.base.layout.Layout.below_start.Goals as goal

pub loop-k-init : goal.loop-k-init
unfolding sum_over_axes
loop-k-init g c = refl

pub below_first-below_start-requires-clause-some : goal.below_first-below_start-requires-clause-some
below_first-below_start-requires-clause-some g c = let i = InBox-get _ _ c.loop-k.k (InBox-zeros _ c.requires.some) (omega arith) in omega (arith, i)

pub below_first-below_start-requires-clause-near : goal.below_first-below_start-requires-clause-near
below_first-below_start-requires-clause-near g c =
    let o = sum_over_axes-one reach (g.D.Lengths.numbers c.args.self.now.dim) (g.D.Lengths.numbers c.args.self.now.strides) c.loop-k.k c.requires.as_many (omega arith) in
    let n = c.requires.nested.near in
    rw (c.axis.ensures, c.axis-in-loop-k.ensures) (omega (arith, o, n))

-- the sum so far with that of the next axis
grown : (g : _) (c : goal.After-below_first-below_start g) → c.loop-k.below_start + c.below_first-below_start.result ≡ sum_over_axes below_first (take (suc c.loop-k.k) (g.D.Lengths.numbers c.args.self.now.dim)) (take (suc c.loop-k.k) (g.D.Lengths.numbers c.args.self.now.strides))
grown g c =
    let m = sum_over_axes-take_more below_first (g.D.Lengths.numbers c.args.self.now.dim) (g.D.Lengths.numbers c.args.self.now.strides) c.loop-k.k c.requires.as_many (omega arith) in
    let e : c.below_first-below_start.result ≡ below_first (get_or (g.D.Lengths.numbers c.args.self.now.dim) c.loop-k.k 0) (get_or (g.D.Lengths.numbers c.args.self.now.strides) c.loop-k.k 0) = c.below_first-below_start.ensures ∙ (ap (λ n. below_first n c.axis-in-loop-k.result) c.axis.ensures ∙ ap (below_first (get_or (g.D.Lengths.numbers c.args.self.now.dim) c.loop-k.k 0)) c.axis-in-loop-k.ensures) in
    let i = c.loop-k.invariant in
    omega (arith, m, e, i)

pub overflow_add-below_start : goal.overflow_add-below_start
overflow_add-below_start g c =
    let e = grown g c in
    let p = sum_over_axes-take_le below_first (g.D.Lengths.numbers c.args.self.now.dim) (g.D.Lengths.numbers c.args.self.now.strides) (suc c.loop-k.k) c.requires.as_many in
    let l = sum_over_axes-le below_first reach (g.D.Lengths.numbers c.args.self.now.dim) (g.D.Lengths.numbers c.args.self.now.strides) c.requires.as_many (λ k lt. below_first-le _ _) in
    let n = c.requires.nested.near in
    omega (arith, e, p, l, n)

pub loop-k-preserved : goal.loop-k-preserved
loop-k-preserved g c =
    let k : c.loop-k.k + 1 ≡ suc c.loop-k.k = omega arith in
    grown g c ∙ ap (λ j. sum_over_axes below_first (take j (g.D.Lengths.numbers c.args.self.now.dim)) (take j (g.D.Lengths.numbers c.args.self.now.strides))) (sym k)

pub returns : goal.returns
returns g c = c.loop-k.invariant ∙ sum_over_axes-take_all below_first _ _ c.loop-k.k c.requires.as_many (omega arith)
