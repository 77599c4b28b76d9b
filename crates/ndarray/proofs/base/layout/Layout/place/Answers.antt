use Rattle.std.proofs.Common.{arith, sym, ◌∙◌}
use Rattle.ndarray.proofs.strides.Reach.{place-start, place-step, place-take_all}
use Rattle.ndarray.proofs.base.layout.Layout.place.Goals as goal

pub loop-k-init : goal.loop-k-init
loop-k-init g c = sym (place-start c.args.self.now.start (g.D.Lengths.numbers c.args.self.now.strides) (g.D.Lengths.numbers c.args.index.now) (omega arith))

pub loop-k-preserved : goal.loop-k-preserved
loop-k-preserved g c = place-step c.args.self.now.start (g.D.Lengths.numbers c.args.self.now.strides) (g.D.Lengths.numbers c.args.index.now) c.loop-k.k c.loop-k.at c.axis.result c.axis-in-loop-k.result (omega arith) (omega arith) c.loop-k.invariant c.axis.ensures c.axis-in-loop-k.ensures

pub returns : goal.returns
returns g c = c.loop-k.invariant ∙ place-take_all c.args.self.now.start _ _ c.loop-k.k (omega arith) (omega arith)
