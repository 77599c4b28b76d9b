use Rattle.std.proofs.Common.{arith, sym, ◌∙◌, below_more}
use Rattle.ndarray.proofs.boxes.Boxes.{InBox-length, InBox-get, InBox-from_each}
use Rattle.ndarray.proofs.strides.Reach.{place-start, place-step, place-take_all}
use Rattle.ndarray.proofs.base.layout.Layout.find.Goals as goal

pub returns-then-ndim : goal.returns-then-ndim
returns-then-ndim g c = λ b. c.if-ndim.true (let l = InBox-length _ _ b in omega arith)

pub loop-k-init : goal.loop-k-init
loop-k-init g c = record { below = λ j h. absurd (omega arith); at = sym (place-start c.args.self.now.start (g.D.Lengths.numbers c.args.self.now.strides) (g.D.Lengths.numbers c.args.index.now) (omega arith)) }

pub returns-then-i-axis : goal.returns-then-i-axis
returns-then-i-axis g c = λ b. let h = InBox-get _ _ c.loop-k.k b (omega arith) in omega arith

pub loop-k-preserved : goal.loop-k-preserved
loop-k-preserved g c =
    record {
      below = below_more _ _ c.loop-k.invariant.below (omega arith);
      at = place-step c.args.self.now.start (g.D.Lengths.numbers c.args.self.now.strides) (g.D.Lengths.numbers c.args.index.now) c.loop-k.k c.loop-k.at c.axis-i.result c.axis-in-loop-k.result (omega arith) (omega arith) c.loop-k.invariant.at c.axis-i.ensures c.axis-in-loop-k.ensures;
    }

pub returns : goal.returns
returns g c = (InBox-from_each _ _ (omega arith) (λ k h. c.loop-k.invariant.below k (omega arith)), c.loop-k.invariant.at ∙ place-take_all c.args.self.now.start _ _ c.loop-k.k (omega arith) (omega arith))
