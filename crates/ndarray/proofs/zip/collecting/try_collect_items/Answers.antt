use Rattle.std.proofs.Common.{ap, ◌∙◌, arith}
use Rattle.ndarray.specs.Index.{size}
use Rattle.ndarray.proofs.boxes.Orders.{length-box_in}
use Rattle.ndarray.proofs.runs.Answers.{gathered-length}
use Rattle.ndarray.proofs.runs.Collecting.{gathered-run, may-collect, stopped-some}
use Rattle.ndarray.proofs.runs.Turns.{ran-Ok}
use Rattle.ndarray.proofs.zip.collecting.try_collect_items.Goals as goal

pub walk_items-requires : goal.walk_items-requires
walk_items-requires g c =
    let b = c.in_ok-builder.ensures.room in
    let f = c.args.f in
    record {
      can = may-collect (λ s. s.f) (λ s. s.builder) g.C.ItemCall.call_gives (g.P.NdProducer.yields_at c.args.p) c.args.order (g.P.Shaped.lengths c.args.p) g.C.ItemCall.can_call _ f
          (ap (λ k. k.lengths) b ∙ c.raw_dim.ensures.lengths, ap (λ k. k.order) b) (ap (λ k. (f, k.cells)) b) c.requires.callable;
    }

pub finish-requires : goal.finish-requires
finish-requires g c =
    let b = c.in_ok-builder.ensures.room in
    let o = c.args.order in
    let ns = g.P.Shaped.lengths c.args.p in
    let f = c.args.f in
    let r = gathered-run (λ s. s.f) (λ s. s.builder) g.C.ItemCall.call_gives (g.P.NdProducer.yields_at c.args.p) o ns _ _ _ f
    (ap (λ k. k.lengths) b ∙ c.raw_dim.ensures.lengths, ap (λ k. k.order) b) (ap (λ k. (f, k.cells)) b) (ran-Ok _ _ _ _ _ c.in-Ok.ensures.ran) in
    let n = gathered-length _ _ _ _ _ r.0 in
    let l = length-box_in o ns in
    let k = ap size r.1.0 in
    omega arith

pub returns-in-Ok-clause-ran : goal.returns-in-Ok-clause-ran
returns-in-Ok-clause-ran g c =
    let b = c.in_ok-builder.ensures.room in
    let o = c.args.order in
    let f = c.args.f in
    let r = gathered-run (λ s. s.f) (λ s. s.builder) g.C.ItemCall.call_gives (g.P.NdProducer.yields_at c.args.p) o (g.P.Shaped.lengths c.args.p) _ _ _ f
    (ap (λ k. k.lengths) b ∙ c.raw_dim.ensures.lengths, ap (λ k. k.order) b) (ap (λ k. (f, k.cells)) b) (ran-Ok _ _ _ _ _ c.in-Ok.ensures.ran) in
    record {
      lengths = c.finish.ensures.lengths ∙ r.1.0;
      answers = c.in-Ok.collected.builder.cells;
      cells = rw r.1.1 at c.finish.ensures.cells;
      list = rw r.1.1 at c.finish.ensures.list;
      gathered = (c.in-Ok.collected.f, r.0);
    }

pub returns-in-Err-clause-empty : goal.returns-in-Err-clause-empty
returns-in-Err-clause-empty g c =
    let some = stopped-some _ _ _ _ _ c.in-Err.ensures.ran in
    let l = length-box_in c.args.order (g.P.Shaped.lengths c.args.p) in
    λ none. absurd (omega arith)
