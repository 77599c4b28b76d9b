use Rattle.std.proofs.Common.{◌≡◌, ◌∙◌, ◌++◌, All, ap, append-nil, arith, map, subst, sym}
use Rattle.std.proofs.lemmas.List.{length-append, length-map}
use Rattle.std.proofs.lemmas.List.Elements.{All-head, All-tail}
use Rattle.ndarray.specs.Index.{size}
use Rattle.ndarray.specs.linalg.LaneSums.{CanSumLanes, lane_sum}
use Rattle.ndarray.proofs.lists.Pushes.{one-pushed, one-room}
use Rattle.ndarray.proofs.linalg.dynamic.push_sums.Goals as goal

pub inner-requires-clause-same : goal.inner-requires-clause-same
inner-requires-clause-same g c κs within =
    (All-head (CanSumLanes g.A.Valued c.args.row.now) c.in-Some.column c.next.new.self (subst (All (CanSumLanes g.A.Valued c.args.row.now)) c.in-Some.ensures.steps c.loop-column.invariant.can)).0

pub inner-requires-clause-sums : goal.inner-requires-clause-sums
inner-requires-clause-sums g c κs within =
    (All-head (CanSumLanes g.A.Valued c.args.row.now) c.in-Some.column c.next.new.self (subst (All (CanSumLanes g.A.Valued c.args.row.now)) c.in-Some.ensures.steps c.loop-column.invariant.can)).1

pub push-requires : goal.push-requires
push-requires g c =
    let value = g.A.Valued.meaning in
    let f = lane_sum g.A.Valued c.args.row.now in
    let i = c.loop-column.invariant in
    let room = one-room value (map value c.args.sums.now.cells ++ map f c.args.columns.cells) c.loop-column.sums.cells c.loop-column.column-iterator c.next.new.self c.in-Some.column c.in-Some.ensures.steps f i.values in
    let both = length-append (map value c.args.sums.now.cells) (map f c.args.columns.cells) in
    let old = length-map c.args.sums.now.cells value in
    let more = length-map c.args.columns.cells f in
    let same : size c.loop-column.sums.lengths ≡ size c.args.sums.now.lengths = ap size i.lengths in
    omega (arith, room, both, old, more, same, c.requires.room)

pub loop-column-preserved : goal.loop-column-preserved
loop-column-preserved g c =
    let value = g.A.Valued.meaning in
    let f = lane_sum g.A.Valued c.args.row.now in
    let i = c.loop-column.invariant in
    record {
      lengths = ap (λ p. p.lengths) c.push.ensures ∙ i.lengths;
      order = ap (λ p. p.order) c.push.ensures ∙ i.order;
      values =
          ap (λ p. map value p.cells ++ map f c.next.new.self) c.push.ensures
          ∙ one-pushed value (map value c.args.sums.now.cells ++ map f c.args.columns.cells) c.loop-column.sums.cells c.loop-column.column-iterator c.next.new.self c.in-Some.column c.in-Some.ensures.steps f i.values c.inner.result c.inner.ensures;
      can = All-tail (CanSumLanes g.A.Valued c.args.row.now) c.in-Some.column c.next.new.self (subst (All (CanSumLanes g.A.Valued c.args.row.now)) c.in-Some.ensures.steps i.can);
    }

pub returns : goal.returns
returns g c =
    let value = g.A.Valued.meaning in
    let f = lane_sum g.A.Valued c.args.row.now in
    let i = c.loop-column.invariant in
    record {
      lengths = i.lengths;
      order = i.order;
      values = sym (append-nil (map value c.loop-column.sums.cells)) ∙ (ap (λ l. map value c.loop-column.sums.cells ++ map f l) (sym c.in-None.ensures.steps.0) ∙ i.values);
    }
