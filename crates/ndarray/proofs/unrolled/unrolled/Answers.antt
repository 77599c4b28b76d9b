use Rattle.std.proofs.Common.{◌≡◌, ◌+◌, ◌%◌, arith, refl, false, subst}
use Rattle.ndarray.proofs.parts.EighthParts.{below, below-ends, below-more, eighth, eighth-ends, eighth-more, eighth-none, joins_first, joins_fourth, joins_second, joins_third, makes_pair, one_pair, pair, three_pairs, two_pairs}
use Rattle.ndarray.proofs.unrolled.unrolled.Goals as goal

pub eights-init : goal.eights-init
eights-init g c =
    record {
      in_range = omega arith;
      whole_turns = refl;
      part0 = c.none-p0.ensures (eighth 0 0) (eighth-none 0);
      part1 = c.none-p1.ensures (eighth 1 0) (eighth-none 1);
      part2 = c.none-p2.ensures (eighth 2 0) (eighth-none 2);
      part3 = c.none-p3.ensures (eighth 3 0) (eighth-none 3);
      part4 = c.none-p4.ensures (eighth 4 0) (eighth-none 4);
      part5 = c.none-p5.ensures (eighth 5 0) (eighth-none 5);
      part6 = c.none-p6.ensures (eighth 6 0) (eighth-none 6);
      part7 = c.none-p7.ensures (eighth 7 0) (eighth-none 7);
    }

pub with-p0-requires-clause-behind : goal.with-p0-requires-clause-behind
with-p0-requires-clause-behind g c = (eighth 0 c.eights.i, (c.eights.invariant.part0, eighth-ends 0 c.eights.i _ (omega arith)))

pub with-p1-requires-clause-behind : goal.with-p1-requires-clause-behind
with-p1-requires-clause-behind g c = (eighth 1 c.eights.i, (c.eights.invariant.part1, eighth-ends 1 c.eights.i _ (omega arith)))

pub with-p2-requires-clause-behind : goal.with-p2-requires-clause-behind
with-p2-requires-clause-behind g c = (eighth 2 c.eights.i, (c.eights.invariant.part2, eighth-ends 2 c.eights.i _ (omega arith)))

pub with-p3-requires-clause-behind : goal.with-p3-requires-clause-behind
with-p3-requires-clause-behind g c = (eighth 3 c.eights.i, (c.eights.invariant.part3, eighth-ends 3 c.eights.i _ (omega arith)))

pub with-p4-requires-clause-behind : goal.with-p4-requires-clause-behind
with-p4-requires-clause-behind g c = (eighth 4 c.eights.i, (c.eights.invariant.part4, eighth-ends 4 c.eights.i _ (omega arith)))

pub with-p5-requires-clause-behind : goal.with-p5-requires-clause-behind
with-p5-requires-clause-behind g c = (eighth 5 c.eights.i, (c.eights.invariant.part5, eighth-ends 5 c.eights.i _ (omega arith)))

pub with-p6-requires-clause-behind : goal.with-p6-requires-clause-behind
with-p6-requires-clause-behind g c = (eighth 6 c.eights.i, (c.eights.invariant.part6, eighth-ends 6 c.eights.i _ (omega arith)))

pub with-p7-requires-clause-behind : goal.with-p7-requires-clause-behind
with-p7-requires-clause-behind g c = (eighth 7 c.eights.i, (c.eights.invariant.part7, eighth-ends 7 c.eights.i _ (omega arith)))

pub eights-preserved : goal.eights-preserved
eights-preserved g c =
    let i = c.eights.i in
    let turns : i % 8 ≡ 0 = c.eights.invariant.whole_turns in
    record {
      in_range = omega arith;
      whole_turns = omega arith;
      part0 = c.with-p0.ensures (eighth 0 i) (eighth 0 (i + 8)) (eighth-more 0 i i (omega arith) turns (omega arith)) c.eights.invariant.part0;
      part1 = c.with-p1.ensures (eighth 1 i) (eighth 1 (i + 8)) (eighth-more 1 i (i + 1) (omega arith) turns (omega arith)) c.eights.invariant.part1;
      part2 = c.with-p2.ensures (eighth 2 i) (eighth 2 (i + 8)) (eighth-more 2 i (i + 2) (omega arith) turns (omega arith)) c.eights.invariant.part2;
      part3 = c.with-p3.ensures (eighth 3 i) (eighth 3 (i + 8)) (eighth-more 3 i (i + 3) (omega arith) turns (omega arith)) c.eights.invariant.part3;
      part4 = c.with-p4.ensures (eighth 4 i) (eighth 4 (i + 8)) (eighth-more 4 i (i + 4) (omega arith) turns (omega arith)) c.eights.invariant.part4;
      part5 = c.with-p5.ensures (eighth 5 i) (eighth 5 (i + 8)) (eighth-more 5 i (i + 5) (omega arith) turns (omega arith)) c.eights.invariant.part5;
      part6 = c.with-p6.ensures (eighth 6 i) (eighth 6 (i + 8)) (eighth-more 6 i (i + 6) (omega arith) turns (omega arith)) c.eights.invariant.part6;
      part7 = c.with-p7.ensures (eighth 7 i) (eighth 7 (i + 8)) (eighth-more 7 i (i + 7) (omega arith) turns (omega arith)) c.eights.invariant.part7;
    }

pub join-requires-clause-apart : goal.join-requires-clause-apart
join-requires-clause-apart g c = (eighth 0 c.eights.i, (eighth 4 c.eights.i, ((makes_pair 0 4 c.eights.i (omega arith)).apart, (c.eights.invariant.part0, c.eights.invariant.part4))))

pub join-all-requires-clause-apart : goal.join-all-requires-clause-apart
join-all-requires-clause-apart g c =
    let n = c.eights.i in
    let pair04 = c.join.ensures (eighth 0 n) (eighth 4 n) (pair 0 4 n) (makes_pair 0 4 n (omega arith)) c.eights.invariant.part0 c.eights.invariant.part4 in
    ((λ _. false), (pair 0 4 n, ((joins_first n).apart, ((c.none-all.ensures (λ _. false) (λ k. refl)), pair04))))

pub join-requires-2-clause-apart : goal.join-requires-2-clause-apart
join-requires-2-clause-apart g c = (eighth 1 c.eights.i, (eighth 5 c.eights.i, ((makes_pair 1 5 c.eights.i (omega arith)).apart, (c.eights.invariant.part1, c.eights.invariant.part5))))

pub join-all-requires-2-clause-apart : goal.join-all-requires-2-clause-apart
join-all-requires-2-clause-apart g c =
    let n = c.eights.i in
    let pair04 = c.join.ensures (eighth 0 n) (eighth 4 n) (pair 0 4 n) (makes_pair 0 4 n (omega arith)) c.eights.invariant.part0 c.eights.invariant.part4 in
    let one = c.join-all.ensures (λ _. false) (pair 0 4 n) (one_pair n) (joins_first n) (c.none-all.ensures (λ _. false) (λ k. refl)) pair04 in
    let pair15 = c.join-2.ensures (eighth 1 n) (eighth 5 n) (pair 1 5 n) (makes_pair 1 5 n (omega arith)) c.eights.invariant.part1 c.eights.invariant.part5 in
    ((one_pair n), (pair 1 5 n, ((joins_second n).apart, (one, pair15))))

pub join-requires-3-clause-apart : goal.join-requires-3-clause-apart
join-requires-3-clause-apart g c = (eighth 2 c.eights.i, (eighth 6 c.eights.i, ((makes_pair 2 6 c.eights.i (omega arith)).apart, (c.eights.invariant.part2, c.eights.invariant.part6))))

pub join-all-requires-3-clause-apart : goal.join-all-requires-3-clause-apart
join-all-requires-3-clause-apart g c =
    let n = c.eights.i in
    let pair04 = c.join.ensures (eighth 0 n) (eighth 4 n) (pair 0 4 n) (makes_pair 0 4 n (omega arith)) c.eights.invariant.part0 c.eights.invariant.part4 in
    let one = c.join-all.ensures (λ _. false) (pair 0 4 n) (one_pair n) (joins_first n) (c.none-all.ensures (λ _. false) (λ k. refl)) pair04 in
    let pair15 = c.join-2.ensures (eighth 1 n) (eighth 5 n) (pair 1 5 n) (makes_pair 1 5 n (omega arith)) c.eights.invariant.part1 c.eights.invariant.part5 in
    let two = c.join-all-2.ensures (one_pair n) (pair 1 5 n) (two_pairs n) (joins_second n) one pair15 in
    let pair26 = c.join-3.ensures (eighth 2 n) (eighth 6 n) (pair 2 6 n) (makes_pair 2 6 n (omega arith)) c.eights.invariant.part2 c.eights.invariant.part6 in
    ((two_pairs n), (pair 2 6 n, ((joins_third n).apart, (two, pair26))))

pub join-requires-4-clause-apart : goal.join-requires-4-clause-apart
join-requires-4-clause-apart g c = (eighth 3 c.eights.i, (eighth 7 c.eights.i, ((makes_pair 3 7 c.eights.i (omega arith)).apart, (c.eights.invariant.part3, c.eights.invariant.part7))))

pub join-all-requires-4-clause-apart : goal.join-all-requires-4-clause-apart
join-all-requires-4-clause-apart g c =
    let n = c.eights.i in
    let pair04 = c.join.ensures (eighth 0 n) (eighth 4 n) (pair 0 4 n) (makes_pair 0 4 n (omega arith)) c.eights.invariant.part0 c.eights.invariant.part4 in
    let one = c.join-all.ensures (λ _. false) (pair 0 4 n) (one_pair n) (joins_first n) (c.none-all.ensures (λ _. false) (λ k. refl)) pair04 in
    let pair15 = c.join-2.ensures (eighth 1 n) (eighth 5 n) (pair 1 5 n) (makes_pair 1 5 n (omega arith)) c.eights.invariant.part1 c.eights.invariant.part5 in
    let two = c.join-all-2.ensures (one_pair n) (pair 1 5 n) (two_pairs n) (joins_second n) one pair15 in
    let pair26 = c.join-3.ensures (eighth 2 n) (eighth 6 n) (pair 2 6 n) (makes_pair 2 6 n (omega arith)) c.eights.invariant.part2 c.eights.invariant.part6 in
    let three = c.join-all-3.ensures (two_pairs n) (pair 2 6 n) (three_pairs n) (joins_third n) two pair26 in
    let pair37 = c.join-4.ensures (eighth 3 n) (eighth 7 n) (pair 3 7 n) (makes_pair 3 7 n (omega arith)) c.eights.invariant.part3 c.eights.invariant.part7 in
    ((three_pairs n), (pair 3 7 n, ((joins_fourth n).apart, (three, pair37))))

pub rest-init : goal.rest-init
rest-init g c =
    let n = c.eights.i in
    let pair04 = c.join.ensures (eighth 0 n) (eighth 4 n) (pair 0 4 n) (makes_pair 0 4 n (omega arith)) c.eights.invariant.part0 c.eights.invariant.part4 in
    let one = c.join-all.ensures (λ _. false) (pair 0 4 n) (one_pair n) (joins_first n) (c.none-all.ensures (λ _. false) (λ k. refl)) pair04 in
    let pair15 = c.join-2.ensures (eighth 1 n) (eighth 5 n) (pair 1 5 n) (makes_pair 1 5 n (omega arith)) c.eights.invariant.part1 c.eights.invariant.part5 in
    let two = c.join-all-2.ensures (one_pair n) (pair 1 5 n) (two_pairs n) (joins_second n) one pair15 in
    let pair26 = c.join-3.ensures (eighth 2 n) (eighth 6 n) (pair 2 6 n) (makes_pair 2 6 n (omega arith)) c.eights.invariant.part2 c.eights.invariant.part6 in
    let three = c.join-all-3.ensures (two_pairs n) (pair 2 6 n) (three_pairs n) (joins_third n) two pair26 in
    let pair37 = c.join-4.ensures (eighth 3 n) (eighth 7 n) (pair 3 7 n) (makes_pair 3 7 n (omega arith)) c.eights.invariant.part3 c.eights.invariant.part7 in
    let all = c.join-all-4.ensures (three_pairs n) (pair 3 7 n) (below n) (joins_fourth n) three pair37 in
    record { in_range = c.eights.invariant.in_range; part = all }

pub with-all-requires-clause-behind : goal.with-all-requires-clause-behind
with-all-requires-clause-behind g c = (below c.rest.i, (c.rest.invariant.part, below-ends c.rest.i))

pub rest-preserved : goal.rest-preserved
rest-preserved g c =
    let i = c.rest.i in
    record { in_range = omega arith; part = c.with-all.ensures (below i) (below (i + 1)) (below-more i) c.rest.invariant.part }

pub returns : goal.returns
returns g c =
    let n = c.len-n.ensures in
    let end : c.rest.i ≡ g.P.PartialResults.len c.args.parts.now = omega (arith, n) in
    subst (λ m. g.P.PartialResults.is_result c.args.parts.now (below m) c.rest.all) end c.rest.invariant.part
