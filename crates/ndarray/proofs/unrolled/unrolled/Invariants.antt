use Rattle.std.proofs.Common.{◌≡◌, ◌-◌, ◌%◌, ◌≤◌}
use Rattle.ndarray.proofs.parts.EighthParts.{below, eighth}
use Rattle.ndarray.proofs.unrolled.unrolled.Given as goal

abbrev pub invariant-eights : goal.invariant-eights
invariant-eights g l = record {
  in_range : l.i ≤ l.n;
  whole_turns : l.i % 8 ≡ 0;
  part0 : g.P.PartialResults.is_result l.parts (eighth 0 l.i) l.p0;
  part1 : g.P.PartialResults.is_result l.parts (eighth 1 l.i) l.p1;
  part2 : g.P.PartialResults.is_result l.parts (eighth 2 l.i) l.p2;
  part3 : g.P.PartialResults.is_result l.parts (eighth 3 l.i) l.p3;
  part4 : g.P.PartialResults.is_result l.parts (eighth 4 l.i) l.p4;
  part5 : g.P.PartialResults.is_result l.parts (eighth 5 l.i) l.p5;
  part6 : g.P.PartialResults.is_result l.parts (eighth 6 l.i) l.p6;
  part7 : g.P.PartialResults.is_result l.parts (eighth 7 l.i) l.p7;
}

abbrev pub decreases-eights : goal.decreases-eights
decreases-eights g l = l.n - l.i

abbrev pub invariant-rest : goal.invariant-rest
invariant-rest g l = record {
  in_range : l.i ≤ l.n;
  part : g.P.PartialResults.is_result l.parts (below l.i) l.all;
}

abbrev pub decreases-rest : goal.decreases-rest
decreases-rest g l = l.n - l.i
