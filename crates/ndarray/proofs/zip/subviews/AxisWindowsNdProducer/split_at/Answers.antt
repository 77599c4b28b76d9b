use Rattle.std.proofs.Common.{arith}
use Rattle.ndarray.proofs.cells.AlongAxis.{AreAlong-part, first-along, length-along_axis, rest-along}
use Rattle.ndarray.proofs.runs.OneAxisProducers.{IsPart-first, IsPart-rest, at-most_line}
use Rattle.ndarray.proofs.zip.subviews.AxisWindowsNdProducer.split_at.Goals as goal

pub split_at-first-requires-clause-within : goal.split_at-first-requires-clause-within
split_at-first-requires-clause-within g c =
    let l = length-along_axis c.self.inside.pieces c.self.inside.axis c.self.invariant in
    let m = at-most_line _ _ _ _ c.self.view_is c.requires.axis_below c.requires.index_at_most in
    omega arith

pub invariant_of-result : goal.invariant_of-result
invariant_of-result g c = AreAlong-part _ _ _ _ _ c.self.invariant c.split_at-first.ensures.first_whole c.split_at-first.ensures.first

pub invariant_of-result-2 : goal.invariant_of-result-2
invariant_of-result-2 g c = AreAlong-part _ _ _ _ _ c.self.invariant c.split_at-first.ensures.second_whole c.split_at-first.ensures.second

pub returns-clause-first : goal.returns-clause-first
returns-clause-first g c =
    IsPart-first _ _ _ _ _ _ c.self.view_is c.requires.axis_below c.requires.index_at_most
    (first-along _ _ _ _ c.self.invariant c.split_at-first.ensures.first_whole (at-most_line _ _ _ _ c.self.view_is c.requires.axis_below c.requires.index_at_most) c.split_at-first.ensures.first)

pub returns-clause-second : goal.returns-clause-second
returns-clause-second g c =
    IsPart-rest _ _ _ _ _ _ c.self.view_is c.requires.axis_below c.requires.index_at_most
    (rest-along _ _ _ _ c.self.invariant c.split_at-first.ensures.second_whole (at-most_line _ _ _ _ c.self.view_is c.requires.axis_below c.requires.index_at_most) c.split_at-first.ensures.second)
