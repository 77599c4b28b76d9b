use Rattle.ndarray.proofs.algebra.Dots.{definitions-agree, dot-is, lane_sums-are, shapes-as_matrices}
use Rattle.ndarray.proofs.laws.dot_agrees.Goals as goal

pub returns-clause-shapes : goal.returns-clause-shapes
returns-clause-shapes g c = shapes-as_matrices

pub returns-clause-ranges : goal.returns-clause-ranges
returns-clause-ranges g c = lane_sums-are g.A.Valued

pub returns-clause-products : goal.returns-clause-products
returns-clause-products g c = dot-is g.A.Valued

pub returns-clause-definitions : goal.returns-clause-definitions
returns-clause-definitions g c = definitions-agree g.A.Valued
