use Rattle.std.proofs.Common.{subst, sym, ◌∙◌}
use Rattle.ndarray.specs.Grid.{IsGrid}
use Rattle.ndarray.proofs.cells.Cells.{known-by_cells}
use Rattle.ndarray.proofs.strides.Reach.{length-cells_at, grid_at-same, Reaches-same}
use Rattle.ndarray.proofs.base.array.ArrayBase.view.Goals as goal

pub invariant_of-result : goal.invariant_of-result
invariant_of-result g c = rw (c.copied.ensures.start, c.copied.ensures.dim, c.copied.ensures.strides) (Reaches-same _ _ _ _ _ (λ no. absurd no) (λ p. sym (c.seen.ensures p)) c.self.invariant)

pub returns-clause-same : goal.returns-clause-same
returns-clause-same g c = rw (c.copied.ensures.start, c.copied.ensures.dim, c.copied.ensures.strides) (grid_at-same _ _ _ _ _ c.seen.ensures ∙ c.self.view_is)

pub returns-clause-whole : goal.returns-clause-whole
returns-clause-whole g c = subst IsGrid (sym (returns-clause-same g c)) (subst IsGrid c.self.view_is (length-cells_at _ _ _ _ c.self.invariant))

pub returns-clause-known : goal.returns-clause-known
returns-clause-known g c = known-by_cells _ (returns-clause-whole g c)
