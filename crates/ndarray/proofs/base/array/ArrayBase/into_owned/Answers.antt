use Rattle.std.proofs.Common.{◌∙◌, inl, refl, sym}
use Rattle.ndarray.proofs.strides.Reach.{length-cells_at, grid_at-same, Reaches-same}
use Rattle.ndarray.proofs.base.array.ArrayBase.into_owned.Goals as goal

pub returns-in-Ok-clause-cells : goal.returns-in-Ok-clause-cells
returns-in-Ok-clause-cells g c = inl (grid_at-same _ _ _ _ _ c.in-Ok.ensures.same ∙ c.self.view_is)

pub returns-in-Ok-clause-whole : goal.returns-in-Ok-clause-whole
returns-in-Ok-clause-whole g c = length-cells_at _ _ _ _ (Reaches-same _ _ _ _ _ (λ no. absurd no) (λ p. sym (c.in-Ok.ensures.same p)) c.self.invariant)

pub returns-in-Ok-clause-owned : goal.returns-in-Ok-clause-owned
returns-in-Ok-clause-owned g c = λ _. (refl, grid_at-same _ _ _ _ _ c.in-Ok.ensures.same ∙ c.self.view_is)

pub returns-in-Ok-clause-same : goal.returns-in-Ok-clause-same
returns-in-Ok-clause-same g c = λ _. grid_at-same _ _ _ _ _ c.in-Ok.ensures.same ∙ c.self.view_is
