-- A reference as a function is passed it. Assumes `Logic`.
use Prim.Native.Nat.{ℕ}
use base.Fml.{Lft, Share}

-- its lifetime, the share of it that the caller shows, where it points and what it refers to
pub record Shown (D : Type 0) : Type 0 where
  pub κ : Lft
  pub q : Share
  pub rb : ℕ
  pub ro : ℕ
  pub d : D

abbrev pub shown_as : {D : Type 0} → Lft → Share → ℕ × ℕ → D → Shown D
shown_as κ q at d = record { κ = κ; q = q; rb = at.0; ro = at.1; d = d }
