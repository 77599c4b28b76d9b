-- Inside `base`: what a value ends as, once the borrows of its parts have ended.
use Rattle.std.specs.Prelude.{ℕ, Bool, List, Option, Some, slice_set}
use Rattle.std.specs.Borrow.{Fml, RattleType, MutBor, Array, Lends}
use base.Fml.{GName}
use denote.Follow.{follows, follows_both}
use Rattle.ndarray.specs.base.Slots.{somes, put_in, weave}
use Rattle.ndarray.specs.declared.base.region.RegionRepr.{RegionRepr}
use Rattle.ndarray.specs.contracts.base.region.RegionRepr.{the_row}

-- a region with other values at its places
abbrev pub with_slots : {M X : Type 0} → RegionRepr M X → List (Option X) → RegionRepr M X
with_slots r cs = record { shared = r.shared; marker = r.marker; name = r.name; reborrow_name = r.reborrow_name; slots = cs }

module _ (V : RattleType) where
  -- the slice has the values that the borrow ends at
  abbrev pub follows_slice : MutBor (List V.Denot) → GName → Fml
  follows_slice s γ = follows (Array V 0) (Array V 0) s.ghost_name γ (λ ws. ws)

  -- the whole has the values of both parts, each at its place
  abbrev pub follows_parts : List Bool → List (Option V.Denot) → GName → GName → GName → Fml
  follows_parts m cs γ γ₁ γ₂ = follows_both (Array V 0) (Array V 0) (Array V 0) γ γ₁ γ₂ (weave m cs)

  -- the whole has what was written to the run from `from` on
  abbrev pub follows_run : List (Option V.Denot) → GName → ℕ → GName → Fml
  follows_run cs γ from γ' = follows (Array V 0) (Array V 0) γ γ' (λ ws. somes (put_in cs from ws))

-- the region has at the place what was written there
abbrev pub lends_place : (M V : RattleType) → MutBor (RegionRepr M.Denot V.Denot) → ℕ → MutBor V.Denot → Fml
lends_place M V r i s = Lends (the_row M V) V r s (λ w. with_slots r.now (slice_set r.now.slots i (Some w)))
