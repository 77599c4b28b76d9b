-- Inside `base`: what a region owns in memory, values that lie at some of the places of a slice.
use Rattle.std.specs.Prelude.{ℕ, ◌+◌, ◌*◌, ◌^◌, List, [], ◌∷◌, length, Option, Some, None}
use base.Stored.{coded_list}
use base.Fml.{Lft, GName, Fml, ftrue, ffalse, fsep, fobs, fbor, flt}
use types.SemTy.{SemTy, Body}
use denote.RattleType.{RattleType}
use denote.Memory.{mem, shared_of}
use denote.Sharing.{nothing, said, beside, within}
use denote.RawPtr.{Ptr, block_ptr, null_ptr}
use Rattle.ndarray.specs.base.Slots.{somes}

module _ (V : RattleType) where
  -- ws at the places that cs holds, the first place o bytes into the block b
  abbrev pub scattered : ℕ → ℕ → List (Option V.Denot) → List V.Denot → Fml
  scattered b o [] [] = ftrue
  scattered b o [] (w ∷ ws) = ffalse
  scattered b o (None ∷ cs) ws = scattered b (o + (mem V).size) cs ws
  scattered b o (Some c ∷ cs) [] = ffalse
  scattered b o (Some c ∷ cs) (w ∷ ws) = fsep ((mem V).own_at w b o) (scattered b (o + (mem V).size) cs ws)

  -- these values as a type in memory, which a borrow may be of
  abbrev pub ScatteredElements : List (Option V.Denot) → SemTy
  ScatteredElements cs = record { rep = List V.Denot; coded = coded_list V.coded; size = 0; own_at = λ ws b o. scattered b o cs ws }

  -- the places take fewer than 2 ^ 63 bytes
  abbrev pub fit : List (Option V.Denot) → Fml
  fit cs = flt (length cs * (mem V).size) (2 ^ 63)

  -- a `&mut` to them, as one to a slice is
  abbrev pub lent_at : Lft → ℕ → ℕ → GName → List (Option V.Denot) → Fml
  lent_at κ b o γ cs = fsep (fobs γ ((coded_list V.coded).code (somes cs))) (fbor κ (Body (ScatteredElements cs) b o γ))

-- what a region owns besides its fields: that its places fit, and their borrow of that name, for that lifetime
abbrev pub region_owns : Lft → (V : RattleType) → Ptr → GName → List (Option V.Denot) → Fml
region_owns κ V (block_ptr b o) γ cs = fsep (fit V cs) (lent_at V κ b o γ cs)
region_owns κ V null_ptr γ cs = ffalse

module _ (V : RattleType) where
  -- what a `&` to each of them holds
  abbrev pub scattered_lent : ℕ → ℕ → List (Option V.Denot) → Lft → Fml
  scattered_lent b o [] = nothing
  scattered_lent b o (None ∷ cs) = scattered_lent b (o + (mem V).size) cs
  scattered_lent b o (Some c ∷ cs) = beside (shared_of V c b o) (scattered_lent b (o + (mem V).size) cs)

-- what a `&` to a region holds besides its fields, within the region's lifetime
abbrev pub region_lent : Lft → (V : RattleType) → Ptr → List (Option V.Denot) → Lft → Fml
region_lent κ V (block_ptr b o) cs = beside (said (fit V cs)) (within κ (scattered_lent V b o cs))
region_lent κ V null_ptr cs = said ffalse

-- what a `SharedRegion` owns besides its fields: it has no places, and is no null pointer
abbrev pub shared_region_owns : (V : RattleType) → Ptr → List (Option V.Denot) → Fml
shared_region_owns V (block_ptr b o) [] = fsep (fit V []) ftrue
shared_region_owns V (block_ptr b o) (c ∷ cs) = ffalse
shared_region_owns V null_ptr cs = ffalse

-- what a `&` to a `SharedRegion` holds besides its fields
abbrev pub shared_region_lent : (V : RattleType) → Ptr → List (Option V.Denot) → Lft → Fml
shared_region_lent V (block_ptr b o) cs = beside (said (fit V cs)) (scattered_lent V b o cs)
shared_region_lent V null_ptr cs = said ffalse
