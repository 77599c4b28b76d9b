-- A `&` to a region is made where one to a value is. Assumes `Logic`.
use Prim.Native.Nat.{ℕ, ◌+◌}
use mathlib.Core.List.{[], ◌∷◌, ◌++◌}
use Rattle.std.specs.Prelude.{List, Option, Some, None}
use seplogic.Ra.Ura.{Ura}
use base.Logic.{sep}
use base.Fml.{Lft, Incl, Incl-trans, GName, ftrue, ffalse, fbor}
use types.Logic.{Logic, lfts, sem}
use ghost.Rules.{span}
use types.Kit.{split, ‵, ◌⊛◌, raw, later, await, ◌$◌, !, qed, use1, use2, updating, now, done}
use contract.BorrowLft.{⊑_meet, meet_⊑_left, meet_⊑_right}
use denote.RattleType.{RattleType, RowLaws}
use denote.Memory.{mem, shared_of}
use denote.Param.Laws.{Laws}
use denote.RawPtr.{Ptr, block_ptr, null_ptr}
use denote.Sharing.{ShrLaws, nothing, said, within}
use denote.SharingLaws.{beside_shr_laws, nothing_shr_laws, said_shr_laws, within_shr_laws}
use denote.Shares.{Shares-less, peels}
use denote.Struct.Lending.{Lends, Lends-both, Lends-nothing, Lends-said, Lends-false}
use Rattle.ndarray.specs.base.Slots.{somes}
use Rattle.ndarray.specs.base.Scattered.{scattered, ScatteredElements, fit, lent_at, scattered_lent, region_owns, region_lent, shared_region_owns, shared_region_lent}

module _ (R : RattleType) (L : RowLaws R) where
  pub strewn_lent_laws : (b o : ℕ) (cs : List (Option R.Denot)) → ShrLaws (scattered_lent R b o cs)
  strewn_lent_laws b o [] = nothing_shr_laws
  strewn_lent_laws b o (None ∷ cs) = strewn_lent_laws b (o + (mem R).size) cs
  strewn_lent_laws b o (Some c ∷ cs) = beside_shr_laws _ _ (L c b o) (strewn_lent_laws b (o + (mem R).size) cs)

  pub region_lent_laws : (κ : Lft) (p : Ptr) (cs : List (Option R.Denot)) → ShrLaws (region_lent κ R p cs)
  region_lent_laws κ (block_ptr b o) cs = beside_shr_laws _ _ (said_shr_laws (fit R cs) tt) (within_shr_laws κ (scattered_lent R b o cs) (strewn_lent_laws b o cs))
  region_lent_laws κ null_ptr cs = said_shr_laws ffalse tt

  pub reading_lent_laws : (p : Ptr) (cs : List (Option R.Denot)) → ShrLaws (shared_region_lent R p cs)
  reading_lent_laws (block_ptr b o) cs = beside_shr_laws _ _ (said_shr_laws (fit R cs) tt) (strewn_lent_laws b o cs)
  reading_lent_laws null_ptr cs = said_shr_laws ffalse tt

module _ {M : Type 1} {𝓤 : Ura M} (𝓛 : Logic 𝓤) (κ' l : Lft) (R : RattleType) (L : Laws R) (inc : Incl l R.lives) (ends : Incl l κ') where
  open 𝓛 use {H, A}

  Lends-scattered : (b o : ℕ) (cs : List (Option R.Denot)) → Lends 𝓛 (scattered R b o cs (somes cs)) (scattered_lent R b o cs) l
  Lends-scattered b o [] = Lends-nothing 𝓛 ftrue l
  Lends-scattered b o (None ∷ cs) = Lends-scattered b (o + (mem R).size) cs
  Lends-scattered b o (Some c ∷ cs) =
      Lends-both 𝓛 ((mem R).own_at c b o) (scattered R b (o + (mem R).size) cs (somes cs)) (shared_of R c b o) (scattered_lent R b (o + (mem R).size) cs) l
      (λ κ ts. Shares-less 𝓛 R R.lives l inc (L.shares 𝓛) c κ ts b o) (Lends-scattered b (o + (mem R).size) cs)

  Lends-loan : (b o : ℕ) (γ : GName) (cs : List (Option R.Denot)) → Lends 𝓛 (lent_at R κ' b o γ cs) (within κ' (scattered_lent R b o cs)) l
  Lends-loan b o γ cs κ ts i sp =
      let sm : Incl (span ts) (κ ++ κ') = ⊑_meet (span ts) κ κ' sp (Incl-trans i ends) in
      qed 𝓛 (‵ (fbor κ (lent_at R κ' b o γ cs)) ∷ raw (lfts 𝓛 ts) ∷ []) {P = H.⇛ (sep 𝓤 (sem 𝓛 (scattered_lent R b o cs (κ ++ κ'))) (lfts 𝓛 ts))} (updating ! $
      use1 𝓛 (‵ (fbor (κ ++ κ') (lent_at R κ' b o γ cs))) (𝓛.bors.bor_shorten κ (κ ++ κ') (lent_at R κ' b o γ cs) (meet_⊑_left κ κ')) $
      use2 𝓛 (later (‵ (fbor (κ ++ κ') (scattered R b o cs (somes cs))) ⊛ raw (lfts 𝓛 ts))) (peels 𝓛 (ScatteredElements R cs) (κ ++ κ') κ' ts sm γ (somes cs) b o (meet_⊑_right κ κ')) $ await ! tt $
      use1 𝓛 (later (‵ (scattered_lent R b o cs (κ ++ κ')) ⊛ raw (lfts 𝓛 ts))) (Lends-scattered b o cs (κ ++ κ') ts i sm) $ await ! tt $ split ! $ now ! $ done !)

  pub Lends-region : (p : Ptr) (γ : GName) (cs : List (Option R.Denot)) → Lends 𝓛 (region_owns κ' R p γ cs) (region_lent κ' R p cs) l
  Lends-region (block_ptr b o) γ cs = Lends-both 𝓛 (fit R cs) (lent_at R κ' b o γ cs) (said (fit R cs)) (within κ' (scattered_lent R b o cs)) l (Lends-said 𝓛 (fit R cs) tt l) (Lends-loan b o γ cs)
  Lends-region null_ptr γ cs = Lends-false 𝓛 (said ffalse) l

module _ {M : Type 1} {𝓤 : Ura M} (𝓛 : Logic 𝓤) (l : Lft) (R : RattleType) where
  pub Lends-shared_region : (p : Ptr) (cs : List (Option R.Denot)) → Lends 𝓛 (shared_region_owns R p cs) (shared_region_lent R p cs) l
  Lends-shared_region (block_ptr b o) [] = Lends-both 𝓛 (fit R []) ftrue (said (fit R [])) nothing l (Lends-said 𝓛 (fit R []) tt l) (Lends-nothing 𝓛 ftrue l)
  Lends-shared_region (block_ptr b o) (c ∷ cs) = Lends-false 𝓛 (shared_region_lent R (block_ptr b o) (c ∷ cs)) l
  Lends-shared_region null_ptr cs = Lends-false 𝓛 (said ffalse) l
