-- The loan that a region holds is lent again, for a shorter time, and the region follows. Assumes `Logic`.
use mathlib.Core.Path.{◌≡◌, refl, sym, ap}
use Prim.Native.Nat.{ℕ, suc, ◌+◌, ◌*◌, ◌^◌}
use mathlib.Core.List.{List, [], ◌∷◌}
use lib.ListN.{length}
use seplogic.Ra.Ura.{Ura}
use base.Fraction.{full_share}
use base.Logic.{SProp, ent, sep, ex, guard, guard_i, never_e}
use base.Fml.{Lft, Incl, GName, Share, Fml, fsep, flt, fobs, fbor}
use types.Logic.{Logic, sem}
use types.Kit.{‵, ◌⊛◌, given, learn, ◌$◌, ◌∵◌, !, qed, move, use1, use2, split, rewrite, fsplit, fjoin, done, check}
use types.SemTy.{SemTy, Body as Borrowed}
use types.Follow.{after}
use types.Through.{hands_through}
use denote.RattleType.{RattleType}
use denote.Memory.{mem, part_at}
use denote.RawPtr.{Ptr, block_ptr}
use denote.Struct.OwningLaws.{part_out, part_in}
use Rattle.std.specs.Prelude.{Option, Some, None}
use Rattle.core.proofs.mem.Param.{El, R, el_x}
use Rattle.ndarray.specs.base.Slots.{somes}
use Rattle.ndarray.proofs.regions.Slots.{fill, somes_fill, length-fill}
use Rattle.ndarray.specs.base.Scattered.{scattered, ScatteredElements, region_owns}
use Rattle.ndarray.specs.base.Follows.{with_slots}
use Rattle.ndarray.proofs.regions.Memory.{Rg, Words}
use Rattle.ndarray.specs.contracts.base.region.RegionRepr as G-type

module _ (V : RattleType) (b : ℕ) where
  strewn_fill : (cs : List (Option V.Denot)) (ws vs : List V.Denot) (o : ℕ) → scattered V b o (fill cs ws) vs ≡ scattered V b o cs vs
  strewn_fill [] ws vs o = refl
  strewn_fill (None ∷ cs) ws vs o = strewn_fill cs ws vs (o + (mem V).size)
  strewn_fill (Some c ∷ cs) [] [] o = refl
  strewn_fill (Some c ∷ cs) (w ∷ ws) [] o = refl
  strewn_fill (Some c ∷ cs) [] (v ∷ vs) o = ap (λ (F : Fml). fsep ((mem V).own_at v b o) F) (strewn_fill cs [] vs (o + (mem V).size))
  strewn_fill (Some c ∷ cs) (w ∷ ws) (v ∷ vs) o = ap (λ (F : Fml). fsep ((mem V).own_at v b o) F) (strewn_fill cs ws vs (o + (mem V).size))

pub Strewn_fill : (V : RattleType) (cs : List (Option V.Denot)) (ws : List V.Denot) → ScatteredElements V (fill cs ws) ≡ ScatteredElements V cs
Strewn_fill V cs ws i = record { rep = List V.Denot; coded = (ScatteredElements V cs).coded; size = 0; own_at = λ vs b o. strewn_fill V b cs ws vs o i }

module _ (E : El) {M : Type 1} {𝓤 : Ura M} (𝓛 : Logic 𝓤) where
  pub as_many : (b : ℕ) (cs : List (Option (el_x E))) (ws : List (el_x E)) (o : ℕ) → ent 𝓤 (sem 𝓛 (scattered (R E) b o cs ws)) (guard 𝓤 (length ws ≡ length (somes cs)) (sem 𝓛 (scattered (R E) b o cs ws)))
  as_many b [] [] o = guard_i 𝓤 (0 ≡ 0) _ refl
  as_many b [] (w ∷ ws) o = never_e 𝓤 _
  as_many b (None ∷ cs) ws o = as_many b cs ws (o + (mem (R E)).size)
  as_many b (Some c ∷ cs) [] o = never_e 𝓤 _
  as_many b (Some c ∷ cs) (w ∷ ws) o = qed 𝓛 (‵ (scattered (R E) b o (Some c ∷ cs) (w ∷ ws)) ∷ []) ∵ fsplit ! $ move ! (1 ∷ []) $
      use1 𝓛 (given (length ws ≡ length (somes cs)) (‵ (scattered (R E) b (o + (mem (R E)).size) cs ws))) (as_many b cs ws (o + (mem (R E)).size)) $ learn ! (λ e. move ! (1 ∷ 0 ∷ []) $ fjoin ! $ check ! (ap suc e) $ done !)

module _ (a : RattleType) (E : El) {M : Type 1} {𝓤 : Ura M} (𝓛 : Logic 𝓤) (κ : Lft) (inc : Incl κ a.lives) (q : Share) (rb ro : ℕ) (γ : GName) (d : (Rg a E).Denot) (b o : ℕ) (here : d.shared.ptr ≡ block_ptr b o) where
  open 𝓛 use {H, A}

  abbrev cs : List (Option (el_x E))
  cs = d.slots

  abbrev S : SemTy
  S = ScatteredElements (R E) cs

  abbrev pub F : List (el_x E) → (Rg a E).Denot
  F ws = with_slots d (fill cs ws)

  abbrev pub Rest : Fml
  Rest = fsep (flt (length cs * (mem (R E)).size) (2 ^ 63)) (part_at (Words a E) full_share (d.shared, (tt, tt)) rb ro)

  abbrev pub Has : List (el_x E) → SProp 𝓤
  Has ws = sep 𝓤 (A.obs d.name (S.coded.code ws)) (sep 𝓤 (A.bor a.lives (Borrowed S b o d.name)) (sem 𝓛 Rest))

  pub cut : ent 𝓤 (sem 𝓛 (part_at (Rg a E) full_share d rb ro)) (Has (somes cs))
  cut = qed 𝓛 (‵ (part_at (Rg a E) full_share d rb ro) ∷ []) ∵
      use1 𝓛 (‵ (part_at (Words a E) full_share (d.shared, (tt, tt)) rb ro) ⊛ ‵ (region_owns a.lives (R E) d.shared.ptr d.name cs)) (part_out 𝓛 (G-type.the_type a (R E)) full_share d rb ro) $ split ! $ move ! (1 ∷ []) $
      rewrite ! 0 (λ (p : Ptr). ‵ (region_owns a.lives (R E) p d.name cs)) here refl $ fsplit ! $ move ! (0 ∷ 2 ∷ []) $ fjoin ! $ move ! (1 ∷ []) $ fsplit ! $ done !

  pub back : (ws : List (el_x E)) → length ws ≡ length (somes cs) → ent 𝓤 (Has ws) (sem 𝓛 (part_at (Rg a E) full_share (F ws) rb ro))
  back ws e = qed 𝓛 (‵ (fobs d.name (S.coded.code ws)) ∷ ‵ (fbor a.lives (Borrowed S b o d.name)) ∷ ‵ Rest ∷ []) ∵
      rewrite ! 0 (λ (zs : List (el_x E)). ‵ (fobs d.name (S.coded.code zs))) (sym (somes_fill cs ws e)) refl $
      rewrite ! 1 (λ (T : SemTy). ‵ (fbor a.lives (Borrowed T b o d.name))) (sym (Strewn_fill (R E) cs ws)) refl $ fjoin ! $
      move ! (1 ∷ []) $ fsplit ! $ rewrite ! 0 (λ (n : ℕ). ‵ (flt (n * (mem (R E)).size) (2 ^ 63))) (sym (length-fill cs ws)) refl $
      move ! (0 ∷ 2 ∷ []) $ fjoin ! $ rewrite ! 0 (λ (p : Ptr). ‵ (region_owns a.lives (R E) p d.name (fill cs ws))) (sym here) refl $ move ! (1 ∷ 0 ∷ []) $
      use2 𝓛 (‵ (part_at (Rg a E) full_share (F ws) rb ro)) (part_in 𝓛 (G-type.the_type a (R E)) full_share (F ws) rb ro) $ done !

  abbrev pub Lent : GName → SProp 𝓤
  Lent ν = sep 𝓤 (A.obs ν (S.coded.code (somes cs))) (sep 𝓤 (A.bor κ (Borrowed S b o ν)) (sep 𝓤 (A.lft κ q) (sem 𝓛 (after (mem (Rg a E)) S γ ν F))))

  pub lends : ent 𝓤 (sep 𝓤 (A.obs γ ((Rg a E).coded.code d)) (sep 𝓤 (A.bor κ (Borrowed (mem (Rg a E)) rb ro γ)) (A.lft κ q))) (H.⇛ (ex 𝓤 Lent))
  lends = hands_through 𝓛 (mem (Rg a E)) S F κ a.lives inc rb ro b o γ d.name (sem 𝓛 Rest) (λ ws. length ws ≡ length (somes cs)) (λ ws. as_many E 𝓛 b cs ws o) back q d (somes cs) cut
