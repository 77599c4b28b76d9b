-- What a `&` to a region reaches: its places, and runs of them. Assumes `Logic`.
use mathlib.Core.Path.{◌≡◌, refl, ap, ◌∙◌, sym, subst}
use mathlib.Core.List.{List, [], ◌∷◌, ◌++◌, map}
use Rattle.std.specs.Prelude.{Option, Some, None}
use seplogic.Ra.Ura.{Ura}
use base.Logic.{ent, id⊢, mono_r, via, snd∗}
use base.Fml.{Lft, Incl, Incl-refl, Fml}
use mir.Val.{Val, vstruct, of_list}
use types.Logic.{Logic, sem}
use contract.BorrowLft.{⊑_meet}
use denote.RattleType.{RattleType}
use denote.Laws.{Is}
use denote.Opens.{Opens}
use denote.Copied.{Struct-Copied}
use denote.Struct.Laws.{RawPtr-copy, field_copy}
use denote.Struct.Struct.{Struct}
use denote.Struct.Owning.{shape}
use denote.SharingLaws.{shortens}
use denote.RawPtr.{Ptr, block_ptr, null_ptr, ptr_val}
use denote.Param.Laws.{param_laws}
use Rattle.core.specs.contracts.marker.PhantomData as marker
use Rattle.core.proofs.mem.Param.{El, R, el_x}
use Rattle.ndarray.specs.base.Scattered.{fit, scattered_lent, region_lent, shared_region_lent}
use Rattle.ndarray.proofs.regions.Sharing.{strewn_lent_laws}
use Rattle.ndarray.proofs.regions.Memory.{shared_reg}
use Rattle.ndarray.specs.contracts.base.region.SharedRegion as S-type
use Prim.Native.Nat.{ℕ, zero, suc, ◌+◌, ◌*◌, ◌≤◌}
use native.Mathlib.Omega.{arith}
use native.Mathlib.Nat.{zero-mul, suc-mul}
use lib.ListN.{length, take, drop, take-append-drop}
use types.Kit.{‵, ◌$◌, ◌∵◌, !, qed, by, keep, use1, rewrite, done}
use denote.Memory.{mem, shared_of}
use denote.Slice.{elements_shared}

-- the data fields of a `SharedRegion`
abbrev pub Words : El → RattleType
Words E = Struct (shape (S-type.the_type (R E)))

module _ (E : El) where
  pub told : (p : Ptr) (vs : List Val) → Is (Words E) (p, (tt, tt)) vs → vs ≡ shared_reg p ∷ []
  told p vs is = is.1.0 ∙ ap (λ (ws : List Val). vstruct (of_list (ws ++ (is.0.1.0 ++ []))) ∷ []) is.1.1.0 ∙ ap (λ (ws : List Val). vstruct (of_list (ptr_val p ∷ (ws ++ []))) ∷ []) is.1.1.1.0.1.0

  pub words_open : {M : Type 1} {𝓤 : Ura M} (𝓛 : Logic 𝓤) → Opens 𝓛 (Words E)
  words_open {M} {𝓤 = 𝓤} 𝓛 = (Struct-Copied 𝓛 (shape (S-type.the_type (R E))) (refl, (refl, tt)) (RawPtr-copy.copied M 𝓤 𝓛, ((field_copy (marker.the_type (R E)) tt).copied M 𝓤 𝓛, tt))).opens

module _ (E : El) {M : Type 1} {𝓤 : Ura M} (𝓛 : Logic 𝓤) (l κ : Lft) (inc : Incl κ l) where
  pub lent_read : (p : Ptr) (cs : List (Option (el_x E))) → ent 𝓤 (sem 𝓛 (region_lent l (R E) p cs κ)) (sem 𝓛 (shared_region_lent (R E) p cs κ))
  lent_read (block_ptr b o) cs = mono_r 𝓤 (sem 𝓛 (fit (R E) cs)) (shortens 𝓛 (scattered_lent (R E) b o cs) (strewn_lent_laws (R E) ((param_laws 0 E.row E.laws).shr_laws) b o cs)
      (κ ++ l) κ (⊑_meet κ κ l (Incl-refl κ) inc))
  lent_read null_ptr cs = id⊢ 𝓤 _

module _ (E : El) {M : Type 1} {𝓤 : Ura M} (𝓛 : Logic 𝓤) (b : ℕ) (κ : Lft) where
  abbrev s : ℕ
  s = (mem (R E)).size

  abbrev Place : Type 0
  Place = Option (el_x E)

  abbrev Seen : ℕ → List Place → Fml
  Seen o cs = scattered_lent (R E) b o cs κ

  from_on : (cs : List Place) (i o at : ℕ) → i ≤ length cs → at ≡ i * s + o → ent 𝓤 (sem 𝓛 (Seen o cs)) (sem 𝓛 (Seen at (drop i cs)))
  from_on cs zero o at le e = let same : o ≡ at = omega (arith, zero-mul s) in subst (λ k. ent 𝓤 (sem 𝓛 (Seen o cs)) (sem 𝓛 (Seen k cs))) same (id⊢ 𝓤 _)
  from_on [] (suc i) o at le e = absurd (omega arith)
  from_on (None ∷ cs) (suc i) o at le e = from_on cs i (o + s) at (omega arith) (omega (arith, suc-mul i s))
  from_on (Some c ∷ cs) (suc i) o at le e =
      via 𝓤 (sem 𝓛 (Seen (o + s) cs)) (snd∗ 𝓤 (sem 𝓛 (shared_of (R E) c b o κ)) (sem 𝓛 (Seen (o + s) cs))) (from_on cs i (o + s) at (omega arith) (omega (arith, suc-mul i s)))

  up_to : (xs : List (el_x E)) (rest : List Place) (o : ℕ) → ent 𝓤 (sem 𝓛 (Seen o (map Some xs ++ rest))) (sem 𝓛 (elements_shared (R E) xs b o κ))
  up_to [] rest o = qed 𝓛 (‵ (Seen o rest) ∷ []) ∵ keep ! [] $ done !
  up_to (x ∷ xs) rest o = mono_r 𝓤 (sem 𝓛 (shared_of (R E) x b o κ)) (up_to xs rest (o + s))

  pub run_seen : (o : ℕ) (cs : List Place) (i n : ℕ) (xs : List (el_x E)) → i ≤ length cs → take n (drop i cs) ≡ map Some xs
      → ent 𝓤 (sem 𝓛 (Seen o cs)) (sem 𝓛 (elements_shared (R E) xs b (i * s + o) κ))
  run_seen o cs i n xs le e = qed 𝓛 (‵ (Seen o cs) ∷ []) ∵ use1 𝓛 (‵ (Seen (i * s + o) (drop i cs))) (from_on cs i o (i * s + o) le refl) $
      rewrite ! 0 (λ (l : List Place). ‵ (Seen (i * s + o) l)) (sym (take-append-drop n (drop i cs)) ∙ ap (λ l. l ++ drop n (drop i cs)) e) refl $ by ! (up_to xs (drop n (drop i cs)) (i * s + o))
