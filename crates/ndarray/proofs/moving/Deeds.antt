-- What a `Deed` owns is taken apart and made, and the three parts into which a `Vec` is reborrow. Assumes `Logic`.
use mathlib.Core.Path.{◌≡◌, refl, ap, ◌∙◌}
use Prim.Native.Nat.{ℕ, ◌-◌, ◌*◌, ◌≤◌, ◌<◌, ◌^◌}
use mathlib.Core.List.{List, [], ◌∷◌, ◌++◌}
use lib.Dec.{T}
use seplogic.Ra.Ura.{Ura}
use mir.Syntax.{w64, ty_array}
use mir.Val.{Val, vint, vptr, vstruct, vcons, vnil, of_list, has_ty, WT}
use mir.Raw.{raw as bare}
use base.Logic.{ent, sep}
use base.Fml.{ftrue, fsep}
use types.Logic.{Logic, sem}
use types.Kit.{Goal, Step, step, Seq, Item, ‵, ◌$◌, ◌∵◌, !, qed, move, drop, rewrite, fsplit, fjoin, fjoin3, fpick, fpack, feq_l, feq_i, flt_l, flt_i, done}
use denote.RattleType.{RattleType, Valss}
use denote.Laws.{Typed}
use denote.Param.{layout}
use denote.RawPtr.{Ptr, block_ptr, room_for, ◌+ₚ◌}
use denote.Shadow.{pure_i}
use denote.Steps.{nothing}
use denote.Struct.Struct.{Struct, within}
use denote.Struct.Owning.{shape}
use denote.Struct.Tuple.{Tuple}
use Rattle.core.proofs.alloc.Calls.{token, Fits}
use Rattle.core.proofs.slots.Opens.{row_val}
use Rattle.core.proofs.slots.Leases.{lease_val}
use Rattle.std_alloc.specs.Vec.Ownership.{owns_if, has_block}
use Rattle.std_alloc.proofs.ResultValues.{and_tt}
use Rattle.std_alloc.proofs.VecSteps.El.{El, elτ, R, P, sz, Hd, Vr, vec_val, vec_typed}
use Rattle.std_alloc.proofs.vec.Blocks.{Rest}
use Rattle.std_alloc.proofs.vec.Spares.{Row}
use Rattle.ndarray.specs.contracts.places.slots.Deed as D
use Rattle.ndarray.specs.contracts.places.slots.ForgottenBits as H

-- three values side by side
abbrev pub three_val : Val → Val → Val → Val
three_val u v w = vstruct (vcons u (vcons v (vcons w vnil)))

-- a value in its bits
abbrev pub bits_val : Val → Val
bits_val v = vstruct (vcons v vnil)

module _ (E : El) where
  -- the rows of a deed, of the bits of a Vec, and of what `open` returns
  abbrev pub Dd : RattleType
  Dd = D.the_row (R E) (P E) E.al.g

  abbrev pub Hk : RattleType
  Hk = H.the_row (Vr E)

  abbrev pub Three : RattleType
  Three = Tuple (Row E ∷ Dd ∷ Hk ∷ [])

  -- the deed of a block of c places, of which the first k are a row
  abbrev pub made : (a : Hd E) (b o k c : ℕ) → (k ≤ c) × (c < 2 ^ 63) → Dd.Denot
  made a b o k c ok = record { ptr = block_ptr b o; cap = c; by = record {}; alloc = a; out = k; ok = ok }

  -- the machine values of a Vec in its bits
  pub bits_typed : (hv : Val) (b o n c : ℕ) → Fits E.al hv → n < 2 ^ 64 → c < 2 ^ 64 → T (has_ty (layout Hk) (bits_val (vec_val E hv b o n c))) × WT (bits_val (vec_val E hv b o n c))
  bits_typed hv b o n c fa fn fc =
      let t = vec_typed E hv b o n c fa fn fc in (and_tt _ t.0, (t.1, tt))

  -- and those of the three parts
  pub three_typed : (hv : Val) (b o n c : ℕ) → Fits E.al hv → n < 2 ^ 64 → c < 2 ^ 64
      → T (has_ty (layout Three) (three_val (row_val b o n) (lease_val (block_ptr b o) c) (bits_val (vec_val E hv b o n c)))) × WT (three_val (row_val b o n) (lease_val (block_ptr b o) c) (bits_val (vec_val E hv b o n c)))
  three_typed hv b o n c fa fn fc =
      let t = bits_typed hv b o n c fa fn fc in (and_tt _ t.0, ((tt, (record { fits = fn }, tt)), ((tt, (record { fits = fc }, (tt, tt))), (t.1, tt))))

module _ (E : El) {M : Type 1} {𝓤 : Ura M} {𝓛 : Logic 𝓤} {K : Type 0} {Γ : List (Item 𝓤)} {G : Goal 𝓤 𝓛.H} where
  -- what is owned of a deed whose block is known is the rest of that block
  pub deed_had : K → (d : (Dd E).Denot) (vs : List Val) (b o : ℕ) → d.ptr ≡ block_ptr b o
      → (vs ≡ lease_val (block_ptr b o) d.cap ∷ [] → d.cap < 2 ^ 64 → d.cap * sz E < 2 ^ 63 → Seq K 𝓛 (‵ (owns_if (has_block d.cap) (Rest E d.alloc b o d.out d.cap)) ∷ Γ) G) → Seq K 𝓛 (‵ ((Dd E).own_val d vs) ∷ Γ) G
  deed_had t d vs b o at k =
      fsplit t $ fpick t (λ vss. fsplit t $ feq_l t (λ whole. fsplit t $ feq_l t (λ e₀. fsplit t $ fsplit t $ feq_l t (λ e₁. flt_l t (λ fc. fsplit t $ fpick t (λ none. fsplit t $ feq_l t (λ e₂. drop t $ drop t $ fsplit t $ flt_l t (λ fit.
      rewrite t 0 (λ (p : Ptr). ‵ (owns_if (has_block d.cap) (fsep (room_for (bare (ty_array (elτ E) (d.cap - d.out))) (p +ₚ d.out * sz E)) (token E.al d.alloc (bare (ty_array (elτ E) d.cap)) p)))) at refl $
      k (whole ∙ (λ i. vstruct (of_list (e₀ i ++ (e₁ i ++ (e₂ i ++ [])))) ∷ []) ∙ ap (λ (p : Ptr). lease_val p d.cap ∷ []) at) fc fit))))))))

  -- and a deed is made of that rest
  pub deed_made : K → (a : Hd E) (b o k c : ℕ) (ok : (k ≤ c) × (c < 2 ^ 63)) → c < 2 ^ 64 → c * sz E < 2 ^ 63
      → Step K 𝓛 (‵ ((Dd E).own_val (made E a b o k c ok) (lease_val (block_ptr b o) c ∷ [])) ∷ Γ) G (‵ (owns_if (has_block c) (Rest E a b o k c)) ∷ Γ) G
  deed_made t a b o k c ok fc fit = step (λ s.
      flt_i t (c * sz E) (2 ^ 63) fit $ fjoin t $
      pure_i t ((Struct (shape (D.the_type (R E) (P E) E.al.g))).own_val (block_ptr b o, (c, (tt, tt))) (lease_val (block_ptr b o) c ∷ [])) (λ vss. (tt, (tt, ((tt, tt), ((λ uss. (tt, tt)), tt)))))
      ((vptr b o ∷ [], (vint w64 c ∷ [], (vstruct vnil ∷ [], tt))), (refl, (refl, ((refl, fc), ((tt, (refl, tt)), tt))))) $ fjoin t $ s)

  -- a bits owns nothing
  pub bits_made : K → (hv : Val) (b o n c : ℕ) → Fits E.al hv → n < 2 ^ 64 → c < 2 ^ 64
      → Step K 𝓛 (‵ ((Hk E).own_val tt (bits_val (vec_val E hv b o n c) ∷ [])) ∷ Γ) G Γ G
  bits_made t hv b o n c fa fn fc = step (λ s.
      nothing t $ nothing t $ fpack t (Typed (Hk E).mir (bits_val (vec_val E hv b o n c) ∷ [])) (λ _. ftrue) (bits_typed E hv b o n c fa fn fc, tt) $ fjoin t $ s)

-- three values are owned side by side
pub three_made : {M : Type 1} {𝓤 : Ura M} (𝓛 : Logic 𝓤) (R₀ R₁ R₂ : RattleType) (x : R₀.Denot) (y : R₁.Denot) (z : R₂.Denot) (u v w : Val)
    → ent 𝓤 (sep 𝓤 (sem 𝓛 (R₀.own_val x (u ∷ []))) (sep 𝓤 (sem 𝓛 (R₁.own_val y (v ∷ []))) (sem 𝓛 (R₂.own_val z (w ∷ []))))) (sem 𝓛 ((Tuple (R₀ ∷ R₁ ∷ R₂ ∷ [])).own_val (x, y, z) (three_val u v w ∷ [])))
three_made 𝓛 R₀ R₁ R₂ x y z u v w =
    qed 𝓛 (‵ (R₀.own_val x (u ∷ [])) ∷ ‵ (R₁.own_val y (v ∷ [])) ∷ ‵ (R₂.own_val z (w ∷ [])) ∷ []) ∵ nothing ! $ move ! (3 ∷ 0 ∷ []) $ fjoin ! $ move ! (1 ∷ 2 ∷ 0 ∷ []) $ fjoin3 ! $
    feq_i ! (List Val) (three_val u v w ∷ []) (three_val u v w ∷ []) refl $ fjoin ! $
    fpack ! (Valss (R₀ ∷ R₁ ∷ R₂ ∷ [])) (within (record { name = []; args = []; types = []; fields = R₀ ∷ R₁ ∷ R₂ ∷ [] }) (x, (y, (z, tt))) (three_val u v w ∷ [])) (u ∷ [], (v ∷ [], (w ∷ [], tt))) $ done !
