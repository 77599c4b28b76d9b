-- Regions in memory: what the walks share. Assumes `Logic`.
use mathlib.Core.Path.{◌≡◌, refl, sym, ap, subst, ◌∙◌}
use Prim.Native.Nat.{ℕ, zero, suc, ◌+◌, ◌*◌, ◌≤◌, ◌^◌}
use native.Mathlib.Omega.{arith}
use native.Mathlib.Nat.{zero-mul, suc-mul}
use mathlib.Core.List.{List, [], ◌∷◌, ◌++◌, map}
use mathlib.Core.Bool.{Bool, true, false}
use lib.ListN.{length, set, get_or, take, take-append-drop, length-take}
use lib.ListN.{drop as drop_l}
use seplogic.Ra.Ura.{Ura}
use mir.Val.{Val, vstruct, vcons, vnil, of_list}
use base.Logic.{SProp, ent, sep, emp, wand, all, all_e, apply∗, via, id⊢, mono_r, never_e}
use base.Fml.{Fml, Lft, ftrue, ffalse}
use types.Logic.{Logic, sem}
use types.SemTy.{cells, Arr}
use types.Kit.{Item, Goal, Seq, Step, step, ‵, raw, ◌⊛◌, ◌$◌, ◌∵◌, !, qed, by, move, keep, drop, use1, use2, split, fsplit, fjoin, fpick, feq_i, feq_l, flt_i, rewrite, each, assume, done}
use denote.RattleType.{RattleType, Valss}
use denote.Memory.{mem}
use denote.Shadow.{makes_shadow}
use denote.Steps.{nothing}
use denote.Struct.Struct.{Struct, within}
use denote.RawPtr.{Ptr, block_ptr, ptr_val}
use types.Kit.{fpack, frame, use0, prop}
use contract.Monad.{fact, fact_i}
use denote.Struct.Declared as Declared
use denote.Struct.Tuple.{Tuple, tuple_type}
use denote.Struct.Owning.{shape}
use Rattle.std.specs.Prelude.{Option, Some, None}
use Rattle.core.proofs.mem.Param.{El, R, el_x}
use Rattle.ndarray.specs.base.Slots.{somes, put_in, slots_in, slots_outside, weave}
use Rattle.ndarray.proofs.regions.Slots.{given_or, somes_all, somes-put_in}
use Rattle.ndarray.specs.base.Scattered.{scattered, shared_region_owns}
use Rattle.core.specs.contracts.marker.PhantomData as P-type
use Rattle.ndarray.specs.contracts.base.region.RegionRepr as G-type
use Rattle.ndarray.specs.contracts.base.region.SharedRegion as S-type

-- the lifetime of a type that only names one
pub lives_as : (l : Lft) → l ≡ (((l ++ []) ++ []) ++ []) ++ []
lives_as l = nil_right l ∙ nil_right (l ++ []) ∙ nil_right ((l ++ []) ++ []) ∙ nil_right (((l ++ []) ++ []) ++ [])
  where
    nil_right : (l : Lft) → l ≡ l ++ []
    nil_right [] = refl
    nil_right (x ∷ l) = ap (λ (m : Lft). x ∷ m) (nil_right l)

-- the machine value of a `SharedRegion` that begins at p, and that of a region
abbrev pub shared_reg : Ptr → Val
shared_reg p = vstruct (vcons (ptr_val p) (vcons (vstruct vnil) vnil))

abbrev pub reg : Ptr → Val
reg p = vstruct (vcons (shared_reg p) (vcons (vstruct vnil) vnil))

abbrev pub Sn : El → RattleType
Sn E = S-type.the_row (R E)

-- a `SharedRegion` as a region has it
abbrev pub shared_at_start : (E : El) → Ptr → (Sn E).Denot
shared_at_start E p = record { ptr = p; marker = record {}; slots = [] }

-- what a region's own `SharedRegion` owns
abbrev pub NoPlaces : (E : El) → (Sn E).Denot → Fml
NoPlaces E s = shared_region_owns (R E) s.ptr s.slots

module _ (a : RattleType) (E : El) where
  abbrev pub Rg : RattleType
  Rg = G-type.the_row a (R E)

  -- the data fields of a region
  abbrev pub Words : RattleType
  Words = Struct (shape (G-type.the_type a (R E)))

  abbrev SharedWords : RattleType
  SharedWords = Struct (shape (S-type.the_type (R E)))

  shared_words_made : {M : Type 1} {𝓤 : Ura M} (𝓛 : Logic 𝓤) (p : Ptr) → ent 𝓤 (emp 𝓤) (sem 𝓛 (SharedWords.own_val (p, (tt, tt)) (shared_reg p ∷ [])))
  shared_words_made 𝓛 p = makes_shadow 𝓛 (SharedWords.own_val (p, (tt, tt)) (shared_reg p ∷ [])) (λ vss. (tt, (tt, ((λ uss. (tt, tt)), tt)))) ((ptr_val p ∷ [], (vstruct vnil ∷ [], tt)), (refl, (refl, ((tt, (refl, tt)), tt))))

  abbrev Mark : RattleType
  Mark = (P-type.the_field a).row

  mark_made : {M : Type 1} {𝓤 : Ura M} (𝓛 : Logic 𝓤) → ent 𝓤 (emp 𝓤) (sem 𝓛 (Mark.own_val tt (vstruct vnil ∷ [])))
  mark_made 𝓛 = makes_shadow 𝓛 (Mark.own_val tt (vstruct vnil ∷ [])) (λ uss. (tt, tt)) (tt, (refl, tt))

  pub words_made : {M : Type 1} {𝓤 : Ura M} (𝓛 : Logic 𝓤) (s : (Sn E).Denot) → ent 𝓤 (sem 𝓛 (NoPlaces E s)) (sem 𝓛 (Words.own_val (s, (tt, tt)) (reg s.ptr ∷ [])))
  words_made 𝓛 s = qed 𝓛 (‵ (NoPlaces E s) ∷ []) ∵ use0 𝓛 (‵ (SharedWords.own_val (s.ptr, (tt, tt)) (shared_reg s.ptr ∷ []))) (shared_words_made 𝓛 s.ptr) $ fjoin ! $
      nothing ! $ use0 𝓛 (‵ (Mark.own_val tt (vstruct vnil ∷ []))) (mark_made 𝓛) $ fjoin ! $ move ! (1 ∷ 0 ∷ []) $ fjoin ! $
      feq_i ! (List Val) (reg s.ptr ∷ []) (reg s.ptr ∷ []) refl $ fjoin ! $
      fpack ! (Valss (Sn E ∷ Mark ∷ [])) (within (shape (G-type.the_type a (R E))) (s, (tt, tt)) (reg s.ptr ∷ [])) (shared_reg s.ptr ∷ [], (vstruct vnil ∷ [], tt)) $ done !

  -- those of a region that is made
  pub words_new : {M : Type 1} {𝓤 : Ura M} (𝓛 : Logic 𝓤) (b o : ℕ) → ent 𝓤 (emp 𝓤) (sem 𝓛 (Words.own_val (shared_at_start E (block_ptr b o), (tt, tt)) (reg (block_ptr b o) ∷ [])))
  words_new 𝓛 b o = qed 𝓛 [] ∵ nothing ! $ flt_i ! (0 * (mem (R E)).size) (2 ^ 63) (omega (arith, zero-mul (mem (R E)).size)) $ fjoin ! $ by ! (words_made 𝓛 (shared_at_start E (block_ptr b o)))

module _ {M : Type 1} {𝓤 : Ura M} {𝓛 : Logic 𝓤} {K : Type 0} {Γ : List (Item 𝓤)} {G : Goal 𝓤 𝓛.H} where
  pub words_had : K → (a : RattleType) (E : El) (s : (Sn E).Denot) (vs : List Val) → (vs ≡ reg s.ptr ∷ [] → Seq K 𝓛 (‵ (NoPlaces E s) ∷ Γ) G) → Seq K 𝓛 (‵ ((Words a E).own_val (s, (tt, tt)) vs) ∷ Γ) G
  words_had t a E s vs k = fpick t (λ vss. fsplit t $ feq_l t (λ ev. fsplit t $ fsplit t $ fpick t (λ wss. fsplit t $ feq_l t (λ es. fsplit t $ feq_l t (λ e0. fsplit t $ fpick t (λ uss. fsplit t $ feq_l t (λ e1. drop t $ drop t $
      move t (1 ∷ []) $ fsplit t $ fpick t (λ tss. fsplit t $ feq_l t (λ e2. drop t $ drop t $
      let first : vss.0 ≡ shared_reg s.ptr ∷ [] = subst (λ (ws : List Val × List Val). vss.0 ≡ vstruct (of_list (ws.0 ++ (ws.1 ++ []))) ∷ []) (λ j. (e0 j, e1 j)) es in
      k (subst (λ (ws : List Val × List Val). vs ≡ vstruct (of_list (ws.0 ++ (ws.1 ++ []))) ∷ []) (λ j. (first j, e2 j)) ev))))))))))

abbrev pub pair_val : Val → Val → Val
pair_val u v = vstruct (vcons u (vcons v vnil))

pub two_of : {M : Type 1} {𝓤 : Ura M} (𝓛 : Logic 𝓤) (P Q : RattleType) (x : P.Denot) (y : Q.Denot) (u v : Val)
    → ent 𝓤 (sep 𝓤 (sem 𝓛 (P.own_val x (u ∷ []))) (sem 𝓛 (Q.own_val y (v ∷ [])))) (sem 𝓛 ((Tuple (P ∷ Q ∷ [])).own_val (x, y) (pair_val u v ∷ [])))
two_of 𝓛 P Q x y u v =
    qed 𝓛 (‵ (P.own_val x (u ∷ [])) ∷ ‵ (Q.own_val y (v ∷ [])) ∷ []) ∵ nothing ! $ move ! (2 ∷ 0 ∷ []) $ fjoin ! $ move ! (1 ∷ 0 ∷ []) $ fjoin ! $
    feq_i ! (List Val) (pair_val u v ∷ []) (pair_val u v ∷ []) refl $ fjoin ! $
    fpack ! (Valss (P ∷ Q ∷ [])) (within (Declared.shape (tuple_type (P ∷ Q ∷ []))) (x, (y, tt)) (pair_val u v ∷ [])) (u ∷ [], (v ∷ [], tt)) $ done !

module _ {M : Type 1} {𝓤 : Ura M} {𝓛 : Logic 𝓤} {K : Type 0} {Γ : List (Item 𝓤)} where
  -- an `ensures` of two facts
  pub says_both : K → {φ ψ : Type 0} {P : SProp 𝓤} → φ → ψ → Step K 𝓛 Γ (prop P) Γ (prop (sep 𝓤 P (sep 𝓤 (fact 𝓤 φ) (fact 𝓤 ψ))))
  says_both t {φ} {ψ} {P} x y = step (λ s. record {
    prf = via 𝓤 P s.prf (qed 𝓛 (raw P ∷ []) {P = sep 𝓤 P (sep 𝓤 (fact 𝓤 φ) (fact 𝓤 ψ))} (
        frame ! $ use0 𝓛 (raw (fact 𝓤 ψ)) (fact_i 𝓤 ψ (emp 𝓤) y) $ use0 𝓛 (raw (fact 𝓤 φ)) (fact_i 𝓤 φ (emp 𝓤) x) $ done !));
  })

module _ (E : El) {M : Type 1} {𝓤 : Ura M} (𝓛 : Logic 𝓤) (b : ℕ) where
  open 𝓛 use {H}

  abbrev s : ℕ
  s = (mem (R E)).size

  abbrev Place : Type 0
  Place = Option (el_x E)

  abbrev St : ℕ → List Place → List (el_x E) → Fml
  St = scattered (R E) b

  pub of_cells : (xs : List (el_x E)) (o : ℕ) → ent 𝓤 (sem 𝓛 (cells (mem (R E)) xs b o)) (sem 𝓛 (St o (map Some xs) xs))
  of_cells [] o = id⊢ 𝓤 (emp 𝓤)
  of_cells (x ∷ xs) o = mono_r 𝓤 (sem 𝓛 ((mem (R E)).own_at x b o)) (of_cells xs (o + s))

  pub to_cells : (xs ws : List (el_x E)) (o : ℕ) → ent 𝓤 (sem 𝓛 (St o (map Some xs) ws)) (sem 𝓛 ((Arr (mem (R E)) (length xs)).own_at ws b o))
  to_cells [] [] o = qed 𝓛 (‵ ftrue ∷ []) ∵ feq_i ! ℕ 0 0 refl $ fjoin ! $ done !
  to_cells [] (w ∷ ws) o = never_e 𝓤 _
  to_cells (x ∷ xs) [] o = never_e 𝓤 _
  to_cells (x ∷ xs) (w ∷ ws) o = qed 𝓛 (‵ (St o (map Some (x ∷ xs)) (w ∷ ws)) ∷ []) ∵ fsplit ! $ move ! (1 ∷ []) $
      use1 𝓛 (‵ ((Arr (mem (R E)) (length xs)).own_at ws b (o + s))) (to_cells xs ws (o + s)) $ fsplit ! $ feq_l ! (λ e.
      move ! (1 ∷ 0 ∷ []) $ fjoin ! $ feq_i ! ℕ (suc (length ws)) (suc (length xs)) (ap suc e) $ fjoin ! $ done !)

  -- the places of the mask, and the others
  pub cut : (m : List Bool) (cs : List Place) (o : ℕ) → ent 𝓤 (sem 𝓛 (St o cs (somes cs))) (sep 𝓤 (sem 𝓛 (St o (slots_in m cs) (somes (slots_in m cs)))) (sem 𝓛 (St o (slots_outside m cs) (somes (slots_outside m cs)))))
  cut m [] o = qed 𝓛 (‵ ftrue ∷ []) ∵ nothing ! $ done !
  cut [] (None ∷ cs) o = cut [] cs (o + s)
  cut [] (Some c ∷ cs) o = qed 𝓛 (‵ (St o (Some c ∷ cs) (c ∷ somes cs)) ∷ []) ∵ fsplit ! $ move ! (1 ∷ []) $
      use1 𝓛 (‵ (St (o + s) (slots_in [] cs) (somes (slots_in [] cs))) ⊛ ‵ (St (o + s) (slots_outside [] cs) (somes (slots_outside [] cs)))) (cut [] cs (o + s)) $ split ! $ move ! (2 ∷ 1 ∷ []) $ fjoin ! $ move ! (1 ∷ []) $ done !
  cut (true ∷ m) (None ∷ cs) o = cut m cs (o + s)
  cut (false ∷ m) (None ∷ cs) o = cut m cs (o + s)
  cut (true ∷ m) (Some c ∷ cs) o = qed 𝓛 (‵ (St o (Some c ∷ cs) (c ∷ somes cs)) ∷ []) ∵ fsplit ! $ move ! (1 ∷ []) $
      use1 𝓛 (‵ (St (o + s) (slots_in m cs) (somes (slots_in m cs))) ⊛ ‵ (St (o + s) (slots_outside m cs) (somes (slots_outside m cs)))) (cut m cs (o + s)) $ split ! $ move ! (2 ∷ 0 ∷ []) $ fjoin ! $ done !
  cut (false ∷ m) (Some c ∷ cs) o = qed 𝓛 (‵ (St o (Some c ∷ cs) (c ∷ somes cs)) ∷ []) ∵ fsplit ! $ move ! (1 ∷ []) $
      use1 𝓛 (‵ (St (o + s) (slots_in m cs) (somes (slots_in m cs))) ⊛ ‵ (St (o + s) (slots_outside m cs) (somes (slots_outside m cs)))) (cut m cs (o + s)) $ split ! $ move ! (2 ∷ 1 ∷ []) $ fjoin ! $ move ! (1 ∷ []) $ done !

  abbrev Joins : List Bool → List Place → List (el_x E) → List (el_x E) → ℕ → Type 1
  Joins m cs xs ys o = ent 𝓤 (sep 𝓤 (sem 𝓛 (St o (slots_in m cs) xs)) (sem 𝓛 (St o (slots_outside m cs) ys))) (sem 𝓛 (St o cs (weave m cs xs ys)))

  pub mend : (m : List Bool) (cs : List Place) (xs ys : List (el_x E)) (o : ℕ) → Joins m cs xs ys o
  mend m [] xs ys o = qed 𝓛 (‵ (St o [] xs) ∷ ‵ (St o [] ys) ∷ []) ∵ keep ! [] $ done !
  mend [] (None ∷ cs) xs ys o = mend [] cs xs ys (o + s)
  mend (true ∷ m) (None ∷ cs) xs ys o = mend m cs xs ys (o + s)
  mend (false ∷ m) (None ∷ cs) xs ys o = mend m cs xs ys (o + s)
  mend [] (Some c ∷ cs) xs [] o = qed 𝓛 (‵ (St (o + s) (slots_in [] cs) xs) ∷ ‵ ffalse ∷ []) ∵ drop ! $ by ! (never_e 𝓤 _)
  mend [] (Some c ∷ cs) xs (y ∷ ys) o = qed 𝓛 (‵ (St (o + s) (slots_in [] cs) xs) ∷ ‵ (St o (slots_outside [] (Some c ∷ cs)) (y ∷ ys)) ∷ []) ∵ move ! (1 ∷ []) $ fsplit ! $ move ! (2 ∷ 1 ∷ []) $
      use2 𝓛 (‵ (St (o + s) cs (weave [] cs xs ys))) (mend [] cs xs ys (o + s)) $ move ! (1 ∷ []) $ fjoin ! $ done !
  mend (true ∷ m) (Some c ∷ cs) [] ys o = qed 𝓛 (‵ ffalse ∷ ‵ (St (o + s) (slots_outside m cs) ys) ∷ []) ∵ keep ! (0 ∷ []) $ by ! (never_e 𝓤 _)
  mend (true ∷ m) (Some c ∷ cs) (x ∷ xs) ys o = qed 𝓛 (‵ (St o (slots_in (true ∷ m) (Some c ∷ cs)) (x ∷ xs)) ∷ ‵ (St (o + s) (slots_outside m cs) ys) ∷ []) ∵ fsplit ! $ move ! (1 ∷ 2 ∷ []) $
      use2 𝓛 (‵ (St (o + s) cs (weave m cs xs ys))) (mend m cs xs ys (o + s)) $ move ! (1 ∷ []) $ fjoin ! $ done !
  mend (false ∷ m) (Some c ∷ cs) xs [] o = qed 𝓛 (‵ (St (o + s) (slots_in m cs) xs) ∷ ‵ ffalse ∷ []) ∵ drop ! $ by ! (never_e 𝓤 _)
  mend (false ∷ m) (Some c ∷ cs) xs (y ∷ ys) o = qed 𝓛 (‵ (St (o + s) (slots_in m cs) xs) ∷ ‵ (St o (slots_outside (false ∷ m) (Some c ∷ cs)) (y ∷ ys)) ∷ []) ∵ move ! (1 ∷ []) $ fsplit ! $ move ! (2 ∷ 1 ∷ []) $
      use2 𝓛 (‵ (St (o + s) cs (weave m cs xs ys))) (mend m cs xs ys (o + s)) $ move ! (1 ∷ []) $ fjoin ! $ done !

  -- one value is taken out, and any other put in its place
  abbrev pub Again : List Place → ℕ → ℕ → ℕ → el_x E → SProp 𝓤
  Again cs i o at w = wand 𝓤 (sem 𝓛 ((mem (R E)).own_at w b at)) (sem 𝓛 (St o cs (somes (set cs i (Some w)))))

  pub value_out : (cs : List Place) (i o at : ℕ) (x : el_x E) → at ≡ i * s + o → get_or cs i None ≡ Some x
      → ent 𝓤 (sem 𝓛 (St o cs (somes cs))) (sep 𝓤 (sem 𝓛 ((mem (R E)).own_at x b at)) (all 𝓤 (Again cs i o at)))
  value_out [] i o at x e h = cc
  value_out (None ∷ cs) zero o at x e h = cc
  value_out (Some c ∷ cs) zero o at x e h =
      let here : o ≡ at = omega (arith, zero-mul s) in let is : c ≡ x = ap (λ (z : Place). given_or z c) h in
      qed 𝓛 (‵ (St o (Some c ∷ cs) (c ∷ somes cs)) ∷ []) ∵ fsplit ! $ rewrite ! 0 (λ (k : ℕ). ‵ ((mem (R E)).own_at c b k)) here refl $ rewrite ! 0 (λ (z : el_x E). ‵ ((mem (R E)).own_at z b at)) is refl $
      by ! (mono_r 𝓤 (sem 𝓛 ((mem (R E)).own_at x b at)) (qed 𝓛 (‵ (St (o + s) cs (somes cs)) ∷ []) ∵ each ! (Again (Some c ∷ cs) zero o at) (λ w. assume ! (‵ ((mem (R E)).own_at w b at)) $
      rewrite ! 0 (λ (k : ℕ). ‵ ((mem (R E)).own_at w b k)) (sym here) refl $ fjoin ! $ done !)))
  value_out (None ∷ cs) (suc i) o at x e h =
      qed 𝓛 (‵ (St (o + s) cs (somes cs)) ∷ []) ∵ by ! (value_out cs i (o + s) at x (omega (arith, suc-mul i s)) h)
  value_out (Some c ∷ cs) (suc i) o at x e h =
      qed 𝓛 (‵ (St o (Some c ∷ cs) (c ∷ somes cs)) ∷ []) ∵ fsplit ! $ move ! (1 ∷ []) $
      use1 𝓛 (‵ ((mem (R E)).own_at x b at) ⊛ raw (all 𝓤 (Again cs i (o + s) at))) (value_out cs i (o + s) at x (omega (arith, suc-mul i s)) h) $ split ! $
      by ! (mono_r 𝓤 (sem 𝓛 ((mem (R E)).own_at x b at)) (qed 𝓛 (raw (all 𝓤 (Again cs i (o + s) at)) ∷ ‵ ((mem (R E)).own_at c b o) ∷ []) ∵ each ! (Again (Some c ∷ cs) (suc i) o at) (λ w. assume ! (‵ ((mem (R E)).own_at w b at)) $
      move ! (1 ∷ []) $ use1 𝓛 (raw (Again cs i (o + s) at w)) (all_e 𝓤 (Again cs i (o + s) at) w) $ move ! (1 ∷ 0 ∷ []) $
      use2 𝓛 (‵ (St (o + s) cs (somes (set cs i (Some w))))) (apply∗ 𝓤 (sem 𝓛 ((mem (R E)).own_at w b at)) (sem 𝓛 (St (o + s) cs (somes (set cs i (Some w)))))) $ move ! (1 ∷ []) $ fjoin ! $ done !)))

  -- places one after another
  apart : (cs ds : List Place) (o at : ℕ) → at ≡ length cs * s + o → ent 𝓤 (sem 𝓛 (St o (cs ++ ds) (somes (cs ++ ds)))) (sep 𝓤 (sem 𝓛 (St o cs (somes cs))) (sem 𝓛 (St at ds (somes ds))))
  apart [] ds o at e = qed 𝓛 (‵ (St o ds (somes ds)) ∷ []) ∵ rewrite ! 0 (λ (k : ℕ). ‵ (St k ds (somes ds))) {x = at} (omega (arith, zero-mul s)) refl $ nothing ! $ done !
  apart (None ∷ cs) ds o at e = let more : at ≡ suc (length cs) * s + o = e in apart cs ds (o + s) at (omega (arith, suc-mul (length cs) s))
  apart (Some c ∷ cs) ds o at e = let more : at ≡ suc (length cs) * s + o = e in
      qed 𝓛 (‵ (St o (Some c ∷ (cs ++ ds)) (c ∷ somes (cs ++ ds))) ∷ []) ∵ fsplit ! $ move ! (1 ∷ []) $
      use1 𝓛 (‵ (St (o + s) cs (somes cs)) ⊛ ‵ (St at ds (somes ds))) (apart cs ds (o + s) at (omega (arith, suc-mul (length cs) s))) $ split ! $ move ! (2 ∷ 0 ∷ []) $ fjoin ! $ done !

  joined : (cs ds : List Place) (vs ws : List (el_x E)) (o at : ℕ) → at ≡ length cs * s + o → ent 𝓤 (sep 𝓤 (sem 𝓛 (St o cs vs)) (sem 𝓛 (St at ds ws))) (sem 𝓛 (St o (cs ++ ds) (vs ++ ws)))
  joined [] ds [] ws o at e = qed 𝓛 (‵ ftrue ∷ ‵ (St at ds ws) ∷ []) ∵ drop ! $ rewrite ! 0 (λ (k : ℕ). ‵ (St k ds ws)) {x = o} (omega (arith, zero-mul s)) refl $ done !
  joined [] ds (v ∷ vs) ws o at e = qed 𝓛 (‵ ffalse ∷ ‵ (St at ds ws) ∷ []) ∵ keep ! (0 ∷ []) $ by ! (never_e 𝓤 _)
  joined (None ∷ cs) ds vs ws o at e = let more : at ≡ suc (length cs) * s + o = e in joined cs ds vs ws (o + s) at (omega (arith, suc-mul (length cs) s))
  joined (Some c ∷ cs) ds [] ws o at e = qed 𝓛 (‵ ffalse ∷ ‵ (St at ds ws) ∷ []) ∵ keep ! (0 ∷ []) $ by ! (never_e 𝓤 _)
  joined (Some c ∷ cs) ds (v ∷ vs) ws o at e = let more : at ≡ suc (length cs) * s + o = e in
      qed 𝓛 (‵ (St o (Some c ∷ cs) (v ∷ vs)) ∷ ‵ (St at ds ws) ∷ []) ∵ fsplit ! $ move ! (1 ∷ 2 ∷ []) $
      use2 𝓛 (‵ (St (o + s) (cs ++ ds) (vs ++ ws))) (joined cs ds vs ws (o + s) at (omega (arith, suc-mul (length cs) s))) $ move ! (1 ∷ []) $ fjoin ! $ done !

  filled_again : (xs ws : List (el_x E)) (o : ℕ) → length ws ≡ length xs → ent 𝓤 (sem 𝓛 (cells (mem (R E)) ws b o)) (sem 𝓛 (St o (map Some xs) ws))
  filled_again [] [] o e = id⊢ 𝓤 (emp 𝓤)
  filled_again [] (w ∷ ws) o e = absurd (omega arith)
  filled_again (x ∷ xs) [] o e = absurd (omega arith)
  filled_again (x ∷ xs) (w ∷ ws) o e = mono_r 𝓤 (sem 𝓛 ((mem (R E)).own_at w b o)) (filled_again xs ws (o + s) (omega arith))

  -- a run of values is taken out, and any others put in its place
  abbrev pub RunAgain : List Place → ℕ → ℕ → ℕ → ℕ → List (el_x E) → SProp 𝓤
  RunAgain cs i n o at ws = wand 𝓤 (sem 𝓛 ((Arr (mem (R E)) n).own_at ws b at)) (sem 𝓛 (St o cs (somes (put_in cs i ws))))

  pub run_out : (cs : List Place) (i n o at : ℕ) (xs : List (el_x E)) → i + n ≤ length cs → at ≡ i * s + o → length xs ≡ n → take n (drop_l i cs) ≡ map Some xs
      → ent 𝓤 (sem 𝓛 (St o cs (somes cs))) (sep 𝓤 (sem 𝓛 ((Arr (mem (R E)) (length xs)).own_at xs b at)) (all 𝓤 (RunAgain cs i (length xs) o at)))
  run_out cs i n o at xs le e long filled =
      let before = take i cs in
      let rest = drop_l n (drop_l i cs) in
      let run : List Place = map Some xs in
      let on : ℕ = length run * s + at in
      let is : cs ≡ before ++ (run ++ rest) = sym (take-append-drop i cs) ∙ ap (λ l. before ++ l) (sym (take-append-drop n (drop_l i cs)) ∙ ap (λ l. l ++ rest) filled) in
      let many : length before ≡ i = omega (arith, length-take i cs) in
      let here : at ≡ length before * s + o = e ∙ ap (λ k. k * s + o) (sym many) in
      qed 𝓛 (‵ (St o cs (somes cs)) ∷ []) ∵ rewrite ! 0 (λ (l : List Place). ‵ (St o l (somes l))) is refl $
      use1 𝓛 (‵ (St o before (somes before)) ⊛ ‵ (St at (run ++ rest) (somes (run ++ rest)))) (apart before (run ++ rest) o at here) $ split ! $ move ! (1 ∷ 0 ∷ []) $
      use1 𝓛 (‵ (St at run (somes run)) ⊛ ‵ (St on rest (somes rest))) (apart run rest at on refl) $ split ! $
      rewrite ! 0 (λ (l : List (el_x E)). ‵ (St at run l)) (somes_all xs) refl $ use1 𝓛 (‵ ((Arr (mem (R E)) (length xs)).own_at xs b at)) (to_cells xs xs at) $
      by ! (mono_r 𝓤 (sem 𝓛 ((Arr (mem (R E)) (length xs)).own_at xs b at)) (qed 𝓛 (‵ (St on rest (somes rest)) ∷ ‵ (St o before (somes before)) ∷ []) ∵
      each ! (RunAgain cs i (length xs) o at) (λ ws. assume ! (‵ ((Arr (mem (R E)) (length xs)).own_at ws b at)) $ fsplit ! $ feq_l ! (λ same.
      use1 𝓛 (‵ (St at run ws)) (filled_again xs ws at same) $
      use2 𝓛 (‵ (St at (run ++ rest) (ws ++ somes rest))) (joined run rest ws (somes rest) at on refl) $ move ! (1 ∷ 0 ∷ []) $
      use2 𝓛 (‵ (St o (before ++ (run ++ rest)) (somes before ++ (ws ++ somes rest)))) (joined before (run ++ rest) (somes before) (ws ++ somes rest) o at here) $
      rewrite ! 0 (λ (l : List Place). ‵ (St o l (somes before ++ (ws ++ somes rest)))) (sym is) refl $
      rewrite ! 0 (λ (l : List (el_x E)). ‵ (St o cs l)) (sym (somes-put_in cs i n ws (same ∙ long))) refl $ done !))))
