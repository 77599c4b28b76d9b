-- `open` makes a row of the elements and a deed of the rest of the block. Assumes `Logic`.
use mathlib.Core.Path.{◌≡◌, refl, sym, subst, ap, ◌∙◌}
use mathlib.Core.Bool.{Bool, true}
use Prim.Native.Nat.{ℕ, ◌-◌, ◌≤◌, ◌<◌, ◌^◌}
use native.Mathlib.Omega.{arith}
use mathlib.Core.List.{List, [], ◌∷◌, ◌++◌, append-nil}
use lib.ListN.{length, replicate, length-replicate}
use seplogic.Ra.Ura.{Ura}
use mir.Syntax.{Fn, w64}
use mir.MapTy.{inst_fn}
use mir.Val.{Val, WT, vint, vptr}
use base.Logic.{SProp, ent, emp, id⊢}
use base.Fml.{ftrue, flft}
use prog.Memory.{Memory}
use prog.Routine.{Routine}
use prog.Wp.{Env, WpFn, Tables}
use types.Logic.{Logic}
use contract.BorrowLft.{◌⊑◌}
use contract.Monad.{Fun, fact, fact_i}
use contract.Running.{tables, tables_of}
use sound.WpLaws.{fm_of, WpFn-mono}
use types.Kit.{‵, raw, ◌⊛◌, some, given, later, at_ret, ◌$◌, ◌∵◌, !, qed, by, move, keep, drop, use0, use1, use2, use3, split, split3, join, pick, learn, rewrite, fsplit, fsplit3, fjoin, feq_l, flt_l, suffices, await}
use types.Part.{agg}
use types.Run.{of_opd, no_more, and_then, first, blocks, exec, returns, enter}
use types.ByLocal.{alloc_all, pass_all, free_all, look_at, get, sets, is, lands_last, env}
use denote.Exit.{yes, no, rest}
use denote.RattleType.{owns}
use denote.Builtin.{usize}
use denote.RawPtr.{RawPtr, Ptr, block_ptr, ptr_val}
use denote.Signature.{plain, types_at}
use denote.Steps.{heard, nothing}
use denote.Triple.Call.{calls_at_last}
use denote.Triple.Clauses.{Clauses, Ended, closing}
use denote.Triple.Spec.{Meets, triple_of}
use denote.Triple.Statement.{Triple}
use denote.Triple.Table.{entered}
use denote.Triple.Walked.{Stays, stay_dropped, walk_of, Goes-dropped, walk_Meets}
use Rattle.std.proofs.raw_atomic.Walks.{leaves}
use Rattle.core.proofs.alloc.Calls.{Goes-blank}
use Rattle.core.proofs.ptr.Rows.{times_below}
use Rattle.core.proofs.slots.Opens.{row_val}
use Rattle.core.proofs.slots.Leases.{lease_val}
use Rattle.core.specs.Mem.Slots.{slots_items, slots_filled, slots_ptr, slots_len}
use Rattle.std_alloc.specs.Vec.Ownership.{owns_if, has_block}
use Rattle.std_alloc.proofs.VecSteps.El.{El, args, el_x, el_d, Vr, sz, vec_val, vec_typed}
use Rattle.std_alloc.proofs.VecSteps.Opens.{not_live, vec_had}
use Rattle.std_alloc.proofs.VecSteps.Shapes.{after}
use Rattle.std_alloc.proofs.vec.Blocks.{flags, all, Rest, vec_out}
use Rattle.std_alloc.proofs.vec.Spares.{Row, from_key, row_Typed, From, at_from, Made, from_goes, from_gives}
use Rattle.ndarray.proofs.moving.Deeds.{Dd, Hk, Three, made, three_val, bits_val, bits_typed, three_typed, deed_made, bits_made, three_made}
use Rattle.core.proofs.slots.Slots.from_raw_parts.Met as callee
use Rattle.ndarray.specs.contracts.places.slots.open as F
use Rattle.ndarray.specs.contracts.places.slots.open.Key.{name as #self}
use Rattle.ndarray.proofs.places.slots.open.Statement as stated
use Rattle.ndarray.proofs.places.slots.open.Code as code

-- no room is left where every place of a row is full
all_full : (n : ℕ) → flags n (n - n) ≡ replicate n true
all_full n = let zero : n - n ≡ 0 = omega arith in ap (λ (k : ℕ). flags n k) zero ∙ append-nil (replicate n true)

module _ (E : El) where
  abbrev here : Fn
  here = inst_fn (args E) code.function

  abbrev ended : Ended
  ended = F.ended E.row E.al.row E.al.g E.al.d E.al.drops

  abbrev stayed : Stays ended.signature.params ended.kept
  stayed = (stay_dropped (plain (λ _. Vr E)) no, (stay_dropped (plain (λ _. RawPtr)) yes, (stay_dropped (plain (λ _. usize)) yes, (stay_dropped (plain (λ _. usize)) yes, tt))))

  module _ {M : Type 1} {𝓤 : Ura M} (𝓛 : Logic 𝓤) (at_mem : Memory → SProp 𝓤) (run : Routine → Fun 𝓤) (𝓣 : Tables 𝓤 𝓛.H) (met : Triple 𝓤 (𝓣.C (from_key E)) (From E 𝓛 at_mem run)) where
    open 𝓛 use {H}

    abbrev held : Clauses 𝓤 ended
    held = F.clauses E.row E.al.row E.al.g E.al.d E.al.drops 𝓛 at_mem run

    abbrev Bound : Type 0
    Bound = (walk_of 𝓛 ended stayed held).Ghost

    abbrev Goes : Bound → Type 1
    Goes y = ent 𝓤 ((walk_of 𝓛 ended stayed held).pre y) (WpFn 𝓤 H 𝓣.C 𝓣.Λ here ((walk_of 𝓛 ended stayed held).args y) ((walk_of 𝓛 ended stayed held).post y))

    walk : (z : Bound) → Goes z
    walk z =
        let κ = z.0.0.0 in let κ₁ = z.0.0.1.0 in let q = z.0.1.0 in let q₁ = z.0.1.1.0 in let vss = z.0.4 in
        let Post : Val → SProp 𝓤 = (walk_of 𝓛 ended stayed held).post z in
        let Run : List Val → SProp 𝓤 = λ ws. WpFn 𝓤 H 𝓣.C 𝓣.Λ here ws Post in
        let h : el_d E = z.0.3.0 in let n : ℕ = h.len in let c : ℕ = h.cap in let xs : List (el_x E) = h.items in let a = h.alloc in
        let Asks : Type 0 = (z.0.3.1.0 ≡ h.ptr) × (z.0.3.1.1.0 ≡ n) × (z.0.3.1.1.1.0 ≡ c) in
        qed 𝓛 (((‵ (flft κ q) ⊛ ‵ (flft κ₁ q₁) ⊛ ‵ ftrue) ⊛ ‵ (owns (types_at ended.signature.params z.0.0) z.0.3 vss))
        ∷ (raw (fact 𝓤 (κ ⊑ E.row.lives)) ⊛ raw (fact 𝓤 (κ₁ ⊑ E.al.row.lives)) ⊛ raw (fact 𝓤 Asks)) ∷ []) ∵
        move ! (1 ∷ []) $ split3 ! $ heard ! (κ ⊑ E.row.lives) (λ inE. drop ! $ heard ! Asks (λ asked.
        split ! $ split3 ! $ move ! (3 ∷ []) $ fsplit ! $ vec_had E ! h vss.0 (λ b o hv at_b e₀ fl fc fit fa.
        move ! (2 ∷ []) $ fsplit ! $ feq_l ! (λ e₁. fsplit3 ! $ fsplit ! $ feq_l ! (λ e₂. flt_l ! (λ fn. fsplit ! $ feq_l ! (λ e₃. flt_l ! (λ fk. keep ! (1 ∷ 3 ∷ 4 ∷ []) $
        let us : List Val = vec_val E hv b o n c ∷ vptr b o ∷ vint w64 n ∷ vint w64 c ∷ [] in
        let lx : n ≡ length xs = h.ok.0 in let lc : n ≤ c = h.ok.1 in
        let bounds : (n ≤ c) × (c < 2 ^ 63) = (lc, h.small) in
        let fs : List Bool = replicate n true in
        suffices ! (Run us) (subst (λ (ws : List Val). ent 𝓤 (Run us) (Run ws)) (sym (λ i. e₀ i ++ ((e₁ ∙ ap (λ (p : Ptr). ptr_val p ∷ []) (asked.0 ∙ at_b)) i ++ ((e₂ ∙ ap (λ (j : ℕ). vint w64 j ∷ []) asked.1) i ++ ((e₃ ∙ ap (λ (j : ℕ). vint w64 j ∷ []) asked.2) i ++ []))))) (id⊢ 𝓤 (Run us))) $
        enter ! 𝓣.C 𝓣.Λ here us Post $ alloc_all ! (λ l. pass_all ! refl (vec_typed E hv b o n c fa fl fc, ((tt, tt), ((tt, record { fits = fl }), ((tt, record { fits = fc }), tt)))) $
        let En : Env 𝓤 H = env here.locals l in
        let y : (From E 𝓛 at_mem run).Ghost = at_from E 𝓛 at_mem run κ q b o n xs fs in
        let words : WT (row_val b o n) = (tt, (record { fits = fl }, tt)) in let lease : WT (lease_val (block_ptr b o) c) = (tt, (record { fits = fc }, (tt, tt))) in
        use1 𝓛 (‵ (all E b o (xs ++ []) (flags n (n - n))) ⊛ ‵ (owns_if (has_block c) (Rest E a b o n c))) (vec_out E 𝓛 b a o (has_block c) n n c xs [] (not_live c) (omega arith) lc (sym lx) (omega arith)) $ split ! $
        rewrite ! 0 (λ (u : List (el_x E) × List Bool). ‵ (all E b o u.0 u.1)) (λ i. (append-nil xs i, all_full n i)) refl $ move ! (0 ∷ 2 ∷ []) $
        -- [the places; T's token; the rest of the block; A's token]
        first ! $ blocks ! $ sets ! (of_opd ! (get ! refl)) refl (tt, tt) $ sets ! (of_opd ! (get ! refl)) refl (tt, record { fits = fl }) $
        use2 𝓛 (raw ((From E 𝓛 at_mem run).pre y)) (from_goes E 𝓛 at_mem run κ q b o n xs fs inE lx (sym (length-replicate n true)) fl (times_below n c (sz E) (2 ^ 63) lc fit)) $
        calls_at_last ! (fm_of 𝓤 H 𝓛.laws 𝓣) (From E 𝓛 at_mem run) met y (and_then ! (get ! refl) (and_then ! (get ! refl) (no_more !))) (λ v.
        use1 𝓛 (later (some (λ (r : (Row E).Denot). given ((v ≡ row_val b o n) × Made E 𝓛 at_mem run κ q b o n xs fs r) (‵ ((Row E).own_val r (row_val b o n ∷ [])) ⊛ ‵ (flft κ q)))))
        (from_gives E 𝓛 at_mem run κ q b o n xs fs v) $ await ! tt $ pick ! (λ r. learn ! (λ got. split ! $
        let of = got.1 in
        lands_last ! refl (row_Typed E v b o n got.0 fl) $ exec ! 𝓣.C 𝓣.Λ En (after 1 here.body) (at_ret En Post) $
        -- [the row; T's token; the rest of the block; A's token]
        sets ! (is ! (of_opd ! (get ! refl)) got.0) refl (tt, words) $
        sets ! (of_opd ! (get ! refl)) refl (tt, tt) $ sets ! (of_opd ! (get ! refl)) refl (tt, record { fits = fc }) $ sets ! (agg ! (no_more !)) refl (tt, tt) $
        sets ! (agg ! (and_then ! (get ! refl) (and_then ! (get ! refl) (and_then ! (get ! refl) (no_more !))))) refl (tt, lease) $
        sets ! (of_opd ! (get ! refl)) refl (vec_typed E hv b o n c fa fl fc) $ sets ! (agg ! (and_then ! (get ! refl) (no_more !))) refl (bits_typed E hv b o n c fa fl fc) $
        sets ! (agg ! (and_then ! (get ! refl) (and_then ! (get ! refl) (and_then ! (get ! refl) (no_more !))))) refl (three_typed E hv b o n c fa fl fc) $
        returns ! (look_at ! 0 refl) $ free_all ! refl $
        let d : (Dd E).Denot = made E a b o n c bounds in let shell : Val = bits_val (vec_val E hv b o n c) in
        move ! (2 ∷ []) $ deed_made E ! a b o n c bounds fc fit $ bits_made E ! hv b o n c fa fl fc $ move ! (2 ∷ 1 ∷ 0 ∷ []) $
        use3 𝓛 (‵ ((Three E).own_val (r, d, tt) (three_val (row_val b o n) (lease_val (block_ptr b o) c) shell ∷ []))) (three_made 𝓛 (Row E) (Dd E) (Hk E) r d tt (row_val b o n) (lease_val (block_ptr b o) c) shell) $
        -- [the three; T's token; A's token]
        let Has : Type 0 = (slots_len r ≡ z.0.3.1.1.0) × (slots_items r ≡ xs) × (slots_filled r ≡ replicate (z.0.3.1.1.0) true) in
        let Beside : Type 0 = (block_ptr b o ≡ slots_ptr r) × (n ≡ slots_len r) × (a ≡ a) in
        nothing ! $ move ! (3 ∷ 0 ∷ []) $ join ! $ move ! (2 ∷ 0 ∷ []) $ join ! $
        use0 𝓛 (raw (fact 𝓤 Beside)) (fact_i 𝓤 Beside (emp 𝓤) (sym of.0, sym of.1, refl)) $
        use0 𝓛 (raw (fact 𝓤 Has)) (fact_i 𝓤 Has (emp 𝓤) (of.1 ∙ sym asked.1, of.2, of.3 ∙ ap (λ (j : ℕ). replicate j true) (sym asked.1))) $ join ! $
        nothing ! $ nothing ! $ fjoin ! $ nothing ! $ fjoin ! $ nothing ! $ fjoin ! $ nothing ! $ fjoin ! $ move ! (2 ∷ 0 ∷ 3 ∷ 1 ∷ []) $
        by ! (leaves 𝓛 ended stayed held z (three_val (row_val b o n) (lease_val (block_ptr b o) c) shell) (r, d, tt) (rest ((Vr E).exit no) h, (tt, (tt, (tt, tt)))) (tt, (tt, (tt, (tt, tt)))))))))))))))))

    meets : Meets 𝓛 ended.signature (WpFn 𝓤 H 𝓣.C 𝓣.Λ here) (closing 𝓛 ended held)
    meets = walk_Meets 𝓛 ended stayed (
      Goes-blank 𝓛 2 (plain (λ _. Vr E)) no (λ κs x f. tt),
      (Goes-dropped 𝓛 2 (plain (λ _. RawPtr)) yes (λ κs x f. refl), (Goes-dropped 𝓛 2 (plain (λ _. usize)) yes (λ κs x f. refl), (Goes-dropped 𝓛 2 (plain (λ _. usize)) yes (λ κs x f. refl), tt))),
    ) held (WpFn 𝓤 H 𝓣.C 𝓣.Λ here) (WpFn-mono 𝓤 H 𝓛.laws 𝓣 here) walk

pub open_spec : {M : Type 1} → stated.statement M
unfolding tables_of
open_spec 𝓤 𝓛 𝓜 𝓡 wired X Z L LZ g d dd met md =
    let E : El = record { row = X; laws = L; al = record { row = Z; laws = LZ; g = g; d = d; drops = dd } } in
    let 𝓣 : Tables 𝓤 𝓛.H = tables_of 𝓤 𝓛.H 𝓜 (tables 𝓤 𝓛.H 𝓜 𝓡 𝓡.env) in
    entered 𝓤 𝓛.H (triple_of 𝓛 (ended E).signature (F.spec X Z g d dd 𝓛 𝓜.mem 𝓡.returns)) 𝓣.C 𝓣.Λ (#self (args E)) (here E) (code.unfolded 𝓤 𝓛.H 𝓜 𝓡 wired (X, (Z, tt)) d dd)
    (meets E 𝓛 𝓜.mem 𝓡.returns 𝓣 (callee.met 𝓤 𝓛 𝓜 𝓡 (code.calls-core::slots::Slots::from_raw_parts 𝓡.env wired) X L))
