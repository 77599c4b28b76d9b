-- `close` makes the block of the row and the deed, and hands it back, if there is one. Assumes `Logic`.
use mathlib.Core.Path.{◌≡◌, refl, sym, subst, ap, ◌∙◌}
use mathlib.Core.Bool.{Bool, false}
use Prim.Native.Nat.{ℕ, zero, suc, ◌+◌, ◌-◌, ◌*◌, ◌≤◌, ◌<◌, ◌^◌}
use native.Mathlib.Omega.{arith}
use mathlib.Core.List.{List, [], ◌∷◌, ◌++◌}
use lib.Dec.{T}
use lib.ListN.{length, replicate, take}
use seplogic.Ra.Ura.{Ura}
use mir.Syntax.{Ty, Fn, ty_unit, ty_array}
use mir.MapTy.{inst_fn}
use mir.Raw.{raw as bare}
use mir.Val.{Val, WT, has_ty, vunit, vptr}
use base.Logic.{SProp, ent, id⊢}
use base.Fml.{Incl-trans, ftrue, froom, flft}
use prog.Capped.{capped_is, capped_fits}
use prog.Memory.{Memory, align, capped}
use prog.RawLaws.{size-raw, align-raw}
use prog.Routine.{Routine}
use prog.Wp.{Env, WpFn, Tables}
use types.Logic.{Logic}
use contract.BorrowLft.{◌⊑◌}
use contract.Monad.{Fun, fact}
use contract.Running.{tables, tables_of}
use sound.WpLaws.{fm_of, WpFn-mono}
use types.Kit.{Item, ⋆, ‵, raw, ◌⊛◌, given, later, at_ret, ◌$◌, ◌∵◌, !, qed, by, move, keep, drop, use1, use2, split, split3, join, group, learn, rewrite, fsplit, fsplit3, fjoin, feq_i, feq_l, suffices, await, done}
use types.Part.{whole, sub}
use types.Run.{stop, fld, lit, unit_lit, size_lit, align_word, bin, of_opd, no_more, and_then, first, blocks, skips, branches, exec, returns, enter}
use types.ByLocal.{alloc_all, pass_all, free_all, look_at, get, get_in, sets, lands_last, env}
use denote.Exit.{yes, no}
use denote.RattleType.{owns}
use denote.Builtin.{RefOf}
use denote.RawPtr.{block_ptr}
use denote.Signature.{plain, types_at}
use denote.Steps.{heard, nothing}
use denote.Triple.Call.{calls_at_last}
use denote.Triple.Clauses.{Clauses, Ended, closing}
use denote.Triple.Spec.{Meets, triple_of}
use denote.Triple.Statement.{Triple}
use denote.Triple.Table.{entered}
use denote.Triple.Walked.{Stays, stay_dropped, walk_of, ends_at, Goes-dropped, walk_Meets}
use Rattle.core.proofs.alloc.Calls.{token, gives_key, Gives, at_gives, Gives-goes, Gives-Gives}
use Rattle.core.proofs.ptr.Rows.{one_below}
use Rattle.core.proofs.slots.Opens.{row_val}
use Rattle.core.proofs.slots.Leases.{lease_val}
use Rattle.core.specs.Allocator.{block_with_items}
use Rattle.core.specs.Mem.Slots.{slots_items, slots_filled, slots_ptr, slots_len, slots_counts}
use Rattle.std_alloc.specs.Vec.Ownership.{owns_if, has_block}
use Rattle.std_alloc.proofs.Flags.{T_true}
use Rattle.std_alloc.proofs.RawLayout.{as_raw, as_written}
use Rattle.std_alloc.proofs.VecSteps.El.{El, args, el_x, elτ, P, R, Hd, sz, wider}
use Rattle.std_alloc.proofs.VecSteps.Opens.{Blk}
use Rattle.std_alloc.proofs.VecSteps.Rows.{all_room}
use Rattle.std_alloc.proofs.VecSteps.Shapes.{after}
use Rattle.std_alloc.proofs.vec.Blocks.{all, Rest, vec_in}
use Rattle.std_alloc.proofs.vec.Spares.{Row, into_key, parts_typed, Row-seen, Into, at_into, Into-goes, Into-gives}
use Rattle.ndarray.proofs.moving.Deeds.{Dd, deed_had}
use Rattle.core.proofs.slots.Slots.into_raw_parts.Met as callee
use Rattle.ndarray.specs.contracts.places.slots.close as F
use Rattle.ndarray.specs.contracts.places.slots.close.Key.{name as #self}
use Rattle.ndarray.proofs.places.slots.close.Statement as stated
use Rattle.ndarray.proofs.places.slots.close.Code as code

-- a capacity that has a block is not 0
live_pos : (c : ℕ) → T (has_block c) → 0 < c
live_pos zero t = absurd t
live_pos (suc c) t = omega arith

module _ (E : El) where
  abbrev here : Fn
  here = inst_fn (args E) code.function

  abbrev ended : Ended
  ended = F.ended E.row E.al.row E.al.g E.al.d E.al.drops

  abbrev stayed : Stays ended.signature.params ended.kept
  stayed = (stay_dropped (RefOf (0 ∷ []) tt (plain (λ _. P E)) (λ _. tt)) yes, (stay_dropped (plain (λ _. Row E)) no, (stay_dropped (plain (λ _. Dd E)) no, tt)))

  module _ {M : Type 1} {𝓤 : Ura M} (𝓛 : Logic 𝓤) (at_mem : Memory → SProp 𝓤) (run : Routine → Fun 𝓤) (𝓣 : Tables 𝓤 𝓛.H) (met : Triple 𝓤 (𝓣.C (into_key E)) (Into E 𝓛 at_mem run))
      (gives : Triple 𝓤 (𝓣.C (gives_key E.al)) (Gives E.al 𝓛 at_mem run)) where
    open 𝓛 use {H}

    abbrev held : Clauses 𝓤 ended
    held = F.clauses E.row E.al.row E.al.g E.al.d E.al.drops 𝓛 at_mem run

    abbrev Bound : Type 0
    Bound = (walk_of 𝓛 ended stayed held).Ghost

    abbrev Goes : Bound → Type 1
    Goes y = ent 𝓤 ((walk_of 𝓛 ended stayed held).pre y) (WpFn 𝓤 H 𝓣.C 𝓣.Λ here ((walk_of 𝓛 ended stayed held).args y) ((walk_of 𝓛 ended stayed held).post y))

    -- only the tokens of the lifetimes are left
    abbrev Tokens : Bound → List (Item 𝓤)
    Tokens z = ‵ (flft z.0.0.0 z.0.1.0) ∷ ‵ (flft z.0.0.1.0 z.0.1.1.0) ∷ (‵ (flft z.0.0.1.1.0 z.0.1.1.1.0) ⊛ ‵ ftrue) ∷ []

    exits : (z : Bound) → ent 𝓤 (⋆ 𝓛 (Tokens z)) ((walk_of 𝓛 ended stayed held).post z vunit)
    exits z =
        qed 𝓛 (Tokens z) ∵
        suffices ! _ (ends_at 𝓛 ended stayed held z vunit tt (tt, (tt, (tt, tt))) (tt, (tt, (tt, tt)))) $
        move ! (1 ∷ 2 ∷ 0 ∷ []) $ join ! $ move ! (1 ∷ 0 ∷ []) $ join ! $ feq_i ! (List Val) (vunit ∷ []) (vunit ∷ []) refl $
        nothing ! $ nothing ! $ fjoin ! $ nothing ! $ fjoin ! $ nothing ! $ fjoin ! $ join ! $
        move ! (1 ∷ 0 ∷ []) $ join ! $ nothing ! $ move ! (1 ∷ 0 ∷ []) $ done !

    walk : (z : Bound) → Goes z
    walk z =
        let κ = z.0.0.0 in let κ₁ = z.0.0.1.0 in let κ₂ = z.0.0.1.1.0 in let q = z.0.1.0 in let q₁ = z.0.1.1.0 in let q₂ = z.0.1.1.1.0 in
        let rb : ℕ = z.0.3.0.ref_ptr.0 in let ro : ℕ = z.0.3.0.ref_ptr.1 in let vss = z.0.4 in
        let Post : Val → SProp 𝓤 = (walk_of 𝓛 ended stayed held).post z in
        let Run : List Val → SProp 𝓤 = λ ws. WpFn 𝓤 H 𝓣.C 𝓣.Λ here ws Post in
        let a : Hd E = z.0.3.0.now in let r : (Row E).Denot = z.0.3.1.0 in let d : (Dd E).Denot = z.0.3.1.1.0 in
        let k : ℕ = slots_len r in let c : ℕ = d.cap in let zs : List (el_x E) = slots_items r in let fs : List Bool = slots_filled r in
        let Whole : Type 0 = (d.ptr ≡ slots_ptr r) × (d.out ≡ k) × (d.alloc ≡ a) in
        let s : ℕ = sz E in let τ : Ty = elτ E in let al : ℕ = capped (align τ) in
        qed 𝓛 (((‵ (flft κ q) ⊛ ‵ (flft κ₁ q₁) ⊛ ‵ (flft κ₂ q₂) ⊛ ‵ ftrue) ⊛ ‵ (owns (types_at ended.signature.params z.0.0) z.0.3 vss))
        ∷ (raw (fact 𝓤 (κ₁ ⊑ E.row.lives)) ⊛ raw (fact 𝓤 (κ₂ ⊑ E.al.row.lives)) ⊛ raw (fact 𝓤 Whole) ⊛ raw (fact 𝓤 (fs ≡ replicate k false))) ∷ []) ∵
        move ! (1 ∷ []) $ split3 ! $ heard ! (κ₁ ⊑ E.row.lives) (λ inE. heard ! (κ₂ ⊑ E.al.row.lives) (λ inA. split ! $ heard ! Whole (λ is. drop ! $
        split ! $ split3 ! $ move ! (3 ∷ []) $ fsplit3 ! $ fsplit ! $ feq_l ! (λ e₀. move ! (1 ∷ []) $ Row-seen E ! r vss.1.0 (λ b o at e₁ fk.
        move ! (2 ∷ []) $ fsplit ! $ deed_had E ! d vss.1.1.0 b o (is.0 ∙ at) (λ e₂ fc fit. keep ! (2 ∷ 5 ∷ 0 ∷ 3 ∷ 4 ∷ 6 ∷ []) $
        -- [the row; T's token; the rest of the block; the handle; its token; A's token]
        let us : List Val = vptr rb ro ∷ row_val b o k ∷ lease_val (block_ptr b o) c ∷ [] in
        let lc : k ≤ c = subst (λ (j : ℕ). j ≤ c) is.1 d.ok.0 in
        let lz : k ≡ length zs = (slots_counts r).0 in let lf : k ≡ length fs = (slots_counts r).1 in
        let words : WT (row_val b o k) = (tt, (record { fits = fk }, tt)) in
        suffices ! (Run us) (subst (λ (ws : List Val). ent 𝓤 (Run us) (Run ws)) (sym (λ i. e₀ i ++ (e₁ i ++ (e₂ i ++ [])))) (id⊢ 𝓤 (Run us))) $
        enter ! 𝓣.C 𝓣.Λ here us Post $ alloc_all ! (λ l. pass_all ! refl ((tt, tt), ((tt, words), ((tt, (tt, (record { fits = fc }, (tt, tt)))), tt))) $
        let En : Env 𝓤 H = env here.locals l in
        let y : (Into E 𝓛 at_mem run).Ghost = at_into E 𝓛 at_mem run κ₁ q₁ r b o in
        first ! $ blocks ! $ sets ! (of_opd ! (get ! refl)) refl (tt, words) $
        use2 𝓛 (raw ((Into E 𝓛 at_mem run).pre y)) (Into-goes E 𝓛 at_mem run κ₁ q₁ r b o inE) $
        calls_at_last ! (fm_of 𝓤 H 𝓛.laws 𝓣) (Into E 𝓛 at_mem run) met y (and_then ! (get ! refl) (no_more !)) (λ v.
        use1 𝓛 (later (given (v ≡ row_val b o k) (‵ (all E b o zs fs) ⊛ ‵ (flft κ₁ q₁)))) (Into-gives E 𝓛 at_mem run κ₁ q₁ r b o v at) $ await ! tt $ learn ! (λ e. split ! $
        lands_last ! refl (parts_typed v b o k e fk) $ exec ! 𝓣.C 𝓣.Λ En (after 1 here.body) (at_ret En Post) $
        -- [the places; T's token; the rest of the block; the handle; its token; A's token]
        sets ! (of_opd ! (get ! refl)) refl (parts_typed v b o k e fk) $
        sets ! (of_opd ! (get_in ! (fld ! refl (stop !)) (sub ! 0 refl (whole !)))) refl (tt, tt) $ sets ! (of_opd ! (get_in ! (fld ! refl (stop !)) (sub ! 1 refl (whole !)))) refl (tt, record { fits = fc }) $
        sets ! (bin ! (get ! refl) (lit ! tt) tt) refl (tt, tt) $
        rewrite ! 2 (λ (j : ℕ). ‵ (owns_if (has_block c) (Rest E d.alloc b o j c))) is.1 refl $ rewrite ! 2 (λ (g : Hd E). ‵ (owns_if (has_block c) (Rest E g b o k c))) is.2 refl $ move ! (0 ∷ 2 ∷ []) $
        use2 𝓛 (‵ (Blk E a b o 0 c (take 0 zs))) (vec_in E 𝓛 b a o (has_block c) 0 k c zs fs (sym lz) (sym lf) (omega arith) lc (λ i low high. absurd (omega arith))) $
        first ! $ branches ! (get ! refl)
        (λ t.
        let fm : c * s < 2 ^ 64 = wider (c * s) fit in
        let tiny : s < 2 ^ 64 = one_below c s (2 ^ 64) (live_pos c t) fm in
        let x : (Gives E.al 𝓛 at_mem run).Ghost = at_gives E.al 𝓛 at_mem run κ q (rb, ro) a b o (c * s) al (bare (ty_array τ c)) in
        rewrite ! 0 (λ (j : Bool). ‵ (owns_if j (block_with_items (token E.al a) (R E) (block_ptr b o) 0 c (take 0 zs)))) (T_true (has_block c) t) refl $
        fsplit ! $ move ! (1 ∷ []) $ fsplit ! $ as_written ! (ty_array τ (c - 0)) b (o + 0 * s) $ move ! (2 ∷ 0 ∷ 1 ∷ []) $
        use2 𝓛 (‵ (froom (ty_array τ c) b o)) (all_room E 𝓛 b o 0 c (take 0 zs) (omega arith)) $ as_raw ! (ty_array τ c) b o $
        blocks ! $ sets ! (of_opd ! (get ! refl)) refl (tt, tt) $
        sets ! (bin ! (get ! refl) (size_lit ! (record { fits = tiny })) (record { fits = fm })) refl (tt, record { fits = fm }) $ move ! (0 ∷ 1 ∷ 3 ∷ 4 ∷ []) $ group ! 4 $
        use1 𝓛 (raw ((Gives E.al 𝓛 at_mem run).pre x)) (Gives-goes E.al 𝓛 at_mem run κ q (rb, ro) a (Incl-trans z.0.2.0 inA) b o (c * s) al (bare (ty_array τ c))
        (ap capped (size-raw (ty_array τ c)) ∙ capped_is (c * s) fm) (ap capped (align-raw τ)) fm (capped_fits (align τ))) $
        calls_at_last ! (fm_of 𝓤 H 𝓛.laws 𝓣) (Gives E.al 𝓛 at_mem run) gives x (and_then ! (get ! refl) (and_then ! (get ! refl) (and_then ! (get ! refl) (and_then ! (align_word !) (no_more !))))) (λ w.
        use1 𝓛 (later (given (w ≡ vunit) (‵ (flft κ q)))) (Gives-Gives E.al 𝓛 at_mem run κ q (rb, ro) a b o (c * s) al (bare (ty_array τ c)) w) $ await ! tt $ learn ! (λ given_up.
        lands_last ! refl (subst (λ (u : Val). T (has_ty ty_unit u) × WT u) (sym given_up) (tt, tt)) $ exec ! 𝓣.C 𝓣.Λ En (after 6 here.body) (at_ret En Post) $
        sets ! (of_opd ! (unit_lit !)) refl (tt, tt) $ returns ! (look_at ! 0 refl) $ free_all ! refl $ keep ! (0 ∷ 1 ∷ 2 ∷ []) $ by ! (exits z))))
        (λ t. skips ! $ exec ! 𝓣.C 𝓣.Λ En (after 6 here.body) (at_ret En Post) $
        sets ! (of_opd ! (unit_lit !)) refl (tt, tt) $ returns ! (look_at ! 0 refl) $ free_all ! refl $ keep ! (3 ∷ 1 ∷ 4 ∷ []) $ by ! (exits z)))))))))))

    meets : Meets 𝓛 ended.signature (WpFn 𝓤 H 𝓣.C 𝓣.Λ here) (closing 𝓛 ended held)
    meets = walk_Meets 𝓛 ended stayed (
      Goes-dropped 𝓛 3 (RefOf (0 ∷ []) tt (plain (λ _. P E)) (λ _. tt)) yes (λ κs x f. refl),
      (Goes-dropped 𝓛 3 (plain (λ _. Row E)) no (λ κs x f. refl), (Goes-dropped 𝓛 3 (plain (λ _. Dd E)) no (λ κs x f. refl), tt)),
    ) held (WpFn 𝓤 H 𝓣.C 𝓣.Λ here) (WpFn-mono 𝓤 H 𝓛.laws 𝓣 here) walk

pub close_spec : {M : Type 1} → stated.statement M
unfolding tables_of
close_spec 𝓤 𝓛 𝓜 𝓡 wired X Z L LZ g d dd met md =
    let E : El = record { row = X; laws = L; al = record { row = Z; laws = LZ; g = g; d = d; drops = dd } } in
    let 𝓣 : Tables 𝓤 𝓛.H = tables_of 𝓤 𝓛.H 𝓜 (tables 𝓤 𝓛.H 𝓜 𝓡 𝓡.env) in
    entered 𝓤 𝓛.H (triple_of 𝓛 (ended E).signature (F.spec X Z g d dd 𝓛 𝓜.mem 𝓡.returns)) 𝓣.C 𝓣.Λ (#self (args E)) (here E) (code.unfolded 𝓤 𝓛.H 𝓜 𝓡 wired (X, (Z, tt)) d dd)
    (meets E 𝓛 𝓜.mem 𝓡.returns 𝓣 (callee.met 𝓤 𝓛 𝓜 𝓡 (code.calls-core::slots::Slots::into_raw_parts 𝓡.env wired) X L) (met.deallocate dd))
