-- `into_slice` takes a run of values out of the loan, and the loan follows it. Assumes `Logic`.
use mathlib.Core.Path.{◌≡◌, refl, sym, ap, subst, ◌∙◌}
use Prim.Native.Nat.{ℕ, ◌+◌, ◌*◌, ◌<◌, ◌^◌}
use native.Mathlib.Omega.{arith}
use mathlib.Core.List.{List, [], ◌∷◌, ◌++◌, map}
use seplogic.Ra.Ura.{Ura}
use mir.Syntax.{Fn, named, w64}
use mir.MapTy.{inst_fn}
use mir.Val.{Val, vint}
use base.Logic.{SProp, ent, sep, never, id⊢, all, all_e, apply∗, via, snd∗, mono_r}
use base.Stored.{coded_list}
use base.Fml.{Lft, GName, Share, ftrue, flft, fobs, fbor}
use prog.Memory.{Memory}
use prog.Routine.{Routine}
use prog.Wp.{Env, Calls, Loops, WpFn, Tables}
use types.Logic.{Logic, sem}
use contract.Monad.{fact, Fun}
use contract.Running.{tables, tables_of}
use sound.WpLaws.{WpFn-mono}
use types.Kit.{Item, ⋆, ‵, raw, ◌⊛◌, some, later, await, pick, at_ret, ◌$◌, ◌∵◌, !, qed, by, move, keep, drop, use1, use2, split, split3, join, group, rewrite, fsplit, fjoin, feq_l, flt_l, suffices, frame, done}
use types.Part.{whole, sub, agg}
use types.Run.{stop, fld, of_opd, bin, size_word, and_then, no_more, first, blocks, exec, returns, enter}
use types.ByLocal.{alloc_all, pass_all, free_all, look_at, get, get_in, sets, sets_last, is, env}
use types.SemTy.{Body as Borrowed, Arr}
use types.Mut.{open_ref}
use types.Follow.{after, takes_part}
use denote.Exit.{yes, no}
use denote.RattleType.{RattleType, owns}
use denote.Memory.{mem}
use denote.RawPtr.{Ptr, block_ptr, in_a_block}
use denote.Ref.{MutBor}
use denote.Slice.{MutSlice, slice_val}
use denote.FollowSlice.{slice_of}
use denote.Builtin.{usize}
use denote.Signature.{plain, named_lft}
use denote.Steps.{nothing}
use denote.Follow.{follows}
use denote.Array.{Array}
use denote.Triple.Clauses.{Clauses, closing}
use Rattle.core.proofs.alloc.Calls.{Goes-blank}
use denote.Triple.Entry.{on_entry}
use denote.Triple.Spec.{Meets, triple_of}
use denote.Triple.Table.{entered}
use denote.Triple.Walked.{says, needs, Stays, stay_dropped, walk_of, ends_at, Goes-dropped, walk_Meets}
use lib.ListN.{length, take, length-take, length-drop}
use lib.ListN.{drop as drop_l}
use Rattle.std.proofs.lemmas.List.{length-map}
use Rattle.std.specs.Prelude.{Option, Some}
use Rattle.std_alloc.proofs.VecSteps.Shapes.{after as rest_after}
use Rattle.core.proofs.mem.Param.{El, R, args, el_x}
use Rattle.core.proofs.ptr.Rows.{times_below}
use Rattle.core.proofs.slots.Leases.{uncapped}
use contract.BorrowLft.{◌⊑◌}
use Rattle.ndarray.specs.base.Slots.{somes, put_in, IsRun}
use Rattle.ndarray.specs.base.Scattered.{ScatteredElements, scattered, region_owns}
use Rattle.ndarray.proofs.regions.Memory.{lives_as, Rg, reg, words_had, RunAgain, run_out}
use Rattle.ndarray.specs.contracts.base.region.Life as Life-type
use Rattle.ndarray.specs.contracts.base.region.RegionRepr+Life+A.into_slice as F
use Rattle.ndarray.specs.contracts.base.region.RegionRepr+Life+A.into_slice.Key.{name as #self}
use Rattle.ndarray.proofs.base.region.RegionRepr+Life+A.into_slice.Statement as stated
use Rattle.ndarray.proofs.base.region.RegionRepr+Life+A.into_slice.Code as code

module _ (E : El) where
  abbrev function : Fn
  function = inst_fn (args E) code.function

  abbrev stayed : Stays (F.ended E.row).signature.params (F.ended E.row).kept
  stayed = (stay_dropped (plain (λ κs. Rg (Life-type.the_row (named_lft 2 0 tt κs)) E)) no, (stay_dropped (plain (λ _. usize)) yes, (stay_dropped (plain (λ _. usize)) yes, tt)))

module _ (E : El) {M : Type 1} {𝓤 : Ura M} (𝓛 : Logic 𝓤) (at_mem : Memory → SProp 𝓤) (run : Routine → Fun 𝓤) (C : Calls 𝓤 𝓛.H) (Λ : Loops 𝓤 𝓛.H) (κ κ₁ : Lft) (q q₁ : Share) (within : κ ⊑ κ₁)
    (d : (Rg (Life-type.the_row (record { mir = named 0; lft = κ })) E).Denot) (i n : ℕ) where
  open 𝓛 use {H, A}

  -- the lifetime as a type
  abbrev a : RattleType
  a = Life-type.the_row (record { mir = named 0; lft = κ })

  life : κ ≡ a.lives
  life = lives_as κ

  abbrev spec : Clauses 𝓤 (F.ended E.row)
  spec = F.clauses E.row 𝓛 at_mem run

  abbrev other : Item 𝓤
  other = ‵ (flft κ₁ q₁) ⊛ ‵ ftrue

  abbrev cs : List (Option (el_x E))
  cs = d.slots

  abbrev γ : GName
  γ = d.name

  abbrev At : List Val × List Val × List Val → (walk_of 𝓛 (F.ended E.row) (stayed E) spec).Ghost
  At us = (((κ, (κ₁, tt)), (q, (q₁, tt)), (within, tt), (d, (i, (n, tt))), (us.0, (us.1, (us.2, tt)))), tt)

  abbrev Post : List Val × List Val × List Val → Val → SProp 𝓤
  Post us = (walk_of 𝓛 (F.ended E.row) (stayed E) spec).post (At us)

  abbrev new : List (el_x E) → List (el_x E)
  new ws = somes (put_in cs i ws)

  exits : (us : List Val × List Val × List Val) (v : Val) (r : MutBor (List (el_x E))) → take n (drop_l i cs) ≡ map Some r.now
      → ent 𝓤 (sep 𝓤 (sem 𝓛 ((MutSlice (named 0) κ (R E)).own_val r (v ∷ []))) (sep 𝓤 (A.lft κ q) (sep 𝓤 (sem 𝓛 (follows (Array (R E) 0) (Array (R E) 0) γ r.ghost_name new)) (sep 𝓤 (A.lft κ₁ q₁) (sem 𝓛 ftrue))))) (Post us v)
  exits us v r e =
      qed 𝓛 (‵ ((MutSlice (named 0) κ (R E)).own_val r (v ∷ [])) ∷ ‵ (flft κ q) ∷ ‵ (follows (Array (R E) 0) (Array (R E) 0) γ r.ghost_name new) ∷ other ∷ []) ∵
      suffices ! _ (ends_at 𝓛 (F.ended E.row) (stayed E) spec (At us) v r ((tt, tt), (tt, (tt, tt))) (tt, (tt, (tt, tt)))) $
      nothing ! $ nothing ! $ fjoin ! $ nothing ! $ fjoin ! $ nothing ! $ fjoin ! $ join ! $ move ! (1 ∷ 3 ∷ []) $ join ! $ join ! $ frame ! $ says ! e $ done !

  module _ (b o : ℕ) where
    abbrev me : Val
    me = reg (block_ptr b o)

    abbrev vals : List Val × List Val × List Val
    vals = (me ∷ [], vint w64 i ∷ [], vint w64 n ∷ [])

    abbrev Had : List (Item 𝓤)
    Had = ‵ (region_owns κ (R E) (block_ptr b o) γ cs) ∷ ‵ (flft κ q) ∷ other ∷ []

    walk : IsRun cs i n → i < 2 ^ 64 → n < 2 ^ 64 → ent 𝓤 (⋆ 𝓛 Had) (WpFn 𝓤 H C Λ (function E) (me ∷ vint w64 i ∷ vint w64 n ∷ []) (Post vals))
    walk asked fits fits_len =
        let xs = asked.1.0 in let filled = asked.1.1 in let inside = asked.0 in
        let long : length xs ≡ n = omega (arith, ap length filled, length-map xs Some, length-take n (drop_l i cs), length-drop i cs) in
        qed 𝓛 Had ∵ enter ! C Λ (function E) (me ∷ vint w64 i ∷ vint w64 n ∷ []) _ $ alloc_all ! (λ l. pass_all ! refl ((tt, ((tt, (tt, tt)), (tt, tt))), ((tt, record { fits = fits }), ((tt, record { fits = fits_len }), tt))) $
        let En : Env 𝓤 H = env (function E).locals l in
        fsplit ! $ flt_l ! (λ small.
        let s = (mem (R E)).size in
        let far : i * s < 2 ^ 64 = omega (arith, times_below i (length cs) s (2 ^ 63) (omega arith) small) in
        sets ! (of_opd ! (get_in ! (fld ! refl (fld ! refl (stop !))) (sub ! 0 refl (sub ! 0 refl (whole !))))) refl (tt, tt) $ first ! $ blocks ! $
        sets ! (is ! (bin ! (get ! refl) (size_word !) (record { fits = subst (λ (k : ℕ). k < 2 ^ 64) (sym (uncapped i s far)) far })) (ap (vint w64) (uncapped i s far))) refl (tt, record { fits = far }) $
        sets ! (bin ! (get ! refl) (get ! refl) tt) refl (tt, tt) $
        sets_last ! (agg ! (and_then ! (get ! refl) (and_then ! (get ! refl) (no_more !)))) refl (tt, (tt, (record { fits = fits_len }, tt))) $
        exec ! C Λ En (rest_after 2 (function E).body) (at_ret En (Post vals)) $ sets ! (of_opd ! (get ! refl)) refl (tt, (tt, (record { fits = fits_len }, tt))) $
        let at = i * s + o in let code = (ScatteredElements (R E) cs).coded.code (somes cs) in let T = Arr (mem (R E)) (length xs) in
        fsplit ! $ open_ref ! tt (ScatteredElements (R E) cs) {x = somes cs} {b = b} {o = o} $
        use1 𝓛 (‵ (T.own_at xs b at) ⊛ raw (all 𝓤 (RunAgain E 𝓛 b cs i (length xs) o at))) (run_out E 𝓛 b cs i n o at xs inside refl long filled) $ split ! $
        move ! (2 ∷ 3 ∷ 4 ∷ 0 ∷ 1 ∷ []) $ group ! 5 $
        use1 𝓛 (later (some (λ (δ : GName). ‵ (fobs δ ((coded_list (R E).coded).code xs)) ⊛ ‵ (fbor κ (Borrowed T b at δ)) ⊛ ‵ (flft κ q) ⊛ ‵ (after (ScatteredElements (R E) cs) T γ δ new))))
        (takes_part 𝓛 (ScatteredElements (R E) cs) T new κ q b o b at γ (all 𝓤 (RunAgain E 𝓛 b cs i (length xs) o at)) (back at (length xs)) code code xs) $ await ! tt $ pick ! (λ δ. split3 ! $
        use2 𝓛 (‵ ((MutSlice (named 0) κ (R E)).own_val (record { ref_ptr = (b, at); ghost_name = δ; now = xs }) (slice_val (b, at) (length xs) ∷ []))) (slice_of 𝓛 (R E) (named 0) κ b at δ xs (omega arith, times_below (length xs) (length cs) s (2 ^ 63) (omega arith) small)) $
        rewrite ! 0 (λ (k : ℕ). ‵ ((MutSlice (named 0) κ (R E)).own_val (record { ref_ptr = (b, at); ghost_name = δ; now = xs }) (slice_val (b, at) k ∷ []))) long refl $ move ! (1 ∷ []) $ split ! $
        returns ! (look_at ! 0 refl) $ free_all ! refl $ keep ! (2 ∷ 0 ∷ 1 ∷ 3 ∷ []) $ by ! (exits vals (slice_val (b, at) n) (record { ref_ptr = (b, at); ghost_name = δ; now = xs }) filled))))
      where
        back : (at m : ℕ) (ws : List (el_x E)) → ent 𝓤 (sep 𝓤 (sem 𝓛 ((Arr (mem (R E)) m).own_at ws b at)) (all 𝓤 (RunAgain E 𝓛 b cs i m o at))) (sem 𝓛 (scattered (R E) b o cs (new ws)))
        back at m ws = qed 𝓛 (‵ ((Arr (mem (R E)) m).own_at ws b at) ∷ raw (all 𝓤 (RunAgain E 𝓛 b cs i m o at)) ∷ []) ∵ move ! (1 ∷ []) $
            use1 𝓛 (raw (RunAgain E 𝓛 b cs i m o at ws)) (all_e 𝓤 (RunAgain E 𝓛 b cs i m o at) ws) $ move ! (1 ∷ 0 ∷ []) $ by ! (apply∗ 𝓤 (sem 𝓛 ((Arr (mem (R E)) m).own_at ws b at)) (sem 𝓛 (scattered (R E) b o cs (new ws))))

  entry : (us : List Val × List Val × List Val) → IsRun cs i n → ent 𝓤 (on_entry 𝓛 (F.ended E.row).signature (κ, (κ₁, tt)) (q, (q₁, tt)) (d, (i, (n, tt))) (us.0, (us.1, (us.2, tt)))) (WpFn 𝓤 H C Λ (function E) (us.0 ++ (us.1 ++ (us.2 ++ []))) (Post us))
  entry us asked =
      qed 𝓛 ((‵ (flft κ q) ⊛ other) ∷ ‵ (owns (Rg a E ∷ usize ∷ usize ∷ []) (d, (i, (n, tt))) (us.0, (us.1, (us.2, tt)))) ∷ []) ∵
      split ! $ move ! (2 ∷ []) $ fsplit ! $ fsplit ! $ words_had ! a E d.shared us.0 (λ e0. drop ! $
      rewrite ! 0 (λ (k : Lft). ‵ (region_owns k (R E) d.shared.ptr γ cs)) (sym life) refl $ in_a_block ! d.shared.ptr (λ p. region_owns κ (R E) p γ cs) (id⊢ 𝓤 (never 𝓤)) (λ b o e. move ! (1 ∷ []) $
      fsplit ! $ fsplit ! $ feq_l ! (λ e1. flt_l ! (λ fits. fsplit ! $ fsplit ! $ feq_l ! (λ e2. flt_l ! (λ fits_len.
      keep ! (1 ∷ 2 ∷ 3 ∷ []) $
      by ! (subst (λ (ws : List Val × List Val × List Val). ent 𝓤 (⋆ 𝓛 (Had b o)) (WpFn 𝓤 H C Λ (function E) (ws.0 ++ (ws.1 ++ (ws.2 ++ []))) (Post ws))) (λ j. (sym (e0 ∙ ap (λ (p : Ptr). reg p ∷ []) e) j, sym e1 j, sym e2 j)) (walk b o asked fits fits_len))))))))

meets : (E : El) {M : Type 1} {𝓤 : Ura M} (𝓛 : Logic 𝓤) (at_mem : Memory → SProp 𝓤) (run : Routine → Fun 𝓤) (𝓣 : Tables 𝓤 𝓛.H)
    → Meets 𝓛 (F.ended E.row).signature (WpFn 𝓤 𝓛.H 𝓣.C 𝓣.Λ (function E)) (closing 𝓛 (F.ended E.row) (F.clauses E.row 𝓛 at_mem run))
meets E {𝓤 = 𝓤} 𝓛 at_mem run 𝓣 =
    walk_Meets 𝓛 (F.ended E.row) (stayed E) (Goes-blank 𝓛 2 (plain (λ κs. Rg (Life-type.the_row (named_lft 2 0 tt κs)) E)) no (λ κs x f. tt), (Goes-dropped 𝓛 2 (plain (λ _. usize)) yes (λ κs x f. refl), (Goes-dropped 𝓛 2 (plain (λ _. usize)) yes (λ κs x f. refl), tt)))
    (F.clauses E.row 𝓛 at_mem run) (WpFn 𝓤 𝓛.H 𝓣.C 𝓣.Λ (function E)) (WpFn-mono 𝓤 𝓛.H 𝓛.laws 𝓣 (function E))
    (λ z. let κs = z.0.0 in let qs = z.0.1 in let a = z.0.3 in let vss = z.0.4 in let On : SProp 𝓤 = on_entry 𝓛 (F.ended E.row).signature κs qs a vss in
    let asks = IsRun a.0.slots a.1.0 a.1.1.0 in
    let lives = κs.1.0 ⊑ E.row.lives in via 𝓤 (sep 𝓤 On (fact 𝓤 asks)) (mono_r 𝓤 On (snd∗ 𝓤 (fact 𝓤 lives) (fact 𝓤 asks))) (needs 𝓤 asks On
    (entry E 𝓛 at_mem run 𝓣.C 𝓣.Λ κs.0 κs.1.0 qs.0 qs.1.0 z.0.2.0 a.0 a.1.0 a.1.1.0 (vss.0, vss.1.0, vss.1.1.0))))

pub into_slice_spec : {M : Type 1} → stated.statement M
unfolding tables_of
into_slice_spec 𝓤 𝓛 𝓜 𝓡 wired X LX =
    let E : El = record { row = X; laws = LX } in
    let 𝓣 : Tables 𝓤 𝓛.H = tables_of 𝓤 𝓛.H 𝓜 (tables 𝓤 𝓛.H 𝓜 𝓡 𝓡.env) in
    entered 𝓤 𝓛.H (triple_of 𝓛 (F.ended X).signature (F.spec X 𝓛 𝓜.mem 𝓡.returns)) 𝓣.C 𝓣.Λ (#self (args E)) (function E) (code.unfolded 𝓤 𝓛.H 𝓜 𝓡 wired (X, tt))
    (meets E 𝓛 𝓜.mem 𝓡.returns 𝓣)
