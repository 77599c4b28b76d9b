-- `slice` hands out what a `&` to the places holds of a run of values. Assumes `Logic`.
use mathlib.Core.Path.{◌≡◌, refl, sym, ap, subst, ◌∙◌}
use Prim.Native.Nat.{ℕ, ◌+◌, ◌*◌, ◌<◌, ◌^◌}
use mathlib.Core.List.{List, [], ◌∷◌, ◌++◌}
use seplogic.Ra.Ura.{Ura}
use mir.Syntax.{Fn, named}
use mir.MapTy.{inst_fn}
use mir.Val.{Val, vptr, vint}
use native.Mathlib.Omega.{arith}
use mir.Syntax.{w64}
use base.Logic.{mono_r, snd∗}
use types.Kit.{at_ret, feq_i}
use types.Part.{whole, sub}
use types.Run.{stop, fld, of_opd, bin, first, blocks, exec}
use types.ByLocal.{through, sets_last, env}
use denote.Exit.{yes}
use denote.Builtin.{usize}
use denote.Triple.Walked.{needs, Goes-dropped}
use lib.ListN.{take, length-take, length-drop}
use lib.ListN.{drop as drop_l}
use mathlib.Core.List.{map}
use Rattle.std.proofs.lemmas.List.{length-map}
use denote.Slice.{ShrSlice, slice_val, elements_shared}
use types.Run.{size_word}
use types.ByLocal.{is}
use denote.Opens.{hide}
use Rattle.core.proofs.slots.Leases.{uncapped}
use Rattle.std.specs.Prelude.{Some}
use Rattle.std_alloc.proofs.VecSteps.Shapes.{after as rest_after}
use Rattle.core.proofs.ptr.Rows.{times_below}
use Rattle.ndarray.specs.base.Slots.{IsRun}
use base.Logic.{SProp, ent, sep, never, id⊢, via}
use base.Fml.{ftrue, flft}
use prog.Memory.{Memory}
use prog.Routine.{Routine}
use prog.Wp.{Env, Calls, Loops, WpFn, Tables}
use types.Logic.{Logic}
use contract.Monad.{fact, Fun}
use contract.Running.{tables, tables_of}
use sound.WpLaws.{WpFn-mono}
use types.Kit.{Item, ⋆, ‵, ◌⊛◌, ◌$◌, ◌∵◌, !, qed, by, move, keep, use1, split as cut_item, join, rewrite, fsplit, fjoin, flt_l, flt_i, feq_l, suffices, frame, done}
use types.Part.{agg}
use types.Run.{and_then, no_more, returns, enter, load}
use denote.Laws.{Is, shows}
use denote.Steps.{peeks, looks, shuts}
use denote.Opens.{unhide}
use denote.Struct.Lending.{lent_out}
use denote.Memory.{hidden_shr}
use denote.Triple.Walked.{Goes-dropped}
use base.Fml.{fhide}
use Rattle.core.specs.contracts.marker.PhantomData as marker
use Rattle.ndarray.specs.base.Scattered.{shared_region_lent}
use Rattle.ndarray.proofs.regions.Shown.{Shown, shown_as}
use Rattle.ndarray.proofs.regions.SharedRegions.{Words, told, words_open, run_seen}
use denote.Memory.{cell_at}
use types.Part.{look_in}
use types.ByLocal.{alloc_all, pass_all, free_all, look_at, get, sets}
use denote.RattleType.{owns}
use denote.Memory.{mem}
use denote.RawPtr.{Ptr, block_ptr, in_a_block}
use denote.Ref.{Bor, ShrRef}
use denote.Builtin.{RefOf}
use denote.Signature.{plain}
use denote.Steps.{nothing}
use denote.Triple.Clauses.{Clauses, closing}
use denote.Triple.Entry.{on_entry}
use denote.Triple.Spec.{Meets, triple_of}
use denote.Triple.Table.{entered}
use denote.Triple.Walked.{says, Stays, stay_dropped, walk_of, ends_at, walk_Meets}
use lib.ListN.{length}
use Rattle.std.specs.Prelude.{Option}
use Rattle.core.proofs.mem.Param.{El, R, args, el_x}
use contract.BorrowLft.{◌⊑◌}
use Rattle.ndarray.proofs.regions.Memory.{Sn, shared_reg}
use Rattle.ndarray.specs.contracts.base.region.SharedRegion as G-type
use Rattle.ndarray.specs.contracts.base.region.SharedRegion.slice as C-fn
use Rattle.ndarray.specs.contracts.base.region.SharedRegion.slice.Key.{name as #self}
use Rattle.ndarray.proofs.base.region.SharedRegion.slice.Statement as stated
use Rattle.ndarray.proofs.base.region.SharedRegion.slice.Code as code

module _ (E : El) where
  abbrev function : Fn
  function = inst_fn (args E) code.function

  abbrev stayed : Stays (C-fn.ended E.row).signature.params (C-fn.ended E.row).kept
  stayed = (stay_dropped (RefOf (0 ∷ []) tt (plain (λ κs. Sn E)) (λ _. tt)) yes, (stay_dropped (plain (λ _. usize)) yes, (stay_dropped (plain (λ _. usize)) yes, tt)))

module _ (E : El) {M : Type 1} {𝓤 : Ura M} (𝓛 : Logic 𝓤) (at_mem : Memory → SProp 𝓤) (run : Routine → Fun 𝓤) (C : Calls 𝓤 𝓛.H) (Λ : Loops 𝓤 𝓛.H) (z : (walk_of 𝓛 (C-fn.ended E.row) (stayed E) (C-fn.clauses E.row 𝓛 at_mem run)).Ghost) where
  open 𝓛 use {H, A}

  abbrev given : Shown (Sn E).Denot
  given = shown_as z.0.0.0 z.0.1.0 z.0.3.0.ref_ptr z.0.3.0.now

  open given use {κ, q, rb, ro, d}

  abbrev cs : List (Option (el_x E))
  cs = d.slots

  abbrev spec : Clauses 𝓤 (C-fn.ended E.row)
  spec = C-fn.clauses E.row 𝓛 at_mem run

  abbrev other : Item 𝓤
  other = ‵ (flft z.0.0.1.0 z.0.1.1.0) ⊛ ‵ ftrue

  abbrev i : ℕ
  i = z.0.3.1.0

  abbrev n : ℕ
  n = z.0.3.1.1.0

  abbrev At : List Val × List Val × List Val → (walk_of 𝓛 (C-fn.ended E.row) (stayed E) spec).Ghost
  At us = ((z.0.0, z.0.1, z.0.2, z.0.3, (us.0, (us.1, (us.2, tt)))), z.1)

  abbrev Post : List Val × List Val × List Val → Val → SProp 𝓤
  Post us = (walk_of 𝓛 (C-fn.ended E.row) (stayed E) spec).post (At us)

  abbrev vals : List Val × List Val × List Val
  vals = (vptr rb ro ∷ [], vint w64 i ∷ [], vint w64 n ∷ [])

  exits : (v : Val) (r : Bor (List (el_x E))) → take n (drop_l i cs) ≡ map Some r.now
      → ent 𝓤 (⋆ 𝓛 (‵ (flft κ q) ∷ ‵ ((ShrSlice (named 0) κ (R E)).own_val r (v ∷ [])) ∷ other ∷ [])) (Post vals v)
  exits v r e =
      qed 𝓛 (‵ (flft κ q) ∷ ‵ ((ShrSlice (named 0) κ (R E)).own_val r (v ∷ [])) ∷ other ∷ []) ∵
      suffices ! _ (ends_at 𝓛 (C-fn.ended E.row) (stayed E) spec (At vals) v r (tt, (tt, (tt, tt))) (tt, (tt, (tt, tt)))) $ says ! e $
      move ! (0 ∷ 2 ∷ []) $ join ! $ frame ! $ nothing ! $ nothing ! $ fjoin ! $ nothing ! $ fjoin ! $ nothing ! $ fjoin ! $ done !

  abbrev Had : List (Item 𝓤)
  Had = ‵ (hidden_shr (Sn E) κ d rb ro) ∷ ‵ (flft κ q) ∷ other ∷ []

  walk : IsRun cs i n → i < 2 ^ 64 → n < 2 ^ 64 → ent 𝓤 (⋆ 𝓛 Had) (WpFn 𝓤 H C Λ (function E) (vptr rb ro ∷ vint w64 i ∷ vint w64 n ∷ []) (Post vals))
  walk asked fits fits_len =
      let xs = asked.1.0 in let filled = asked.1.1 in let inside = asked.0 in
      let long : length xs ≡ n = omega (arith, ap length filled, length-map xs Some, length-take n (drop_l i cs), length-drop i cs) in
      qed 𝓛 Had ∵ enter ! C Λ (function E) (vptr rb ro ∷ vint w64 i ∷ vint w64 n ∷ []) _ $ alloc_all ! (λ l. pass_all ! refl ((tt, tt), ((tt, record { fits = fits }), ((tt, record { fits = fits_len }), tt))) $
      let En : Env 𝓤 H = env (function E).locals l in
      use1 𝓛 (‵ (hidden_shr (Words E) κ (d.ptr, (tt, tt)) rb ro) ⊛ ‵ (fhide (shared_region_lent (R E) d.ptr cs κ)))
      (lent_out 𝓛 (G-type.struct (R E)) (G-type.the_codes (R E).Denot (R E).coded (marker.the_row (R E)).coded) (G-type.the_heap (R E)) (G-type.the_lent (R E)) κ d rb ro) $ cut_item ! $ move ! (1 ∷ []) $ unhide ! $
      in_a_block ! d.ptr (λ p. shared_region_lent (R E) p cs κ) (id⊢ 𝓤 (never 𝓤)) (λ b o e. fsplit ! $ flt_l ! (λ small.
      let is_ptr : shared_reg d.ptr ∷ [] ≡ shared_reg (block_ptr b o) ∷ [] = ap (λ (p : Ptr). shared_reg p ∷ []) e in
      let s = (mem (R E)).size in
      let far : i * s < 2 ^ 64 = omega (arith, times_below i (length cs) s (2 ^ 63) (omega arith) small) in let at : ℕ × ℕ = (b, i * s + o) in
      use1 𝓛 (‵ (elements_shared (R E) xs b (i * s + o) κ)) (run_seen E 𝓛 b κ o cs i n xs (omega arith) filled) $ hide ! $ move ! (1 ∷ 2 ∷ []) $
      looks ! tt (Words E) (words_open E 𝓛) (d.ptr, (tt, tt)) rb ro (λ q' vs. move ! (1 ∷ []) $ peeks ! (Words E) (Is (Words E)) (shows 𝓛 (Words E)) (d.ptr, (tt, tt)) vs (λ p.
      let ev : vs ≡ shared_reg (block_ptr b o) ∷ [] = told E d.ptr vs p ∙ is_ptr in
      rewrite ! 1 (λ (us : List Val). ‵ (cell_at q' (Words E).mir us rb ro)) ev refl $ first ! $ blocks ! $
      sets ! (of_opd ! (load ! (through ! refl (fld ! refl (stop !))) (look_in ! 1 (sub ! 0 refl (whole !))))) refl (tt, tt) $
      sets ! (is ! (bin ! (get ! refl) (size_word !) (record { fits = subst (λ (k : ℕ). k < 2 ^ 64) (sym (uncapped i s far)) far })) (ap (vint w64) (uncapped i s far))) refl (tt, record { fits = far }) $
      sets ! (bin ! (get ! refl) (get ! refl) tt) refl (tt, tt) $
      sets_last ! (agg ! (and_then ! (get ! refl) (and_then ! (get ! refl) (no_more !)))) refl (tt, (tt, (record { fits = fits_len }, tt))) $
      exec ! C Λ En (rest_after 1 (function E).body) (at_ret En (Post vals)) $ sets ! (of_opd ! (get ! refl)) refl (tt, (tt, (record { fits = fits_len }, tt))) $
      rewrite ! 1 (λ (us : List Val). ‵ (cell_at q' (Words E).mir us rb ro)) (sym ev) refl $ move ! (1 ∷ 0 ∷ 2 ∷ []) $ shuts ! tt (Words E) q' (d.ptr, (tt, tt)) vs rb ro $
      returns ! (look_at ! 0 refl) $ free_all ! refl $ keep ! (2 ∷ 0 ∷ 3 ∷ []) $
      flt_i ! (length xs * s) (2 ^ 63) (times_below (length xs) (length cs) s (2 ^ 63) (omega arith) small) $ flt_i ! (length xs) (2 ^ 64) (omega arith) $ fjoin ! $
      feq_i ! (List Val) (slice_val at n ∷ []) (slice_val at (length xs) ∷ []) (ap (λ k. slice_val at k ∷ []) (sym long)) $ fjoin ! $ fjoin ! $ move ! (1 ∷ 0 ∷ []) $
      by ! (exits (slice_val at n) (record { ref_ptr = at; now = xs }) filled))))))

  entry : (us : List Val × List Val × List Val) → IsRun cs i n → ent 𝓤 (on_entry 𝓛 (C-fn.ended E.row).signature z.0.0 z.0.1 z.0.3 (us.0, (us.1, (us.2, tt)))) (WpFn 𝓤 H C Λ (function E) (us.0 ++ (us.1 ++ (us.2 ++ []))) (Post us))
  entry us asked =
      qed 𝓛 ((‵ (flft κ q) ⊛ other) ∷ ‵ (owns (ShrRef (named 0) κ (Sn E) ∷ usize ∷ usize ∷ []) z.0.3 (us.0, (us.1, (us.2, tt)))) ∷ []) ∵
      cut_item ! $ move ! (2 ∷ []) $ fsplit ! $ fsplit ! $ feq_l ! (λ e0. move ! (1 ∷ []) $ fsplit ! $ fsplit ! $ feq_l ! (λ e1. flt_l ! (λ fits. fsplit ! $ fsplit ! $ feq_l ! (λ e2. flt_l ! (λ fits_len.
      keep ! (1 ∷ 2 ∷ 3 ∷ []) $
      by ! (subst (λ (ws : List Val × List Val × List Val). ent 𝓤 (⋆ 𝓛 Had) (WpFn 𝓤 H C Λ (function E) (ws.0 ++ (ws.1 ++ (ws.2 ++ []))) (Post ws))) (λ j. (sym e0 j, sym e1 j, sym e2 j)) (walk asked fits fits_len)))))))

meets : (E : El) {M : Type 1} {𝓤 : Ura M} (𝓛 : Logic 𝓤) (at_mem : Memory → SProp 𝓤) (run : Routine → Fun 𝓤) (𝓣 : Tables 𝓤 𝓛.H)
    → Meets 𝓛 (C-fn.ended E.row).signature (WpFn 𝓤 𝓛.H 𝓣.C 𝓣.Λ (function E)) (closing 𝓛 (C-fn.ended E.row) (C-fn.clauses E.row 𝓛 at_mem run))
meets E {𝓤 = 𝓤} 𝓛 at_mem run 𝓣 =
    walk_Meets 𝓛 (C-fn.ended E.row) (stayed E) (Goes-dropped 𝓛 2 (RefOf (0 ∷ []) tt (plain (λ κs. Sn E)) (λ _. tt)) yes (λ κs x f. refl), (Goes-dropped 𝓛 2 (plain (λ _. usize)) yes (λ κs x f. refl), (Goes-dropped 𝓛 2 (plain (λ _. usize)) yes (λ κs x f. refl), tt)))
    (C-fn.clauses E.row 𝓛 at_mem run) (WpFn 𝓤 𝓛.H 𝓣.C 𝓣.Λ (function E)) (WpFn-mono 𝓤 𝓛.H 𝓛.laws 𝓣 (function E))
    (λ z. let On : SProp 𝓤 = on_entry 𝓛 (C-fn.ended E.row).signature z.0.0 z.0.1 z.0.3 z.0.4 in
    let asks = IsRun z.0.3.0.now.slots z.0.3.1.0 z.0.3.1.1.0 in
    let lives = z.0.0.1.0 ⊑ E.row.lives in via 𝓤 (sep 𝓤 On (fact 𝓤 asks)) (mono_r 𝓤 On (snd∗ 𝓤 (fact 𝓤 lives) (fact 𝓤 asks))) (needs 𝓤 asks On
    (entry E 𝓛 at_mem run 𝓣.C 𝓣.Λ z (z.0.4.0, z.0.4.1.0, z.0.4.1.1.0))))

pub slice_spec : {M : Type 1} → stated.statement M
unfolding tables_of
slice_spec 𝓤 𝓛 𝓜 𝓡 wired X LX =
    let E : El = record { row = X; laws = LX } in
    let 𝓣 : Tables 𝓤 𝓛.H = tables_of 𝓤 𝓛.H 𝓜 (tables 𝓤 𝓛.H 𝓜 𝓡 𝓡.env) in
    entered 𝓤 𝓛.H (triple_of 𝓛 (C-fn.ended X).signature (C-fn.spec X 𝓛 𝓜.mem 𝓡.returns)) 𝓣.C 𝓣.Λ (#self (args E)) (function E) (code.unfolded 𝓤 𝓛.H 𝓜 𝓡 wired (X, tt))
    (meets E 𝓛 𝓜.mem 𝓡.returns 𝓣)
