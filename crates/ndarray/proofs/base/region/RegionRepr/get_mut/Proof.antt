-- `get_mut` lends the loan again, and of that one value. Assumes `Logic`.
use mathlib.Core.Path.{◌≡◌, refl, sym, ap, subst, ◌∙◌}
use Prim.Native.Nat.{ℕ, ◌+◌, ◌*◌, ◌<◌, ◌^◌}
use mathlib.Core.List.{List, [], ◌∷◌, ◌++◌}
use seplogic.Ra.Ura.{Ura}
use base.Fraction.{full_share}
use mir.Syntax.{Fn, Args, named, a_type}
use mir.MapTy.{inst_fn}
use mir.Val.{Val, vptr, vint}
use native.Mathlib.Omega.{arith}
use mir.Syntax.{w64}
use base.Logic.{all, all_e, apply∗}
use types.Kit.{at_ret, fjoin3, feq_i}
use types.Part.{whole, sub}
use types.Run.{stop, fld, of_opd, addr, bin, size_lit, first, blocks, exec}
use types.ByLocal.{through, sets_last, env}
use types.Follow.{takes_part}
use denote.Exit.{yes}
use denote.Builtin.{usize}
use denote.Follow.{follows_then}
use denote.Triple.Walked.{Goes-dropped}
use lib.ListN.{set, get_or}
use Rattle.std.specs.Prelude.{Some, None}
use Rattle.std_alloc.proofs.VecSteps.Shapes.{after as rest_after}
use Rattle.core.proofs.ptr.Rows.{times_below, one_below}
use Rattle.ndarray.specs.base.Slots.{IsFilled}
use Rattle.ndarray.specs.base.Scattered.{scattered}
use Rattle.ndarray.proofs.regions.Shown.{Shown, shown_as}
use Rattle.ndarray.proofs.regions.Slots.{filled_within, fill_set, fill}
use Rattle.ndarray.proofs.regions.Memory.{Again, value_out}
use base.Logic.{SProp, ent, sep, never, id⊢}
use base.Fml.{GName, ftrue, fsep, flft, fobs, fbor}
use prog.Memory.{Memory}
use prog.Routine.{Routine}
use prog.Wp.{Env, Calls, Loops, WpFn, Tables}
use types.Logic.{Logic, sem}
use contract.Monad.{fact, Fun}
use contract.Running.{tables, tables_of}
use sound.WpLaws.{WpFn-mono}
use types.Kit.{Item, ⋆, ‵, raw, ◌⊛◌, some, later, await, pick, ◌$◌, ◌∵◌, !, qed, by, move, keep, drop, use1, use2, use3, split as cut_item, split3, join, group, rewrite, fsplit, fsplit3, fjoin, flt_l, flt_i, feq_l, suffices, frame, done}
use types.Run.{returns, enter, load}
use types.Kit.{fpick, fpack}
use denote.Memory.{cell_at}
use types.Part.{look_in}
use types.ByLocal.{alloc_all, pass_all, free_all, look_at, get, sets}
use types.SemTy.{Body as Borrowed}
use types.Mut.{open_ref, close_ref}
use types.Follow.{after}
use denote.Exit.{no}
use denote.RattleType.{RattleType, owns}
use denote.Memory.{mem, part_at, part_of}
use denote.RawPtr.{Ptr, block_ptr, in_a_block}
use denote.Ref.{MutBor, MutRef}
use denote.Builtin.{RefMutOf}
use denote.Signature.{plain}
use denote.Param.{layouts, param}
use denote.Steps.{nothing, heard}
use denote.Struct.OwningLaws.{part_out, part_in}
use denote.Follow.{follows}
use denote.Array.{Array}
use denote.Triple.Clauses.{Clauses, Ended, closing}
use denote.Triple.Entry.{on_entry}
use denote.Triple.Spec.{Meets, triple_of}
use denote.Triple.Table.{entered}
use denote.Triple.Walked.{says, Stays, stay_dropped, walk_of, ends_at, Goes-spent_ref, walk_Meets}
use lib.ListN.{length}
use Rattle.std.specs.Prelude.{Option}
use Rattle.core.proofs.mem.Param.{El, R, el_x}
use contract.BorrowLft.{◌⊑◌, ⊑_trans}
use Rattle.ndarray.specs.base.Slots.{somes}
use Rattle.ndarray.specs.base.Follows.{with_slots}
use Rattle.ndarray.specs.base.Scattered.{ScatteredElements, region_owns}
use Rattle.ndarray.proofs.regions.Memory.{Rg, Words, reg, words_had, words_made}
use Rattle.ndarray.proofs.regions.Reborrows.{lends}
use Rattle.ndarray.specs.contracts.base.region.RegionRepr as G-type
use Rattle.ndarray.specs.contracts.base.region.RegionRepr.get_mut as C-fn
use Rattle.ndarray.specs.contracts.base.region.RegionRepr.get_mut.Key.{name as #self}
use Rattle.ndarray.proofs.base.region.RegionRepr.get_mut.Statement as stated
use Rattle.ndarray.proofs.base.region.RegionRepr.get_mut.Code as code

module _ (E W : El) where
  abbrev args : Args
  args = layouts (a_type ∷ a_type ∷ []) (E.row, (W.row, tt))

  abbrev function : Fn
  function = inst_fn args code.function

  abbrev end : Ended
  end = C-fn.ended E.row W.row

  abbrev stayed : Stays end.signature.params end.kept
  stayed = (stay_dropped (RefMutOf (0 ∷ []) tt (plain (λ _. Rg (param 1 W.row) E)) (λ _. tt)) no, (stay_dropped (plain (λ _. usize)) yes, tt))

module _ (E W : El) {M : Type 1} {𝓤 : Ura M} (𝓛 : Logic 𝓤) (at_mem : Memory → SProp 𝓤) (run : Routine → Fun 𝓤) (C : Calls 𝓤 𝓛.H) (Λ : Loops 𝓤 𝓛.H) (z : (walk_of 𝓛 (end E W) (stayed E W) (C-fn.clauses E.row W.row 𝓛 at_mem run)).Ghost) (inm : z.0.0.0 ⊑ W.row.lives) where
  open 𝓛 use {H, A}

  abbrev a : RattleType
  a = param 1 W.row

  abbrev given : Shown (Rg a E).Denot
  given = shown_as z.0.0.0 z.0.1.0 z.0.3.0.ref_ptr z.0.3.0.now

  open given use {κ, q, rb, ro, d}

  abbrev γ : GName
  γ = z.0.3.0.ghost_name

  abbrev cs : List (Option (el_x E))
  cs = d.slots

  abbrev spec : Clauses 𝓤 (end E W)
  spec = C-fn.clauses E.row W.row 𝓛 at_mem run

  abbrev other : Item 𝓤
  other = ‵ (flft z.0.0.1.0 z.0.1.1.0) ⊛ ‵ (flft z.0.0.1.1.0 z.0.1.1.1.0) ⊛ ‵ ftrue

  abbrev i : ℕ
  i = z.0.3.1.0

  abbrev At : List Val × List Val → (walk_of 𝓛 (end E W) (stayed E W) spec).Ghost
  At us = ((z.0.0, z.0.1, z.0.2, z.0.3, (us.0, (us.1, tt))), z.1)

  abbrev Post : List Val × List Val → Val → SProp 𝓤
  Post us = (walk_of 𝓛 (end E W) (stayed E W) spec).post (At us)

  abbrev vals : List Val × List Val
  vals = (vptr rb ro ∷ [], vint w64 i ∷ [])

  abbrev F' : List (el_x E) → (Rg a E).Denot
  F' ws = with_slots d (fill cs ws)

  abbrev G' : el_x E → List (el_x E)
  G' w = somes (set cs i (Some w))

  abbrev new : el_x E → (Rg a E).Denot
  new w = with_slots d (set cs i (Some w))

  exits : (v : Val) (r : MutBor (el_x E)) → get_or cs i None ≡ Some r.now
      → ent 𝓤 (sep 𝓤 (sem 𝓛 ((MutRef (named 0) κ (R E)).own_val r (v ∷ []))) (sep 𝓤 (A.lft κ q) (sep 𝓤 (sem 𝓛 (follows (Rg a E) (R E) γ r.ghost_name new))
      (sep 𝓤 (A.lft z.0.0.1.0 z.0.1.1.0) (sep 𝓤 (A.lft z.0.0.1.1.0 z.0.1.1.1.0) (sem 𝓛 ftrue)))))) (Post vals v)
  exits v r e =
      qed 𝓛 (‵ ((MutRef (named 0) κ (R E)).own_val r (v ∷ [])) ∷ ‵ (flft κ q) ∷ ‵ (follows (Rg a E) (R E) γ r.ghost_name new) ∷ other ∷ []) ∵
      suffices ! _ (ends_at 𝓛 (end E W) (stayed E W) spec (At vals) v r (tt, (tt, tt)) (tt, (tt, tt))) $
      nothing ! $ nothing ! $ fjoin ! $ nothing ! $ fjoin ! $ join ! $ move ! (1 ∷ 3 ∷ []) $ join ! $ join ! $ frame ! $ says ! e $ done !

  abbrev Had : List (Item 𝓤)
  Had = ‵ (fobs γ ((Rg a E).coded.code d)) ∷ ‵ (fbor κ (Borrowed (mem (Rg a E)) rb ro γ)) ∷ ‵ (flft κ q) ∷ other ∷ []

  walk : IsFilled cs i → i < 2 ^ 64 → ent 𝓤 (⋆ 𝓛 Had) (WpFn 𝓤 H C Λ (function E W) (vptr rb ro ∷ vint w64 i ∷ []) (Post vals))
  unfolding part_of
  walk asked fits =
      let x = asked.0 in let inside = filled_within cs i x asked.1 in
      qed 𝓛 Had ∵ enter ! C Λ (function E W) (vptr rb ro ∷ vint w64 i ∷ []) _ $ alloc_all ! (λ l. pass_all ! refl ((tt, tt), ((tt, record { fits = fits }), tt)) $
      let En : Env 𝓤 H = env (function E W).locals l in
      open_ref ! tt (mem (Rg a E)) {x = d} {b = rb} {o = ro} $
      use1 𝓛 (‵ (part_at (Words a E) full_share (d.shared, (tt, tt)) rb ro) ⊛ ‵ (region_owns a.lives (R E) d.shared.ptr d.name cs)) (part_out 𝓛 (G-type.the_type a (R E)) full_share d rb ro) $ cut_item ! $ move ! (1 ∷ []) $
      in_a_block ! d.shared.ptr (λ p. region_owns a.lives (R E) p d.name cs) (id⊢ 𝓤 (never 𝓤)) (λ b o e. fsplit ! $ flt_l ! (λ small.
      let is : reg d.shared.ptr ∷ [] ≡ reg (block_ptr b o) ∷ [] = ap (λ (p : Ptr). reg p ∷ []) e in
      let s = (mem (R E)).size in let tiny : s < 2 ^ 64 = omega (arith, one_below (length cs) s (2 ^ 63) (omega arith) small) in
      let far : i * s < 2 ^ 64 = omega (arith, times_below i (length cs) s (2 ^ 63) (omega arith) small) in
      move ! (1 ∷ []) $ fpick ! (λ vs. fsplit ! $ move ! (1 ∷ []) $ words_had ! a E d.shared vs (λ ev. move ! (1 ∷ 0 ∷ []) $
      rewrite ! 0 (λ (us : List Val). ‵ (cell_at full_share (Words a E).mir us rb ro)) (ev ∙ is) refl $ first ! $ blocks ! $
      sets ! (of_opd ! (load ! (through ! refl (fld ! refl (fld ! refl (stop !)))) (look_in ! 0 (sub ! 0 refl (sub ! 0 refl (whole !)))))) refl (tt, tt) $
      sets ! (bin ! (get ! refl) (size_lit ! (record { fits = tiny })) (record { fits = far })) refl (tt, record { fits = far }) $
      sets ! (bin ! (get ! refl) (get ! refl) tt) refl (tt, tt) $
      sets_last ! (addr ! (through ! refl (stop !))) refl (tt, tt) $ exec ! C Λ En (rest_after 1 (function E W).body) (at_ret En (Post vals)) $ sets ! (of_opd ! (get ! refl)) refl (tt, tt) $
      rewrite ! 0 (λ (us : List Val). ‵ (cell_at full_share (Words a E).mir us rb ro)) (sym is) refl $
      move ! (1 ∷ []) $ use1 𝓛 (‵ ((Words a E).own_val (d.shared, (tt, tt)) (reg d.shared.ptr ∷ []))) (words_made a E 𝓛 d.shared) $ move ! (1 ∷ 0 ∷ []) $ fjoin ! $
      fpack ! (List Val) (λ us. fsep (cell_at full_share (Words a E).mir us rb ro) ((Words a E).own_val (d.shared, (tt, tt)) us)) (reg d.shared.ptr ∷ []) $ move ! (1 ∷ []) $
      flt_i ! (length cs * (mem (R E)).size) (2 ^ 63) small $ fjoin ! $ rewrite ! 0 (λ (p : Ptr). ‵ (region_owns a.lives (R E) p d.name cs)) (sym e) refl $ move ! (1 ∷ 0 ∷ []) $
      use2 𝓛 (‵ (part_at (Rg a E) full_share d rb ro)) (part_in 𝓛 (G-type.the_type a (R E)) full_share d rb ro) $ close_ref ! tt (mem (Rg a E)) d $
      use3 𝓛 (later (some (λ (ν : GName). ‵ (fobs ν ((ScatteredElements (R E) cs).coded.code (somes cs))) ⊛ ‵ (fbor κ (Borrowed (ScatteredElements (R E) cs) b o ν)) ⊛ ‵ (flft κ q) ⊛ ‵ (after (mem (Rg a E)) (ScatteredElements (R E) cs) γ ν F'))))
      (lends a E 𝓛 κ inm q rb ro γ d b o e) $ await ! tt $ pick ! (λ ν. split3 ! $ move ! (2 ∷ []) $ cut_item ! $ move ! (2 ∷ 3 ∷ 0 ∷ []) $
      let at = i * s + o in let code = (ScatteredElements (R E) cs).coded.code (somes cs) in
      open_ref ! tt (ScatteredElements (R E) cs) {x = somes cs} {b = b} {o = o} $
      use1 𝓛 (‵ ((mem (R E)).own_at x b at) ⊛ raw (all 𝓤 (Again E 𝓛 b cs i o at))) (value_out E 𝓛 b cs i o at x refl asked.1) $ cut_item ! $
      move ! (2 ∷ 3 ∷ 4 ∷ 0 ∷ 1 ∷ []) $ group ! 5 $
      use1 𝓛 (later (some (λ (δ : GName). ‵ (fobs δ ((R E).coded.code x)) ⊛ ‵ (fbor κ (Borrowed (mem (R E)) b at δ)) ⊛ ‵ (flft κ q) ⊛ ‵ (after (ScatteredElements (R E) cs) (mem (R E)) ν δ G'))))
      (takes_part 𝓛 (ScatteredElements (R E) cs) (mem (R E)) G' κ q b o b at ν (all 𝓤 (Again E 𝓛 b cs i o at)) (back b o at) code code x) $ await ! tt $ pick ! (λ δ. split3 ! $
      feq_i ! (List Val) (vptr b at ∷ []) (vptr b at ∷ []) refl $ fjoin3 ! $ move ! (1 ∷ []) $ cut_item ! $ move ! (3 ∷ 1 ∷ []) $
      use2 𝓛 (‵ (follows (Rg a E) (R E) γ δ (λ w. F' (G' w)))) (follows_then 𝓛 (Rg a E) (Array (R E) 0) (R E) F' G' γ ν δ) $
      rewrite ! 0 (λ (K : el_x E → (Rg a E).Denot). ‵ (follows (Rg a E) (R E) γ δ K)) (λ j w. with_slots d (fill_set cs i x w asked.1 j)) refl $
      returns ! (look_at ! 0 refl) $ free_all ! refl $ keep ! (2 ∷ 1 ∷ 0 ∷ 3 ∷ []) $ by ! (exits (vptr b at) (record { ref_ptr = (b, at); ghost_name = δ; now = x }) asked.1))))))))
    where
      back : (b o at : ℕ) (w : el_x E) → ent 𝓤 (sep 𝓤 (sem 𝓛 ((mem (R E)).own_at w b at)) (all 𝓤 (Again E 𝓛 b cs i o at))) (sem 𝓛 (scattered (R E) b o cs (G' w)))
      back b o at w = qed 𝓛 (‵ ((mem (R E)).own_at w b at) ∷ raw (all 𝓤 (Again E 𝓛 b cs i o at)) ∷ []) ∵ move ! (1 ∷ []) $
          use1 𝓛 (raw (Again E 𝓛 b cs i o at w)) (all_e 𝓤 (Again E 𝓛 b cs i o at) w) $ move ! (1 ∷ 0 ∷ []) $ by ! (apply∗ 𝓤 (sem 𝓛 ((mem (R E)).own_at w b at)) (sem 𝓛 (scattered (R E) b o cs (G' w))))

  entry : (us : List Val × List Val) → IsFilled cs i → ent 𝓤 (on_entry 𝓛 (end E W).signature z.0.0 z.0.1 z.0.3 (us.0, (us.1, tt))) (WpFn 𝓤 H C Λ (function E W) (us.0 ++ (us.1 ++ [])) (Post us))
  entry us asked =
      qed 𝓛 ((‵ (flft κ q) ⊛ other) ∷ ‵ (owns (MutRef (named 0) κ (Rg a E) ∷ usize ∷ []) z.0.3 (us.0, (us.1, tt))) ∷ []) ∵
      cut_item ! $ move ! (2 ∷ []) $ fsplit ! $ fsplit3 ! $ feq_l ! (λ e0. move ! (2 ∷ []) $ fsplit ! $ fsplit ! $ feq_l ! (λ e1. flt_l ! (λ fits.
      keep ! (1 ∷ 2 ∷ 3 ∷ 4 ∷ []) $
      by ! (subst (λ (ws : List Val × List Val). ent 𝓤 (⋆ 𝓛 Had) (WpFn 𝓤 H C Λ (function E W) (ws.0 ++ (ws.1 ++ [])) (Post ws))) (λ j. (sym e0 j, sym e1 j)) (walk asked fits)))))

meets : (E W : El) {M : Type 1} {𝓤 : Ura M} (𝓛 : Logic 𝓤) (at_mem : Memory → SProp 𝓤) (run : Routine → Fun 𝓤) (𝓣 : Tables 𝓤 𝓛.H)
    → Meets 𝓛 (end E W).signature (WpFn 𝓤 𝓛.H 𝓣.C 𝓣.Λ (function E W)) (closing 𝓛 (end E W) (C-fn.clauses E.row W.row 𝓛 at_mem run))
meets E W {𝓤 = 𝓤} 𝓛 at_mem run 𝓣 =
    walk_Meets 𝓛 (end E W) (stayed E W) (Goes-spent_ref 𝓛 3 (0 ∷ []) tt (plain (λ _. Rg (param 1 W.row) E)), (Goes-dropped 𝓛 3 (plain (λ _. usize)) yes (λ κs x f. refl), tt))
    (C-fn.clauses E.row W.row 𝓛 at_mem run) (WpFn 𝓤 𝓛.H 𝓣.C 𝓣.Λ (function E W)) (WpFn-mono 𝓤 𝓛.H 𝓛.laws 𝓣 (function E W))
    (λ z. let κs = z.0.0 in let asks = IsFilled z.0.3.0.now.slots z.0.3.1.0 in
    qed 𝓛 (raw (on_entry 𝓛 (end E W).signature z.0.0 z.0.1 z.0.3 z.0.4) ∷ (raw (fact 𝓤 (κs.1.0 ⊑ E.row.lives)) ⊛ raw (fact 𝓤 (κs.1.1.0 ⊑ W.row.lives)) ⊛ raw (fact 𝓤 asks)) ∷ []) ∵
    move ! (1 ∷ []) $ split3 ! $ drop ! $ heard ! (κs.1.1.0 ⊑ W.row.lives) (λ inm. heard ! asks (λ asked.
    by ! (entry E W 𝓛 at_mem run 𝓣.C 𝓣.Λ z (⊑_trans κs.0 κs.1.1.0 W.row.lives z.0.2.0 inm) (z.0.4.0, z.0.4.1.0) asked))))

pub get_mut_spec : {M : Type 1} → stated.statement M
unfolding tables_of
get_mut_spec 𝓤 𝓛 𝓜 𝓡 wired X V LX LV =
    let E : El = record { row = X; laws = LX } in
    let W : El = record { row = V; laws = LV } in
    let 𝓣 : Tables 𝓤 𝓛.H = tables_of 𝓤 𝓛.H 𝓜 (tables 𝓤 𝓛.H 𝓜 𝓡 𝓡.env) in
    entered 𝓤 𝓛.H (triple_of 𝓛 (end E W).signature (C-fn.spec X V 𝓛 𝓜.mem 𝓡.returns)) 𝓣.C 𝓣.Λ (#self (args E W)) (function E W) (code.unfolded 𝓤 𝓛.H 𝓜 𝓡 wired (X, (V, tt)))
    (meets E W 𝓛 𝓜.mem 𝓡.returns 𝓣)
