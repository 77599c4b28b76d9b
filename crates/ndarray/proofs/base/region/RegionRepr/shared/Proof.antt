-- `shared` hands out what a `&` to the region holds of its places. Assumes `Logic`.
use mathlib.Core.Path.{◌≡◌, refl, sym, subst}
use Prim.Native.Nat.{◌+◌}
use mathlib.Core.List.{List, [], ◌∷◌, ◌++◌}
use seplogic.Ra.Ura.{Ura}
use mir.Syntax.{Fn, Args, named, a_type}
use mir.MapTy.{inst_fn}
use mir.Val.{Val, vptr}
use types.Kit.{feq_i}
use types.Run.{stop, fld, addr}
use types.ByLocal.{through}
use denote.Exit.{yes}
use denote.Triple.Walked.{Goes-dropped}
use base.Logic.{SProp, ent, id⊢}
use base.Fml.{ftrue, flft}
use prog.Memory.{Memory}
use prog.Routine.{Routine}
use prog.Wp.{Calls, Loops, WpFn, Tables}
use types.Logic.{Logic, sem}
use contract.Monad.{fact, Fun}
use contract.Running.{tables, tables_of}
use sound.WpLaws.{WpFn-mono}
use types.Kit.{Item, ⋆, ‵, ◌⊛◌, ◌$◌, ◌∵◌, !, raw, qed, by, move, keep, drop, use1, split as cut_item, split3, join, fsplit, fjoin, feq_l, suffices, frame, done}
use types.Run.{returns, enter}
use denote.Memory.{hidden_shr, shared_of}
use denote.Triple.Walked.{Goes-dropped}
use types.ByLocal.{alloc_all, pass_all, free_all, look_at, sets}
use denote.RattleType.{RattleType, owns}
use denote.Ref.{Bor, ShrRef}
use denote.Builtin.{RefOf}
use denote.Signature.{plain}
use denote.Param.{layouts, param}
use denote.Steps.{nothing, heard}
use denote.Triple.Clauses.{Clauses, Ended, closing}
use contract.BorrowLft.{◌⊑◌, ⊑_trans}
use denote.Triple.Entry.{on_entry}
use denote.Triple.Spec.{Meets, triple_of}
use denote.Triple.Table.{entered}
use denote.Triple.Walked.{says, Stays, stay_dropped, walk_of, ends_at, walk_Meets}
use Rattle.std.specs.Prelude.{Option}
use Rattle.core.proofs.mem.Param.{El, R, el_x}
use Rattle.ndarray.specs.base.Scattered.{region_lent, shared_region_lent}
use Rattle.ndarray.proofs.regions.Shown.{Shown, shown_as}
use Rattle.ndarray.proofs.regions.Memory.{Sn, Rg, Words}
use Rattle.ndarray.specs.contracts.base.region.RegionRepr.shared as C-fn
use Rattle.ndarray.specs.contracts.base.region.RegionRepr.shared.Key.{name as #self}
use Rattle.ndarray.proofs.base.region.RegionRepr.shared.Statement as stated
use Rattle.ndarray.proofs.base.region.RegionRepr.shared.Code as code
use Rattle.ndarray.proofs.regions.SharedRegions.{lent_read}

module _ (E W : El) where
  abbrev args : Args
  args = layouts (a_type ∷ a_type ∷ []) (E.row, (W.row, tt))

  abbrev function : Fn
  function = inst_fn args code.function

  abbrev end : Ended
  end = C-fn.ended E.row W.row

  abbrev stayed : Stays end.signature.params end.kept
  stayed = (stay_dropped (RefOf (0 ∷ []) tt (plain (λ _. Rg (param 1 W.row) E)) (λ _. tt)) yes, tt)

module _ (E W : El) {M : Type 1} {𝓤 : Ura M} (𝓛 : Logic 𝓤) (at_mem : Memory → SProp 𝓤) (run : Routine → Fun 𝓤) (C : Calls 𝓤 𝓛.H) (Λ : Loops 𝓤 𝓛.H) (z : (walk_of 𝓛 (end E W) (stayed E W) (C-fn.clauses E.row W.row 𝓛 at_mem run)).Ghost) (inm : z.0.0.0 ⊑ W.row.lives) where
  open 𝓛 use {H, A}

  abbrev a : RattleType
  a = param 1 W.row

  abbrev given : Shown (Rg a E).Denot
  given = shown_as z.0.0.0 z.0.1.0 z.0.3.0.ref_ptr z.0.3.0.now

  open given use {κ, q, rb, ro, d}

  abbrev d' : (Sn E).Denot
  d' = record { ptr = z.0.3.0.now.shared.ptr; marker = record {}; slots = z.0.3.0.now.slots }

  abbrev cs : List (Option (el_x E))
  cs = d.slots

  abbrev spec : Clauses 𝓤 (end E W)
  spec = C-fn.clauses E.row W.row 𝓛 at_mem run

  abbrev other : Item 𝓤
  other = ‵ (flft z.0.0.1.0 z.0.1.1.0) ⊛ ‵ (flft z.0.0.1.1.0 z.0.1.1.1.0) ⊛ ‵ ftrue

  abbrev At : List Val → (walk_of 𝓛 (end E W) (stayed E W) spec).Ghost
  At us = ((z.0.0, z.0.1, z.0.2, z.0.3, (us, tt)), z.1)

  abbrev Post : List Val → Val → SProp 𝓤
  Post us = (walk_of 𝓛 (end E W) (stayed E W) spec).post (At us)

  abbrev vals : List Val
  vals = vptr rb ro ∷ []

  exits : (v : Val) (r : Bor ((Sn E).Denot)) → r.now.slots ≡ cs
      → ent 𝓤 (⋆ 𝓛 (‵ (flft κ q) ∷ ‵ ((ShrRef (named 0) κ (Sn E)).own_val r (v ∷ [])) ∷ other ∷ [])) (Post vals v)
  exits v r e =
      qed 𝓛 (‵ (flft κ q) ∷ ‵ ((ShrRef (named 0) κ (Sn E)).own_val r (v ∷ [])) ∷ other ∷ []) ∵
      suffices ! _ (ends_at 𝓛 (end E W) (stayed E W) spec (At vals) v r (tt, tt) (tt, tt)) $ says ! e $
      move ! (0 ∷ 2 ∷ []) $ join ! $ frame ! $ nothing ! $ nothing ! $ fjoin ! $ done !

  abbrev Had : List (Item 𝓤)
  Had = ‵ (hidden_shr (Rg a E) κ d rb ro) ∷ ‵ (flft κ q) ∷ other ∷ []

  turns : ent 𝓤 (sem 𝓛 (hidden_shr (Rg a E) κ d rb ro)) (sem 𝓛 (hidden_shr (Sn E) κ d' rb (ro + 0)))
  turns = qed 𝓛 (‵ (hidden_shr (Rg a E) κ d rb ro) ∷ []) ∵
      use1 𝓛 (‵ (shared_of (Words a E) (d.shared, (tt, tt)) rb ro κ) ⊛ ‵ (region_lent a.lives (R E) d.shared.ptr cs κ)) (id⊢ 𝓤 _) $ cut_item ! $ fsplit ! $ fsplit ! $ fsplit ! $
      -- [the pointer; no places; the mark; what is left of the place; the places]
      keep ! (0 ∷ 4 ∷ []) $ move ! (1 ∷ []) $ use1 𝓛 (‵ (shared_region_lent (R E) d.shared.ptr cs κ)) (lent_read E 𝓛 a.lives κ inm d.shared.ptr cs) $ move ! (1 ∷ 0 ∷ []) $ fjoin ! $
      by ! (id⊢ 𝓤 _)

  walk : ent 𝓤 (⋆ 𝓛 Had) (WpFn 𝓤 H C Λ (function E W) (vptr rb ro ∷ []) (Post vals))
  walk =
      qed 𝓛 Had ∵ enter ! C Λ (function E W) (vptr rb ro ∷ []) _ $ alloc_all ! (λ l. pass_all ! refl ((tt, tt), tt) $
      use1 𝓛 (‵ (hidden_shr (Sn E) κ d' rb (ro + 0))) turns $
      sets ! (addr ! (through ! refl (fld ! refl (stop !)))) refl (tt, tt) $
      returns ! (look_at ! 0 refl) $ free_all ! refl $ keep ! (0 ∷ 1 ∷ 2 ∷ []) $ feq_i ! (List Val) (vptr rb (ro + 0) ∷ []) (vptr rb (ro + 0) ∷ []) refl $ fjoin ! $ move ! (1 ∷ 0 ∷ []) $
      by ! (exits (vptr rb (ro + 0)) (record { ref_ptr = (rb, ro + 0); now = d' }) refl))

  entry : (us : List Val) → ent 𝓤 (on_entry 𝓛 (end E W).signature z.0.0 z.0.1 z.0.3 (us, tt)) (WpFn 𝓤 H C Λ (function E W) (us ++ []) (Post us))
  entry us =
      qed 𝓛 ((‵ (flft κ q) ⊛ other) ∷ ‵ (owns (ShrRef (named 0) κ (Rg a E) ∷ []) z.0.3 (us, tt)) ∷ []) ∵
      cut_item ! $ move ! (2 ∷ []) $ fsplit ! $ fsplit ! $ feq_l ! (λ e0. keep ! (0 ∷ 2 ∷ 3 ∷ []) $
      by ! (subst (λ (ws : List Val). ent 𝓤 (⋆ 𝓛 Had) (WpFn 𝓤 H C Λ (function E W) (ws ++ []) (Post ws))) (sym e0) walk))

meets : (E W : El) {M : Type 1} {𝓤 : Ura M} (𝓛 : Logic 𝓤) (at_mem : Memory → SProp 𝓤) (run : Routine → Fun 𝓤) (𝓣 : Tables 𝓤 𝓛.H)
    → Meets 𝓛 (end E W).signature (WpFn 𝓤 𝓛.H 𝓣.C 𝓣.Λ (function E W)) (closing 𝓛 (end E W) (C-fn.clauses E.row W.row 𝓛 at_mem run))
meets E W {𝓤 = 𝓤} 𝓛 at_mem run 𝓣 =
    walk_Meets 𝓛 (end E W) (stayed E W) (Goes-dropped 𝓛 3 (RefOf (0 ∷ []) tt (plain (λ _. Rg (param 1 W.row) E)) (λ _. tt)) yes (λ κs x f. refl), tt)
    (C-fn.clauses E.row W.row 𝓛 at_mem run) (WpFn 𝓤 𝓛.H 𝓣.C 𝓣.Λ (function E W)) (WpFn-mono 𝓤 𝓛.H 𝓛.laws 𝓣 (function E W))
    (λ z. let κs = z.0.0 in
    qed 𝓛 (raw (on_entry 𝓛 (end E W).signature z.0.0 z.0.1 z.0.3 z.0.4) ∷ (raw (fact 𝓤 (κs.1.0 ⊑ E.row.lives)) ⊛ raw (fact 𝓤 (κs.1.1.0 ⊑ W.row.lives)) ⊛ ‵ ftrue) ∷ []) ∵
    move ! (1 ∷ []) $ split3 ! $ drop ! $ heard ! (κs.1.1.0 ⊑ W.row.lives) (λ inm. drop ! $
    by ! (entry E W 𝓛 at_mem run 𝓣.C 𝓣.Λ z (⊑_trans κs.0 κs.1.1.0 W.row.lives z.0.2.0 inm) z.0.4.0)))

pub shared_spec : {M : Type 1} → stated.statement M
unfolding tables_of
shared_spec 𝓤 𝓛 𝓜 𝓡 wired X V LX LV =
    let E : El = record { row = X; laws = LX } in
    let W : El = record { row = V; laws = LV } in
    let 𝓣 : Tables 𝓤 𝓛.H = tables_of 𝓤 𝓛.H 𝓜 (tables 𝓤 𝓛.H 𝓜 𝓡 𝓡.env) in
    entered 𝓤 𝓛.H (triple_of 𝓛 (end E W).signature (C-fn.spec X V 𝓛 𝓜.mem 𝓡.returns)) 𝓣.C 𝓣.Λ (#self (args E W)) (function E W) (code.unfolded 𝓤 𝓛.H 𝓜 𝓡 wired (X, (V, tt)))
    (meets E W 𝓛 𝓜.mem 𝓡.returns 𝓣)
