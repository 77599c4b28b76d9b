-- `reborrow` lends the region again, and shares the layout. Assumes `Logic`.
use mathlib.Core.Path.{◌≡◌, refl, sym, ap, subst, ◌∙◌}
use Prim.Native.Nat.{ℕ, ◌+◌, ◌*◌, ◌^◌}
use mathlib.Core.List.{List, [], ◌∷◌, ◌++◌}
use seplogic.Ra.Ura.{Ura}
use base.Fraction.{full_share}
use mir.Syntax.{Fn, Args, named, a_type, dnil, dcons}
use mir.MapTy.{inst_fn}
use mir.Val.{Val, vptr}
use base.Logic.{SProp, ent, never, id⊢}
use base.Fml.{Lft, GName, ftrue, fsep, flft, fobs, fbor, Incl-refl}
use prog.Memory.{Memory}
use prog.Routine.{Routine}
use prog.Wp.{Env, Calls, Loops, WpFn, Tables}
use types.Logic.{Logic}
use contract.Monad.{fact, Fun}
use contract.BorrowLft.{◌⊑◌, ⊑_meet, ⊑_static, ⊑_trans}
use denote.Struct.Tuple.{Tuple}
use contract.Running.{tables, tables_of}
use sound.WpLaws.{WpFn-mono}
use types.Kit.{Item, ⋆, ‵, raw, ◌⊛◌, some, later, await, pick, at_ret, ◌$◌, ◌∵◌, !, qed, by, move, keep, drop, use0, use1, use2, split as cut_item, split3, join, group, rewrite, fsplit, fsplit3, fjoin, flt_l, flt_i, feq_l, feq_i, suffices, frame, done}
use types.Part.{agg, sub, whole, look_in}
use types.Run.{and_then, no_more, returns, enter, of_opd, load, fld, stop, addr, first, blocks, exec}
use types.ByLocal.{through, alloc_all, pass_all, free_all, look_at, get, sets, sets_last, env}
use types.Kit.{fpick, fpack}
use types.SemTy.{Body as Borrowed}
use types.Mut.{open_ref}
use Rattle.std_alloc.proofs.VecSteps.Shapes.{after as rest_after}
use denote.Exit.{no}
use denote.RattleType.{RattleType, owns}
use denote.Memory.{mem, part_at, part_of, cell_at, shared_of}
use denote.RawPtr.{Ptr, block_ptr, in_a_block}
use denote.Ref.{Bor, MutRef, ShrRef}
use denote.Param.{bounded}
use denote.Param.Laws.{param_laws}
use denote.Signature.{plain}
use denote.Steps.{nothing, heard}
use denote.Opens.{hide}
use denote.Struct.OwningLaws.{part_out, part_in}
use denote.Follow.{follows}
use denote.Model.Fields.{view_owns, plain_out}
use denote.Triple.Clauses.{Clauses, Ended, closing}
use denote.Triple.Entry.{on_entry}
use denote.Triple.Spec.{Meets, triple_of}
use denote.Triple.Table.{entered}
use denote.Triple.Walked.{Stays, stay_dropped, walk_of, ends_at, Goes-spent_ref, walk_Meets}
use lib.ListN.{length}
use Rattle.core.proofs.mem.Param.{El, R, el_x}
use Rattle.ndarray.specs.Grid.{Grid}
use Rattle.ndarray.specs.base.Slots.{somes}
use Rattle.ndarray.specs.base.Scattered.{ScatteredElements, region_owns}
use Rattle.ndarray.proofs.regions.Shown.{Shown, shown_as}
use Rattle.ndarray.proofs.regions.Memory.{lives_as, reg, pair_val, two_of, says_both, Rg, Words, shared_at_start, words_had, words_made, words_new}
use denote.Param.{param}
use denote.Signature.{mut_ref_to}
use Rattle.ndarray.specs.contracts.base.region.Life as Life-type
use Rattle.ndarray.proofs.regions.ReborrowedViews.{Dm, Q, Ly, Ar, Inside, view, good, lo, LayAt, Back, fields_of, opens, Got, same_lens}
use Rattle.ndarray.proofs.base.layout.Layout.TheLaws as Y-laws
use Rattle.ndarray.specs.contracts.base.region.RegionRepr as G-type
use Rattle.ndarray.specs.contracts.base.reborrow.ArrayBase+RegionRepr+M+A+D.reborrow as C-fn
use Rattle.ndarray.specs.contracts.base.reborrow.ArrayBase+RegionRepr+M+A+D.reborrow.Key.{name as #self}
use Rattle.ndarray.proofs.base.reborrow.ArrayBase+RegionRepr+M+A+D.reborrow.Statement as stated
use Rattle.ndarray.proofs.base.reborrow.ArrayBase+RegionRepr+M+A+D.reborrow.Code as code

module _ (E : El) (P : Dm) (W : El) where
  abbrev args : Args
  args = bounded (a_type ∷ a_type ∷ a_type ∷ []) (E.row, (P.row, (W.row, tt))) (dcons P.d (dcons P.drops dnil))

  abbrev function : Fn
  function = inst_fn args code.function

  abbrev end : Ended
  end = C-fn.ended E.row P.row W.row P.g P.d P.drops

  abbrev stayed : Stays end.signature.params end.kept
  stayed = (stay_dropped (mut_ref_to (0 ∷ []) tt (plain (λ _. Ar (param 2 W.row) E P))) no, tt)

module _ (E : El) (P : Dm) (W : El) {M : Type 1} {𝓤 : Ura M} (𝓛 : Logic 𝓤) (at_mem : Memory → SProp 𝓤) (run : Routine → Fun 𝓤) (C : Calls 𝓤 𝓛.H) (Λ : Loops 𝓤 𝓛.H)
    (z : (walk_of 𝓛 (end E P W) (stayed E P W) (C-fn.clauses E.row P.row W.row P.g P.d P.drops 𝓛 at_mem run)).Ghost) (ind : z.0.0.0 ⊑ P.row.lives) (inm : z.0.0.0 ⊑ W.row.lives) where
  open 𝓛 use {H, A}

  abbrev given : Shown (Grid (el_x E))
  given = shown_as z.0.0.0 z.0.1.0 z.0.3.0.ref_ptr z.0.3.0.now

  open given use {κ, q, rb, ro, d}

  abbrev a : RattleType
  a = param 2 W.row

  -- the region that is handed out
  abbrev a' : RattleType
  a' = Life-type.the_row (record { mir = named 0; lft = κ })

  life : κ ≡ a'.lives
  life = lives_as κ

  abbrev γ : GName
  γ = z.0.3.0.ghost_name

  abbrev spec : Clauses 𝓤 (end E P W)
  spec = C-fn.clauses E.row P.row W.row P.g P.d P.drops 𝓛 at_mem run

  abbrev other : Item 𝓤
  other = ‵ (flft z.0.0.1.0 z.0.1.1.0) ⊛ ‵ (flft z.0.0.1.1.0 z.0.1.1.1.0) ⊛ ‵ (flft z.0.0.1.1.1.0 z.0.1.1.1.1.0) ⊛ ‵ ftrue

  abbrev At : List Val → (walk_of 𝓛 (end E P W) (stayed E P W) spec).Ghost
  At us = ((z.0.0, z.0.1, z.0.2, z.0.3, (us, tt)), z.1)

  abbrev Post : List Val → Val → SProp 𝓤
  Post us = (walk_of 𝓛 (end E P W) (stayed E P W) spec).post (At us)

  abbrev In : RattleType
  In = Inside a E P

  abbrev Lr : RattleType
  Lr = Ly a E P

  abbrev Had : List (Item 𝓤)
  Had = ‵ (fobs γ ((Ar a E P).coded.code d)) ∷ ‵ (fbor κ (Borrowed (mem (Ar a E P)) rb ro γ)) ∷ ‵ (flft κ q) ∷ other ∷ []

  inl : κ ⊑ Lr.lives
  inl = ⊑_meet κ (P.row.lives ++ []) (P.row.lives ++ (P.row.lives ++ [])) (⊑_meet κ P.row.lives [] ind (⊑_static κ)) (⊑_meet κ P.row.lives (P.row.lives ++ []) ind (⊑_meet κ P.row.lives [] ind (⊑_static κ)))

  walk : ent 𝓤 (⋆ 𝓛 Had) (WpFn 𝓤 H C Λ (function E P W) (vptr rb ro ∷ []) (Post (vptr rb ro ∷ [])))
  unfolding part_of
  walk =
      qed 𝓛 Had ∵ enter ! C Λ (function E P W) (vptr rb ro ∷ []) _ $ alloc_all ! (λ l. pass_all ! refl ((tt, tt), tt) $
      let En : Env 𝓤 H = env (function E P W).locals l in
      open_ref ! tt (mem (Ar a E P)) {x = d} {b = rb} {o = ro} $
      use1 𝓛 (some (λ (x : (x : In.Denot) × ((view a E P x ≡ d) × good a E P x)). ‵ (part_at In full_share x.0 rb ro)))
      (plain_out (Ar a E P) In (view_owns In (Grid (el_x E)) (Ar a E P).coded (view a E P) (good a E P)) 𝓛 full_share d rb ro) $ pick ! (λ x.
      let v : In.Denot = x.0 in let rd : (Rg a E).Denot = v.storage in let cs = rd.slots in let ko : ℕ = ro + 0 in
      use1 𝓛 (‵ (part_at (Rg a E) full_share rd rb ko) ⊛ ‵ (LayAt a E P 𝓛 v rb ro) ⊛ raw (Back a E P 𝓛 v rb ro)) (fields_of a E P 𝓛 v rb ro (param_laws 2 W.row W.laws)) $ split3 ! $
      use1 𝓛 (‵ (part_at (Words a E) full_share (rd.shared, (tt, tt)) rb ko) ⊛ ‵ (region_owns a.lives (R E) rd.shared.ptr rd.name cs)) (part_out 𝓛 (G-type.the_type a (R E)) full_share rd rb ko) $ cut_item ! $ move ! (1 ∷ []) $
      in_a_block ! rd.shared.ptr (λ p. region_owns a.lives (R E) p rd.name cs) (id⊢ 𝓤 (never 𝓤)) (λ b o e. fsplit ! $ flt_l ! (λ small.
      let me : Val = reg (block_ptr b o) in let is : reg rd.shared.ptr ∷ [] ≡ me ∷ [] = ap (λ (p : Ptr). reg p ∷ []) e in
      move ! (1 ∷ []) $ fpick ! (λ vs. fsplit ! $ move ! (1 ∷ []) $ words_had ! a E rd.shared vs (λ ev. move ! (1 ∷ 0 ∷ []) $
      rewrite ! 0 (λ (us : List Val). ‵ (cell_at full_share (Words a E).mir us rb ko)) (ev ∙ is) refl $
      sets ! (addr ! (through ! refl (fld ! refl (stop !)))) refl (tt, tt) $ first ! $ blocks ! $ sets_last ! (addr ! (through ! refl (stop !))) refl (tt, tt) $
      exec ! C Λ En (rest_after 2 (function E P W).body) (at_ret En (Post (vptr rb ro ∷ []))) $ sets ! (of_opd ! (get ! refl)) refl (tt, tt) $
      sets ! (of_opd ! (load ! (through ! refl (fld ! refl (fld ! refl (fld ! refl (stop !))))) (look_in ! 0 (sub ! 0 refl (sub ! 0 refl (whole !)))))) refl (tt, tt) $
      sets ! (agg ! (no_more !)) refl (tt, tt) $ sets ! (agg ! (and_then ! (get ! refl) (and_then ! (get ! refl) (no_more !)))) refl (tt, (tt, (tt, tt))) $
      sets ! (agg ! (no_more !)) refl (tt, tt) $ sets ! (agg ! (and_then ! (get ! refl) (and_then ! (get ! refl) (no_more !)))) refl (tt, ((tt, (tt, tt)), (tt, tt))) $
      sets ! (agg ! (and_then ! (get ! refl) (and_then ! (get ! refl) (no_more !)))) refl (tt, (tt, (((tt, (tt, tt)), (tt, tt)), tt))) $
      rewrite ! 0 (λ (us : List Val). ‵ (cell_at full_share (Words a E).mir us rb ko)) (sym is) refl $
      move ! (1 ∷ []) $ use1 𝓛 (‵ ((Words a E).own_val (rd.shared, (tt, tt)) (reg rd.shared.ptr ∷ []))) (words_made a E 𝓛 rd.shared) $ move ! (1 ∷ 0 ∷ []) $ fjoin ! $
      fpack ! (List Val) (λ us. fsep (cell_at full_share (Words a E).mir us rb ko) ((Words a E).own_val (rd.shared, (tt, tt)) us)) (reg rd.shared.ptr ∷ []) $ move ! (1 ∷ []) $
      flt_i ! (length cs * (mem (R E)).size) (2 ^ 63) small $ fjoin ! $ rewrite ! 0 (λ (p : Ptr). ‵ (region_owns a.lives (R E) p rd.name cs)) (sym e) refl $ move ! (1 ∷ 0 ∷ []) $
      use2 𝓛 (‵ (part_at (Rg a E) full_share rd rb ko)) (part_in 𝓛 (G-type.the_type a (R E)) full_share rd rb ko) $
      -- [the region; the layout; the way back; the open loan; obs; auth; the other tokens]
      move ! (3 ∷ 4 ∷ 5 ∷ 0 ∷ 1 ∷ 2 ∷ []) $ group ! 6 $
      use1 𝓛 (later (some (λ (g : Got a E P 𝓛 κ inm q rb ro v d x.1.0 x.1.1 γ b o e). ‵ (fobs g.1.0 ((ScatteredElements (R E) g.1.1.0.0).coded.code (somes g.1.1.0.0))) ⊛ ‵ (fbor κ (Borrowed (ScatteredElements (R E) g.1.1.0.0) b o g.1.0)) ⊛ ‵ (flft κ q) ⊛ ‵ (follows (Ar a E P) (Ar a E P) γ g.0 (same_lens a E P 𝓛 κ inm q rb ro v d x.1.0 x.1.1)) ⊛ ‵ (fbor κ (LayAt a E P 𝓛 v rb ro)))))
      (opens a E P 𝓛 κ inm q rb ro v d x.1.0 x.1.1 γ b o e) $ await ! tt $ pick ! (λ g. let ν = g.1.0 in let cs' = g.1.1.0.0 in split3 ! $ fjoin ! $
      flt_i ! (length cs' * (mem (R E)).size) (2 ^ 63) g.1.1.1.1 $ fjoin ! $ rewrite ! 0 (λ (p : Ptr). ‵ (region_owns κ (R E) p ν cs')) (sym e) refl $
      rewrite ! 0 (λ (k : Lft). ‵ (region_owns k (R E) rd.shared.ptr ν cs')) life refl $
      use0 𝓛 (‵ ((Words a' E).own_val (shared_at_start E (block_ptr b o), (tt, tt)) (me ∷ []))) (words_new a' E 𝓛 b o) $ rewrite ! 0 (λ (p : Ptr). ‵ ((Words a' E).own_val (shared_at_start E p, (tt, tt)) (me ∷ []))) (sym e) refl $ fjoin ! $
      -- [the new region; the token, what follows, the layout's loan; the other tokens]
      move ! (1 ∷ []) $ split3 ! $ move ! (2 ∷ 0 ∷ []) $
      use2 𝓛 (later (‵ (shared_of Lr v.layout rb (ro + lo a E P) κ) ⊛ ‵ (flft κ q)))
      ((Y-laws.the_row_laws (Q a E P) (param_laws 1 P.row P.laws)).shares 𝓛 v.layout κ ((κ, q) ∷ []) rb (ro + lo a E P) inl (Incl-refl κ)) $ await ! tt $ cut_item ! $
      -- [the layout, shared; the token; what follows; the new region; the other tokens]
      let top : Bor Lr.Denot = record { ref_ptr = (rb, ro + lo a E P); now = v.layout } in
      let put : Val = vptr rb (ro + lo a E P) in
      let lent : (Rg a' E).Denot = record { shared = shared_at_start E rd.shared.ptr; marker = record {}; name = ν; reborrow_name = g.0; slots = cs' } in
      hide ! $ feq_i ! (List Val) (put ∷ []) (put ∷ []) refl $ fjoin ! $ move ! (0 ∷ 3 ∷ []) $
      use2 𝓛 (‵ ((Tuple (ShrRef (named 0) κ Lr ∷ Rg a' E ∷ [])).own_val (top, lent) (pair_val put me ∷ []))) (two_of 𝓛 (ShrRef (named 0) κ Lr) (Rg a' E) top lent put me) $
      -- [the pair; the token; what follows; the other tokens]
      returns ! (look_at ! 0 refl) $ free_all ! refl $ keep ! (0 ∷ 1 ∷ 2 ∷ 3 ∷ []) $
      suffices ! _ (ends_at 𝓛 (end E P W) (stayed E P W) spec (At (vptr rb ro ∷ [])) (pair_val put me) (top, lent) (tt, tt) (tt, tt)) $
      nothing ! $ nothing ! $ fjoin ! $ join ! $ move ! (1 ∷ 3 ∷ []) $ join ! $ join ! $ frame ! $ says_both ! g.1.1.0.1 g.1.1.1.0 $ done !)))))))

  entry : (us : List Val) → ent 𝓤 (on_entry 𝓛 (end E P W).signature z.0.0 z.0.1 z.0.3 (us, tt)) (WpFn 𝓤 H C Λ (function E P W) (us ++ []) (Post us))
  entry us =
      qed 𝓛 ((‵ (flft κ q) ⊛ other) ∷ ‵ (owns (MutRef (named 0) κ (Ar a E P) ∷ []) z.0.3 (us, tt)) ∷ []) ∵
      cut_item ! $ move ! (2 ∷ []) $ fsplit ! $ fsplit3 ! $ feq_l ! (λ e. keep ! (0 ∷ 1 ∷ 3 ∷ 4 ∷ []) $
      by ! (subst (λ (ws : List Val). ent 𝓤 (⋆ 𝓛 Had) (WpFn 𝓤 H C Λ (function E P W) (ws ++ []) (Post ws))) (sym e) walk))

meets : (E : El) (P : Dm) (W : El) {M : Type 1} {𝓤 : Ura M} (𝓛 : Logic 𝓤) (at_mem : Memory → SProp 𝓤) (run : Routine → Fun 𝓤) (𝓣 : Tables 𝓤 𝓛.H)
    → Meets 𝓛 (end E P W).signature (WpFn 𝓤 𝓛.H 𝓣.C 𝓣.Λ (function E P W)) (closing 𝓛 (end E P W) (C-fn.clauses E.row P.row W.row P.g P.d P.drops 𝓛 at_mem run))
meets E P W {𝓤 = 𝓤} 𝓛 at_mem run 𝓣 =
    walk_Meets 𝓛 (end E P W) (stayed E P W) (Goes-spent_ref 𝓛 4 (0 ∷ []) tt (plain (λ _. Ar (param 2 W.row) E P)), tt)
    (C-fn.clauses E.row P.row W.row P.g P.d P.drops 𝓛 at_mem run) (WpFn 𝓤 𝓛.H 𝓣.C 𝓣.Λ (function E P W)) (WpFn-mono 𝓤 𝓛.H 𝓛.laws 𝓣 (function E P W))
    (λ z. let κs = z.0.0 in
    qed 𝓛 (raw (on_entry 𝓛 (end E P W).signature z.0.0 z.0.1 z.0.3 z.0.4) ∷ (raw (fact 𝓤 (κs.1.0 ⊑ E.row.lives)) ⊛ raw (fact 𝓤 (κs.1.1.0 ⊑ P.row.lives)) ⊛ raw (fact 𝓤 (κs.1.1.1.0 ⊑ W.row.lives)) ⊛ ‵ ftrue) ∷ []) ∵
    move ! (1 ∷ []) $ split3 ! $ drop ! $ heard ! (κs.1.1.0 ⊑ P.row.lives) (λ ind. cut_item ! $ heard ! (κs.1.1.1.0 ⊑ W.row.lives) (λ inm. drop ! $
    by ! (entry E P W 𝓛 at_mem run 𝓣.C 𝓣.Λ z (⊑_trans κs.0 κs.1.1.0 P.row.lives z.0.2.1.1.0 ind) (⊑_trans κs.0 κs.1.1.1.0 W.row.lives z.0.2.0 inm) z.0.4.0))))

pub reborrow_spec : {M : Type 1} → stated.statement M
unfolding tables_of
reborrow_spec 𝓤 𝓛 𝓜 𝓡 wired X Y V LX LY LV g d dd met md =
    let E : El = record { row = X; laws = LX } in
    let W : El = record { row = V; laws = LV } in
    let P : Dm = record { row = Y; laws = LY; g = g; d = d; drops = dd } in
    let 𝓣 : Tables 𝓤 𝓛.H = tables_of 𝓤 𝓛.H 𝓜 (tables 𝓤 𝓛.H 𝓜 𝓡 𝓡.env) in
    entered 𝓤 𝓛.H (triple_of 𝓛 (end E P W).signature (closing 𝓛 (end E P W) (C-fn.clauses X Y V g d dd 𝓛 𝓜.mem 𝓡.returns))) 𝓣.C 𝓣.Λ (#self (args E P W)) (function E P W) (code.unfolded 𝓤 𝓛.H 𝓜 𝓡 wired (X, (Y, (V, tt))) d dd)
    (meets E P W 𝓛 𝓜.mem 𝓡.returns 𝓣)
