-- `split` cuts the loan in two, and the whole follows both. Assumes `Logic`.
use mathlib.Core.Path.{◌≡◌, refl, sym, ap, subst, ◌∙◌}
use Prim.Native.Nat.{ℕ, ◌*◌, ◌<◌, ◌^◌}
use mathlib.Core.List.{List, [], ◌∷◌, ◌++◌}
use mathlib.Core.Bool.{Bool}
use seplogic.Ra.Ura.{Ura}
use mir.Syntax.{Fn, Args, named, a_type}
use mir.MapTy.{inst_fn}
use mir.Val.{Val}
use base.Logic.{SProp, ent, sep, emp, wand, apply∗, never, id⊢}
use ghost.Rules.{thinned}
use base.Fml.{Lft, GName, Share, ftrue, flft, fobs, fbor}
use prog.Memory.{Memory}
use prog.Routine.{Routine}
use prog.Wp.{Calls, Loops, WpFn, Tables}
use types.Logic.{Logic, sem}
use contract.Monad.{fact, Fun}
use contract.Running.{tables, tables_of}
use sound.WpLaws.{WpFn-mono}
use types.Kit.{Item, ⋆, ‵, raw, ◌⊛◌, some, later, await, pick, ◌$◌, ◌∵◌, !, assume, qed, by, move, keep, drop, use0, use1, use2, split as cut_item, split3, join, group, rewrite, fsplit, fjoin, flt_l, flt_i, suffices, frame, done}
use types.Part.{agg, sub, whole}
use types.Run.{and_then, no_more, returns, enter, of_opd, fld, stop}
use types.ByLocal.{get_in}
use types.ByLocal.{alloc_all, pass_all, free_all, look_at, get, sets}
use types.SemTy.{Body as Borrowed}
use types.Mut.{open_ref}
use types.Follow.{after₂, takes_two}
use denote.Exit.{no}
use denote.RattleType.{RattleType, owns}
use denote.Memory.{mem}
use denote.RawPtr.{Ptr, block_ptr, in_a_block}
use denote.Signature.{plain}
use denote.Steps.{nothing, heard}
use denote.Follow.{follows_both, both_by}
use denote.Array.{Array}
use denote.Struct.Tuple.{Tuple}
use denote.Triple.Clauses.{Clauses, Ended, closing}
use contract.BorrowLft.{◌⊑◌}
use Rattle.core.proofs.alloc.Calls.{Goes-blank}
use denote.Triple.Entry.{on_entry}
use denote.Triple.Spec.{Meets, triple_of}
use denote.Triple.Table.{entered}
use denote.Triple.Walked.{Stays, stay_dropped, walk_of, ends_at, walk_Meets}
use lib.ListN.{length}
use Rattle.std.specs.Prelude.{Option}
use Rattle.core.proofs.mem.Param.{El, R, el_x}
use denote.Param.{layouts, param}
use denote.Ref.{ShrRef}
use denote.Builtin.{RefOf}
use denote.Exit.{yes}
use denote.Triple.Walked.{Goes-dropped}
use mir.Val.{vptr}
use types.Kit.{feq_l}
use Rattle.ndarray.specs.base.Slots.{somes, slots_in, slots_outside, weave}
use Rattle.ndarray.specs.base.Scattered.{ScatteredElements, scattered, region_owns}
use Rattle.ndarray.proofs.regions.Slots.{length-slots_in, length-slots_outside}
use Rattle.ndarray.proofs.regions.Memory.{Rg, Words, reg, shared_at_start, words_had, words_new, pair_val, two_of, says_both, cut, mend}
use Rattle.ndarray.specs.contracts.base.region.RegionRepr.split as F
use Rattle.ndarray.specs.contracts.base.region.RegionRepr.split.Key.{name as #self}
use Rattle.ndarray.proofs.base.region.RegionRepr.split.Statement as stated
use Rattle.ndarray.proofs.base.region.RegionRepr.split.Code as code

module _ (E W N : El) where
  abbrev args : Args
  args = layouts (a_type ∷ a_type ∷ a_type ∷ []) (E.row, (W.row, (N.row, tt)))

  abbrev Q : RattleType
  Q = param 2 N.row

  abbrev function : Fn
  function = inst_fn args code.function

  abbrev end : Ended
  end = F.ended E.row W.row N.row

  abbrev stayed : Stays end.signature.params end.kept
  stayed = (stay_dropped (plain (λ _. Rg (param 1 W.row) E)) no, (stay_dropped (RefOf (0 ∷ []) tt (plain (λ _. Q)) (λ _. tt)) yes, tt))

module _ (E W N : El) {M : Type 1} {𝓤 : Ura M} (𝓛 : Logic 𝓤) (at_mem : Memory → SProp 𝓤) (run : Routine → Fun 𝓤) (C : Calls 𝓤 𝓛.H) (Λ : Loops 𝓤 𝓛.H)
    (z : (walk_of 𝓛 (end E W N) (stayed E W N) (F.clauses E.row W.row N.row 𝓛 at_mem run)).Ghost) (inm : z.0.0.1.1.0 ⊑ W.row.lives) where
  open 𝓛 use {H, A}

  abbrev a : RattleType
  a = param 1 W.row

  abbrev κ : Lft
  κ = a.lives

  -- of the token of a lifetime within the region's, a token of the region's
  abbrev q : Share
  q = thinned κ z.0.1.1.1.0

  abbrev spec : Clauses 𝓤 (end E W N)
  spec = F.clauses E.row W.row N.row 𝓛 at_mem run

  abbrev tokens : Item 𝓤
  tokens = ‵ (flft z.0.0.0 z.0.1.0) ⊛ ‵ (flft z.0.0.1.0 z.0.1.1.0) ⊛ ‵ (flft z.0.0.1.1.0 z.0.1.1.1.0) ⊛ ‵ (flft z.0.0.1.1.1.0 z.0.1.1.1.1.0) ⊛ ‵ ftrue

  abbrev Tokens : SProp 𝓤
  Tokens = sep 𝓤 (A.lft z.0.0.0 z.0.1.0) (sep 𝓤 (A.lft z.0.0.1.0 z.0.1.1.0) (sep 𝓤 (A.lft z.0.0.1.1.0 z.0.1.1.1.0) (sep 𝓤 (A.lft z.0.0.1.1.1.0 z.0.1.1.1.1.0) (sem 𝓛 ftrue))))

  token : ent 𝓤 Tokens (sep 𝓤 (A.lft κ q) (wand 𝓤 (A.lft κ q) Tokens))
  token = qed 𝓛 (tokens ∷ []) ∵ cut_item ! $ move ! (1 ∷ []) $ cut_item ! $ move ! (1 ∷ []) $ cut_item ! $
      use1 𝓛 (‵ (flft κ q) ⊛ raw (wand 𝓤 (A.lft κ q) (A.lft z.0.0.1.1.0 z.0.1.1.1.0))) (𝓛.lfts.lft-incl z.0.0.1.1.0 κ z.0.1.1.1.0 inm) $ cut_item ! $ frame ! $ assume ! (‵ (flft κ q)) $
      use2 𝓛 (‵ (flft z.0.0.1.1.0 z.0.1.1.1.0)) (apply∗ 𝓤 (A.lft κ q) (A.lft z.0.0.1.1.0 z.0.1.1.1.0)) $ move ! (3 ∷ 2 ∷ 0 ∷ 1 ∷ []) $ done !

  abbrev d : (Rg a E).Denot
  d = z.0.3.0

  abbrev rb : ℕ
  rb = z.0.3.1.0.ref_ptr.0

  abbrev ro : ℕ
  ro = z.0.3.1.0.ref_ptr.1

  abbrev m : List Bool
  m = z.1

  abbrev cs : List (Option (el_x E))
  cs = d.slots

  abbrev γ : GName
  γ = d.name

  abbrev At : List Val × List Val → (walk_of 𝓛 (end E W N) (stayed E W N) spec).Ghost
  At us = ((z.0.0, z.0.1, z.0.2, z.0.3, (us.0, (us.1, tt))), z.1)

  abbrev Post : List Val × List Val → Val → SProp 𝓤
  Post us = (walk_of 𝓛 (end E W N) (stayed E W N) spec).post (At us)

  abbrev Two : RattleType
  Two = Tuple (Rg a E ∷ Rg a E ∷ [])

  abbrev part : List (Option (el_x E)) → GName → (Rg a E).Denot
  part ds δ = record { shared = shared_at_start E d.shared.ptr; marker = record {}; name = δ; reborrow_name = d.reborrow_name; slots = ds }

  module _ (b o : ℕ) (e : d.shared.ptr ≡ block_ptr b o) where
    abbrev me : Val
    me = reg (block_ptr b o)

    abbrev vals : List Val × List Val
    vals = (me ∷ [], vptr rb ro ∷ [])

    abbrev pair : Val
    pair = pair_val me me

    exits : (γs : GName × GName)
        → ent 𝓤 (⋆ 𝓛 (‵ (Two.own_val (part (slots_in m cs) γs.0, part (slots_outside m cs) γs.1) (pair ∷ [])) ∷ ‵ (follows_both (Array (R E) 0) (Array (R E) 0) (Array (R E) 0) γ γs.0 γs.1 (weave m cs)) ∷ tokens ∷ [])) (Post vals pair)
    exits γs =
        let both : Two.Denot = (part (slots_in m cs) γs.0, part (slots_outside m cs) γs.1) in
        qed 𝓛 (‵ (Two.own_val both (pair ∷ [])) ∷ ‵ (follows_both (Array (R E) 0) (Array (R E) 0) (Array (R E) 0) γ γs.0 γs.1 (weave m cs)) ∷ tokens ∷ []) ∵
        suffices ! _ (ends_at 𝓛 (end E W N) (stayed E W N) spec (At vals) pair both ((tt, tt), (tt, tt)) (tt, (tt, tt))) $
        nothing ! $ nothing ! $ fjoin ! $ nothing ! $ fjoin ! $ join ! $ move ! (2 ∷ []) $ join ! $ frame ! $ says_both ! refl refl $ done !

    -- one part, from its loan
    made : (ds : List (Option (el_x E))) (δ : GName) → length ds * (mem (R E)).size < 2 ^ 63
        → ent 𝓤 (sep 𝓤 (A.obs δ ((ScatteredElements (R E) ds).coded.code (somes ds))) (A.bor κ (Borrowed (ScatteredElements (R E) ds) b o δ))) (sem 𝓛 ((Rg a E).own_val (part ds δ) (me ∷ [])))
    made ds δ small = qed 𝓛 (‵ (fobs δ ((ScatteredElements (R E) ds).coded.code (somes ds))) ∷ ‵ (fbor κ (Borrowed (ScatteredElements (R E) ds) b o δ)) ∷ []) ∵ fjoin ! $
        flt_i ! (length ds * (mem (R E)).size) (2 ^ 63) small $ fjoin ! $ rewrite ! 0 (λ (p : Ptr). ‵ (region_owns κ (R E) p δ ds)) (sym e) refl $
        use0 𝓛 (‵ ((Words a E).own_val (shared_at_start E (block_ptr b o), (tt, tt)) (me ∷ []))) (words_new a E 𝓛 b o) $ rewrite ! 0 (λ (p : Ptr). ‵ ((Words a E).own_val (shared_at_start E p, (tt, tt)) (me ∷ []))) (sym e) refl $ fjoin ! $ done !

    abbrev Had : List (Item 𝓤)
    Had = ‵ (region_owns κ (R E) (block_ptr b o) γ cs) ∷ tokens ∷ []

    walk : ent 𝓤 (⋆ 𝓛 Had) (WpFn 𝓤 H C Λ (function E W N) (me ∷ vptr rb ro ∷ []) (Post vals))
    unfolding both_by
    walk =
        let left = slots_in m cs in let right = slots_outside m cs in
        qed 𝓛 Had ∵ enter ! C Λ (function E W N) (me ∷ vptr rb ro ∷ []) _ $ alloc_all ! (λ l. pass_all ! refl ((tt, ((tt, (tt, tt)), (tt, tt))), ((tt, tt), tt)) $
        fsplit ! $ flt_l ! (λ small. fsplit ! $ move ! (2 ∷ []) $ use1 𝓛 (‵ (flft κ q) ⊛ raw (wand 𝓤 (A.lft κ q) Tokens)) token $ cut_item ! $ move ! (2 ∷ 3 ∷ 0 ∷ []) $
        let s = (mem (R E)).size in let code = (ScatteredElements (R E) cs).coded.code (somes cs) in
        open_ref ! tt (ScatteredElements (R E) cs) {x = somes cs} {b = b} {o = o} $
        use1 𝓛 (‵ (scattered (R E) b o left (somes left)) ⊛ ‵ (scattered (R E) b o right (somes right))) (cut E 𝓛 b m cs o) $ cut_item ! $
        nothing ! $ move ! (3 ∷ 4 ∷ 5 ∷ 1 ∷ 2 ∷ 0 ∷ []) $ group ! 6 $
        use1 𝓛 (later (some (λ (γs : GName × GName). (‵ (fobs γs.0 ((ScatteredElements (R E) left).coded.code (somes left))) ⊛ ‵ (fbor κ (Borrowed (ScatteredElements (R E) left) b o γs.0))) ⊛ (‵ (fobs γs.1 ((ScatteredElements (R E) right).coded.code (somes right))) ⊛ ‵ (fbor κ (Borrowed (ScatteredElements (R E) right) b o γs.1)))
        ⊛ ‵ (flft κ q) ⊛ ‵ (after₂ (ScatteredElements (R E) cs) (ScatteredElements (R E) left) (ScatteredElements (R E) right) γ γs.0 γs.1 (weave m cs)))))
        (takes_two 𝓛 (ScatteredElements (R E) cs) (ScatteredElements (R E) left) (ScatteredElements (R E) right) (weave m cs) κ q b o b o b o γ (emp 𝓤) back code code (somes left) (somes right)) $ await ! tt $ pick ! (λ γs. split3 ! $
        use1 𝓛 (‵ ((Rg a E).own_val (part left γs.0) (me ∷ []))) (made left γs.0 (subst (λ k. k * s < 2 ^ 63) (sym (length-slots_in m cs)) small)) $ move ! (1 ∷ []) $
        use1 𝓛 (‵ ((Rg a E).own_val (part right γs.1) (me ∷ []))) (made right γs.1 (subst (λ k. k * s < 2 ^ 63) (sym (length-slots_outside m cs)) small)) $ move ! (1 ∷ 0 ∷ []) $
        use2 𝓛 (‵ (Two.own_val (part left γs.0, part right γs.1) (pair ∷ []))) (two_of 𝓛 (Rg a E) (Rg a E) (part left γs.0) (part right γs.1) me me) $ move ! (1 ∷ []) $ cut_item ! $ move ! (0 ∷ 3 ∷ []) $ use2 𝓛 tokens (apply∗ 𝓤 (A.lft κ q) Tokens) $
        sets ! (of_opd ! (get_in ! (fld ! refl (fld ! refl (stop !))) (sub ! 0 refl (sub ! 0 refl (whole !))))) refl (tt, tt) $
        sets ! (agg ! (no_more !)) refl (tt, tt) $ sets ! (agg ! (and_then ! (get ! refl) (and_then ! (get ! refl) (no_more !)))) refl (tt, (tt, (tt, tt))) $
        sets ! (agg ! (no_more !)) refl (tt, tt) $ sets ! (agg ! (and_then ! (get ! refl) (and_then ! (get ! refl) (no_more !)))) refl (tt, ((tt, (tt, tt)), (tt, tt))) $
        sets ! (agg ! (no_more !)) refl (tt, tt) $ sets ! (agg ! (and_then ! (get ! refl) (and_then ! (get ! refl) (no_more !)))) refl (tt, (tt, (tt, tt))) $
        sets ! (agg ! (no_more !)) refl (tt, tt) $ sets ! (agg ! (and_then ! (get ! refl) (and_then ! (get ! refl) (no_more !)))) refl (tt, ((tt, (tt, tt)), (tt, tt))) $
        sets ! (agg ! (and_then ! (get ! refl) (and_then ! (get ! refl) (no_more !)))) refl (tt, (((tt, (tt, tt)), (tt, tt)), (((tt, (tt, tt)), (tt, tt)), tt))) $
        returns ! (look_at ! 0 refl) $ free_all ! refl $ keep ! (2 ∷ 1 ∷ 0 ∷ []) $ by ! (exits γs))))
      where
        back : (xs ys : List (el_x E)) → ent 𝓤 (sep 𝓤 (sem 𝓛 (scattered (R E) b o (slots_in m cs) xs)) (sep 𝓤 (sem 𝓛 (scattered (R E) b o (slots_outside m cs) ys)) (emp 𝓤))) (sem 𝓛 (scattered (R E) b o cs (weave m cs xs ys)))
        back xs ys = qed 𝓛 (‵ (scattered (R E) b o (slots_in m cs) xs) ∷ ‵ (scattered (R E) b o (slots_outside m cs) ys) ∷ raw (emp 𝓤) ∷ []) ∵
            use2 𝓛 (‵ (scattered (R E) b o cs (weave m cs xs ys))) (mend E 𝓛 b m cs xs ys o) $ keep ! (0 ∷ []) $ done !

  entry : (us : List Val × List Val) → ent 𝓤 (on_entry 𝓛 (end E W N).signature z.0.0 z.0.1 z.0.3 (us.0, (us.1, tt))) (WpFn 𝓤 H C Λ (function E W N) (us.0 ++ (us.1 ++ [])) (Post us))
  entry us =
      qed 𝓛 (tokens ∷ ‵ (owns (Rg a E ∷ ShrRef (named 0) z.0.0.0 (Q E W N) ∷ []) z.0.3 (us.0, (us.1, tt))) ∷ []) ∵
      move ! (1 ∷ []) $ fsplit ! $ fsplit ! $ words_had ! a E d.shared us.0 (λ e0. drop ! $ in_a_block ! d.shared.ptr (λ p. region_owns κ (R E) p γ cs) (id⊢ 𝓤 (never 𝓤)) (λ b o e.
      move ! (1 ∷ []) $ fsplit ! $ fsplit ! $ feq_l ! (λ e1. keep ! (2 ∷ 3 ∷ []) $
      by ! (subst (λ (ws : List Val × List Val). ent 𝓤 (⋆ 𝓛 (Had b o e)) (WpFn 𝓤 H C Λ (function E W N) (ws.0 ++ (ws.1 ++ [])) (Post ws))) (λ j. (sym (e0 ∙ ap (λ (p : Ptr). reg p ∷ []) e) j, sym e1 j)) (walk b o e)))))

meets : (E W N : El) {M : Type 1} {𝓤 : Ura M} (𝓛 : Logic 𝓤) (at_mem : Memory → SProp 𝓤) (run : Routine → Fun 𝓤) (𝓣 : Tables 𝓤 𝓛.H)
    → Meets 𝓛 (end E W N).signature (WpFn 𝓤 𝓛.H 𝓣.C 𝓣.Λ (function E W N)) (closing 𝓛 (end E W N) (F.clauses E.row W.row N.row 𝓛 at_mem run))
meets E W N {𝓤 = 𝓤} 𝓛 at_mem run 𝓣 =
    walk_Meets 𝓛 (end E W N) (stayed E W N) (Goes-blank 𝓛 4 (plain (λ _. Rg (param 1 W.row) E)) no (λ κs x f. tt), (Goes-dropped 𝓛 4 (RefOf (0 ∷ []) tt (plain (λ _. Q E W N)) (λ _. tt)) yes (λ κs x f. refl), tt))
    (F.clauses E.row W.row N.row 𝓛 at_mem run) (WpFn 𝓤 𝓛.H 𝓣.C 𝓣.Λ (function E W N)) (WpFn-mono 𝓤 𝓛.H 𝓛.laws 𝓣 (function E W N))
    (λ z. let κs = z.0.0 in
    qed 𝓛 (raw (on_entry 𝓛 (end E W N).signature z.0.0 z.0.1 z.0.3 z.0.4) ∷ (raw (fact 𝓤 (κs.1.0 ⊑ E.row.lives)) ⊛ raw (fact 𝓤 (κs.1.1.0 ⊑ W.row.lives)) ⊛ raw (fact 𝓤 (κs.1.1.1.0 ⊑ N.row.lives)) ⊛ ‵ ftrue) ∷ []) ∵
    move ! (1 ∷ []) $ split3 ! $ drop ! $ heard ! (κs.1.1.0 ⊑ W.row.lives) (λ inm. drop ! $
    by ! (entry E W N 𝓛 at_mem run 𝓣.C 𝓣.Λ z inm (z.0.4.0, z.0.4.1.0))))

pub split_spec : {M : Type 1} → stated.statement M
unfolding tables_of
split_spec 𝓤 𝓛 𝓜 𝓡 wired X V Y LX LV LY =
    let E : El = record { row = X; laws = LX } in
    let W : El = record { row = V; laws = LV } in
    let N : El = record { row = Y; laws = LY } in
    let 𝓣 : Tables 𝓤 𝓛.H = tables_of 𝓤 𝓛.H 𝓜 (tables 𝓤 𝓛.H 𝓜 𝓡 𝓡.env) in
    entered 𝓤 𝓛.H (triple_of 𝓛 (end E W N).signature (F.spec X V Y 𝓛 𝓜.mem 𝓡.returns)) 𝓣.C 𝓣.Λ (#self (args E W N)) (function E W N) (code.unfolded 𝓤 𝓛.H 𝓜 𝓡 wired (X, (V, (Y, tt))))
    (meets E W N 𝓛 𝓜.mem 𝓡.returns 𝓣)
