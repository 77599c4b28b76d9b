-- `of` takes the slice's loan as one of its places. Assumes `Logic`.
use mathlib.Core.Path.{◌≡◌, refl, sym, subst}
use Prim.Native.Nat.{ℕ, ◌*◌, ◌<◌, ◌^◌}
use mathlib.Core.List.{List, [], ◌∷◌, ◌++◌, map}
use seplogic.Ra.Ura.{Ura}
use mir.Syntax.{Fn, named}
use mir.MapTy.{inst_fn}
use mir.Val.{Val}
use base.Logic.{SProp, ent, sep, emp, via, fst∗}
use base.Stored.{coded_list}
use base.Fml.{Lft, GName, Share, ftrue, flft, fobs, fbor}
use prog.Memory.{Memory}
use prog.Routine.{Routine}
use prog.Wp.{Calls, Loops, WpFn, Tables}
use types.Logic.{Logic, sem}
use contract.Monad.{Fun}
use contract.Running.{tables, tables_of}
use sound.WpLaws.{WpFn-mono}
use types.Kit.{Item, ⋆, ‵, ◌⊛◌, some, later, await, pick, ◌$◌, ◌∵◌, !, qed, by, move, keep, drop, use0, use1, split as cut_item, split3, join, group, rewrite, fsplit, fsplit3, fjoin, feq_l, flt_i, suffices, frame, done}
use types.Part.{agg, whole, sub}
use types.Run.{addr, from, fld, hop, stop, and_then, no_more, returns, enter}
use types.ByLocal.{alloc_all, pass_all, free_all, look_at, look_in_at, get, sets}
use types.SemTy.{Body as Borrowed, Arr}
use types.Mut.{open_ref}
use types.Follow.{after, takes_part}
use denote.Exit.{no}
use denote.RattleType.{RattleType, owns}
use denote.Memory.{mem}
use denote.RawPtr.{block_ptr}
use denote.Ref.{MutBor}
use denote.Slice.{MutSlice, Room, room, slice_val}
use denote.Signature.{plain, mut_slice_of}
use denote.Shadow.{pure_l}
use denote.Steps.{nothing}
use denote.Follow.{follows}
use denote.FollowSlice.{heres_id}
use denote.Array.{Array}
use denote.Triple.Clauses.{Clauses, closing}
use denote.Triple.Entry.{on_entry}
use denote.Triple.Spec.{Meets, triple_of}
use denote.Triple.Table.{entered}
use denote.Triple.Walked.{says, Stays, stay_dropped, walk_of, ends_at, Goes-spent_slice, walk_Meets}
use lib.ListN.{length, length-map}
use Rattle.std.specs.Prelude.{Option, Some}
use Rattle.core.proofs.mem.Param.{El, R, args, el_x}
use contract.BorrowLft.{◌⊑◌}
use Rattle.ndarray.specs.base.Scattered.{ScatteredElements, scattered, region_owns}
use Rattle.ndarray.proofs.regions.Slots.{somes_all}
use Rattle.ndarray.proofs.regions.Memory.{lives_as, Rg, Words, reg, shared_at_start, words_new, of_cells, to_cells}
use Rattle.ndarray.specs.contracts.base.region.Life as Life-type
use Rattle.ndarray.specs.contracts.base.region.RegionRepr+Life+A.of as F
use Rattle.ndarray.specs.contracts.base.region.RegionRepr+Life+A.of.Key.{name as #self}
use Rattle.ndarray.proofs.base.region.RegionRepr+Life+A.of.Statement as stated
use Rattle.ndarray.proofs.base.region.RegionRepr+Life+A.of.Code as code

module _ (E : El) where
  abbrev function : Fn
  function = inst_fn (args E) code.function

  abbrev stayed : Stays (F.ended E.row).signature.params (F.ended E.row).kept
  stayed = (stay_dropped (mut_slice_of (0 ∷ []) tt (plain (λ _. R E))) no, tt)

module _ (E : El) {M : Type 1} {𝓤 : Ura M} (𝓛 : Logic 𝓤) (at_mem : Memory → SProp 𝓤) (run : Routine → Fun 𝓤) (C : Calls 𝓤 𝓛.H) (Λ : Loops 𝓤 𝓛.H) (κ κ₁ : Lft) (q q₁ : Share) (within : κ ⊑ κ₁)
    (b o : ℕ) (γ : GName) (xs : List (el_x E)) (us0 : List Val) where
  open 𝓛 use {H, A}

  -- the lifetime as a type
  abbrev a : RattleType
  a = Life-type.the_row (record { mir = named 0; lft = κ })

  life : κ ≡ a.lives
  life = lives_as κ

  abbrev spec : Clauses 𝓤 (F.ended E.row)
  spec = F.clauses E.row 𝓛 at_mem run

  abbrev other : Item 𝓤
  other = ‵ (flft κ₁ q₁) ⊛ ‵ ftrue

  abbrev self : MutBor (List (el_x E))
  self = record { ref_ptr = (b, o); ghost_name = γ; now = xs }

  abbrev bound : (walk_of 𝓛 (F.ended E.row) (stayed E) spec).Ghost
  bound = (((κ, (κ₁, tt)), (q, (q₁, tt)), (within, tt), (self, tt), (us0, tt)), tt)

  abbrev Post : Val → SProp 𝓤
  Post = (walk_of 𝓛 (F.ended E.row) (stayed E) spec).post bound

  abbrev all : List (Option (el_x E))
  all = map Some xs

  abbrev n : ℕ
  n = length xs

  abbrev part : GName → (Rg a E).Denot
  part δ = record { shared = shared_at_start E (block_ptr b o); marker = record {}; name = δ; reborrow_name = δ; slots = all }

  abbrev out : Val
  out = reg (block_ptr b o)

  exits : (δ : GName)
      → ent 𝓤 (sep 𝓤 (sem 𝓛 ((Rg a E).own_val (part δ) (out ∷ []))) (sep 𝓤 (A.lft κ q) (sep 𝓤 (sem 𝓛 (follows (Array (R E) 0) (Array (R E) 0) γ δ (λ ws. ws))) (sep 𝓤 (A.lft κ₁ q₁) (sem 𝓛 ftrue))))) (Post out)
  exits δ =
      qed 𝓛 (‵ ((Rg a E).own_val (part δ) (out ∷ [])) ∷ ‵ (flft κ q) ∷ ‵ (follows (Array (R E) 0) (Array (R E) 0) γ δ (λ ws. ws)) ∷ other ∷ []) ∵
      suffices ! _ (ends_at 𝓛 (F.ended E.row) (stayed E) spec bound out (part δ) (tt, tt) (tt, tt)) $
      nothing ! $ nothing ! $ fjoin ! $ join ! $ move ! (1 ∷ 3 ∷ []) $ join ! $ join ! $ frame ! $ says ! refl $ done !

  abbrev Had : List (Item 𝓤)
  Had = ‵ (fobs γ ((coded_list (R E).coded).code xs)) ∷ ‵ (fbor κ (Borrowed (Arr (mem (R E)) n) b o γ)) ∷ ‵ (flft κ q) ∷ other ∷ []

  walk : Room (R E) n → ent 𝓤 (⋆ 𝓛 Had) (WpFn 𝓤 H C Λ (function E) (slice_val (b, o) n ∷ []) Post)
  walk rm =
      let code = (coded_list (R E).coded).code xs in let s = (mem (R E)).size in
      qed 𝓛 Had ∵ enter ! C Λ (function E) (slice_val (b, o) n ∷ []) _ $ alloc_all ! (λ l. pass_all ! refl ((tt, (tt, (record { fits = rm.0 }, tt))), tt) $
      open_ref ! tt (Arr (mem (R E)) n) {x = xs} {b = b} {o = o} $ fsplit ! $ drop ! $
      use1 𝓛 (‵ (scattered (R E) b o all xs)) (of_cells E 𝓛 b xs o) $ nothing ! $ move ! (2 ∷ 3 ∷ 4 ∷ 1 ∷ 0 ∷ []) $ group ! 5 $
      use1 𝓛 (later (some (λ (δ : GName). ‵ (fobs δ ((coded_list (R E).coded).code xs)) ⊛ ‵ (fbor κ (Borrowed (ScatteredElements (R E) all) b o δ)) ⊛ ‵ (flft κ q) ⊛ ‵ (after (Arr (mem (R E)) n) (ScatteredElements (R E) all) γ δ (λ ws. ws)))))
      (takes_part 𝓛 (Arr (mem (R E)) n) (ScatteredElements (R E) all) (λ ws. ws) κ q b o b o γ (emp 𝓤) back code code xs) $ await ! tt $ pick ! (λ δ. split3 ! $
      rewrite ! 0 (λ (zs : List (el_x E)). ‵ (fobs δ ((coded_list (R E).coded).code zs))) (sym (somes_all xs)) refl $ fjoin ! $
      flt_i ! (length all * s) (2 ^ 63) (subst (λ k. k * s < 2 ^ 63) (sym (length-map xs Some)) rm.1) $ fjoin ! $
      rewrite ! 0 (λ (k : Lft). ‵ (region_owns k (R E) (block_ptr b o) δ all)) life refl $
      use0 𝓛 (‵ ((Words a E).own_val (shared_at_start E (block_ptr b o), (tt, tt)) (out ∷ []))) (words_new a E 𝓛 b o) $ fjoin ! $ move ! (1 ∷ []) $ cut_item ! $
      sets ! (addr ! (from ! (fld ! refl (hop ! (look_in_at ! 1 (sub ! 0 refl (whole !))) (stop !))))) refl (tt, tt) $
      sets ! (agg ! (no_more !)) refl (tt, tt) $ sets ! (agg ! (and_then ! (get ! refl) (and_then ! (get ! refl) (no_more !)))) refl (tt, (tt, (tt, tt))) $
      sets ! (agg ! (no_more !)) refl (tt, tt) $ sets ! (agg ! (and_then ! (get ! refl) (and_then ! (get ! refl) (no_more !)))) refl (tt, ((tt, (tt, tt)), (tt, tt))) $
      returns ! (look_at ! 0 refl) $ free_all ! refl $ keep ! (2 ∷ 0 ∷ 1 ∷ 3 ∷ []) $ by ! (exits δ)))
    where
      back : (ws : List (el_x E)) → ent 𝓤 (sep 𝓤 (sem 𝓛 (scattered (R E) b o all ws)) (emp 𝓤)) (sem 𝓛 ((Arr (mem (R E)) n).own_at ws b o))
      back ws = via 𝓤 _ (fst∗ 𝓤 (sem 𝓛 (scattered (R E) b o all ws)) (emp 𝓤)) (to_cells E 𝓛 b xs ws o)

  entry : ent 𝓤 (on_entry 𝓛 (F.ended E.row).signature (κ, (κ₁, tt)) (q, (q₁, tt)) (self, tt) (us0, tt)) (WpFn 𝓤 H C Λ (function E) (us0 ++ []) Post)
  entry =
      qed 𝓛 ((‵ (flft κ q) ⊛ other) ∷ ‵ (owns (MutSlice (named 0) κ (R E) ∷ []) (self, tt) (us0, tt)) ∷ []) ∵
      cut_item ! $ move ! (2 ∷ []) $ fsplit ! $ fsplit3 ! $ fsplit ! $ feq_l ! (λ e0. pure_l ! (room (R E) n) (λ rm.
      rewrite ! 0 (λ (zs : List (el_x E)). ‵ (fobs γ ((coded_list (R E).coded).code zs))) (heres_id (R E) xs) refl $
      keep ! (0 ∷ 1 ∷ 3 ∷ 4 ∷ []) $
      by ! (subst (λ (ws : List Val). ent 𝓤 (⋆ 𝓛 Had) (WpFn 𝓤 H C Λ (function E) (ws ++ []) Post)) (sym e0) (walk rm))))

meets : (E : El) {M : Type 1} {𝓤 : Ura M} (𝓛 : Logic 𝓤) (at_mem : Memory → SProp 𝓤) (run : Routine → Fun 𝓤) (𝓣 : Tables 𝓤 𝓛.H)
    → Meets 𝓛 (F.ended E.row).signature (WpFn 𝓤 𝓛.H 𝓣.C 𝓣.Λ (function E)) (closing 𝓛 (F.ended E.row) (F.clauses E.row 𝓛 at_mem run))
meets E {𝓤 = 𝓤} 𝓛 at_mem run 𝓣 =
    walk_Meets 𝓛 (F.ended E.row) (stayed E) (Goes-spent_slice 𝓛 2 (0 ∷ []) tt (plain (λ _. R E)), tt)
    (F.clauses E.row 𝓛 at_mem run) (WpFn 𝓤 𝓛.H 𝓣.C 𝓣.Λ (function E)) (WpFn-mono 𝓤 𝓛.H 𝓛.laws 𝓣 (function E))
    (λ z. let κs = z.0.0 in let qs = z.0.1 in let a = z.0.3 in let vss = z.0.4 in
    via 𝓤 _ (fst∗ 𝓤 (on_entry 𝓛 (F.ended E.row).signature κs qs a vss) ((F.clauses E.row 𝓛 at_mem run κs a).requires z.1))
    (entry E 𝓛 at_mem run 𝓣.C 𝓣.Λ κs.0 κs.1.0 qs.0 qs.1.0 z.0.2.0 a.0.ref_ptr.0 a.0.ref_ptr.1 a.0.ghost_name a.0.now vss.0))

pub of_spec : {M : Type 1} → stated.statement M
unfolding tables_of
of_spec 𝓤 𝓛 𝓜 𝓡 wired X LX =
    let E : El = record { row = X; laws = LX } in
    let 𝓣 : Tables 𝓤 𝓛.H = tables_of 𝓤 𝓛.H 𝓜 (tables 𝓤 𝓛.H 𝓜 𝓡 𝓡.env) in
    entered 𝓤 𝓛.H (triple_of 𝓛 (F.ended X).signature (F.spec X 𝓛 𝓜.mem 𝓡.returns)) 𝓣.C 𝓣.Λ (#self (args E)) (function E) (code.unfolded 𝓤 𝓛.H 𝓜 𝓡 wired (X, tt))
    (meets E 𝓛 𝓜.mem 𝓡.returns 𝓣)
