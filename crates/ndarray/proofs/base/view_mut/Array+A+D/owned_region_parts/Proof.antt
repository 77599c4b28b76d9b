-- `owned_region_parts` has the elements from `parts_mut`, and names their loan by the array that they make. Assumes `Logic`.
use mathlib.Core.Path.{◌≡◌, refl, sym, ap, subst, ◌∙◌}
use Prim.Native.Nat.{ℕ}
use mathlib.Core.List.{List, [], ◌∷◌, ◌++◌, map}
use lib.ListN.{length}
use seplogic.Ra.Ura.{Ura}
use mir.Syntax.{Fn, Args, Dict, named, a_type, dnil, dcons}
use mir.MapTy.{inst_fn}
use mir.Val.{Val, vptr}
use base.Logic.{SProp, ent, sep, emp, id⊢, fst∗}
use base.Stored.{coded_list}
use base.Fml.{GName, ftrue, flft, fobs, fbor}
use prog.Memory.{Memory}
use prog.Routine.{Routine}
use prog.Wp.{WpFn, Tables}
use types.Logic.{Logic, sem}
use contract.Monad.{fact, fact_i, Fun}
use contract.BorrowLft.{◌⊑◌}
use contract.Running.{tables, tables_of}
use sound.WpLaws.{fm_of, WpFn-mono}
use types.Kit.{Item, ⋆, ‵, raw, ◌⊛◌, some, later, await, pick, ◌$◌, ◌∵◌, !, qed, by, move, keep, drop, use0, use1, use2, split as cut_item, split3, join, group, rewrite, fsplit, fsplit3, fjoin, fjoin3, fpack, fpick, feq_l, feq_i, suffices, frame, done}
use types.Run.{addr, stop, and_then, no_more, returns, enter}
use types.ByLocal.{through, alloc_all, pass_all, free_all, look_at, get, sets, lands_as}
use types.SemTy.{SemTy, Body as Borrowed, Arr}
use types.Mut.{open_ref}
use types.Follow.{after, takes_part}
use denote.Array.{Array}
use denote.Exit.{no}
use denote.RattleType.{RattleType, owns}
use denote.Laws.{Is, shows}
use denote.Memory.{mem}
use denote.Ref.{MutBor, MutRef}
use denote.Slice.{MutSlice, room, slice_val}
use denote.FollowSlice.{heres_id, slice_of}
use denote.Param.{bounded, param}
use denote.Param.Laws.{param_laws}
use denote.Shadow.{pure_l}
use denote.Signature.{plain, mut_ref_to}
use denote.Steps.{nothing, heard, peeks}
use denote.Struct.Struct.{within}
use denote.Struct.Declared.{shape}
use denote.Follow.{follows, follows_then}
use denote.Triple.Call.{calls_at}
use denote.Triple.Clauses.{Clauses, Ended, Lasts, lasts, closing}
use denote.Triple.Entry.{on_entry}
use denote.Triple.Spec.{Meets, triple_of}
use denote.Triple.Statement.{Triple, Contract}
use denote.Triple.Table.{entered}
use denote.Triple.Walked.{Stays, stay_dropped, walk_of, ends_at, Goes-spent_ref, walk_Meets}
use Rattle.core.proofs.mem.Param.{El, R, el_x}
use Rattle.std.specs.Prelude.{⊤, Some, slice_get}
use Rattle.ndarray.specs.Grid.{Grid, grid}
use Rattle.ndarray.specs.Writes.{refit}
use Rattle.ndarray.specs.base.Parts.{cells_from}
use Rattle.ndarray.specs.base.Places.{grid_at, places_at, Reaches}
use Rattle.ndarray.specs.base.Slots.{held_at}
use Rattle.ndarray.specs.declared.base.layout.Layout.{Layout}
use Rattle.ndarray.specs.contracts.base.array.ArrayBase as A-type
use Rattle.ndarray.specs.contracts.base.storage.OwnedRepr as O-type
use Rattle.ndarray.specs.contracts.base.storage.OwnedReprData.TheImpl as impl
use Rattle.ndarray.specs.contracts.base.view_mut.Parts as P-type
use Rattle.ndarray.specs.contracts.base.view_mut.RegionParts as L-type
use Rattle.ndarray.proofs.base.view_mut.Parts.TheLaws as P-laws
use Rattle.ndarray.proofs.base.view_mut.RegionParts.TheLaws as L-laws
use Rattle.ndarray.proofs.regions.Shown.{Shown, shown_as}
use Rattle.ndarray.proofs.regions.Memory.{says_both}
use Rattle.ndarray.proofs.regions.OwnedLoans.{told, tells, told-again, cells-told_at}
use Rattle.ndarray.proofs.regions.ReborrowedViews.{Dm}
use Rattle.ndarray.proofs.regions.Slots.{held-slice}
use Rattle.ndarray.proofs.strides.Reach.{grid_at-same, Reaches-same}
use Rattle.ndarray.specs.contracts.base.view_mut.Array+A+D.parts_mut as F₁
use Rattle.ndarray.specs.contracts.base.view_mut.Array+A+D.parts_mut.Key.{name as #parts_mut}
use Rattle.ndarray.proofs.base.view_mut.Array+A+D.parts_mut.Met as met₁
use Rattle.ndarray.specs.contracts.base.view_mut.Parts.into_region_parts as F₂
use Rattle.ndarray.specs.contracts.base.view_mut.Parts.into_region_parts.Key.{name as #into_region_parts}
use Rattle.ndarray.proofs.base.view_mut.Parts.into_region_parts.Met as met₂
use Rattle.ndarray.specs.contracts.base.view_mut.Array+A+D.owned_region_parts as F
use Rattle.ndarray.specs.contracts.base.view_mut.Array+A+D.owned_region_parts.Key.{name as #self}
use Rattle.ndarray.proofs.base.view_mut.Array+A+D.owned_region_parts.Statement as stated
use Rattle.ndarray.proofs.base.view_mut.Array+A+D.owned_region_parts.Code as code

module _ (E : El) (P : Dm) (dA : Dict) where
  abbrev args : Args
  args = bounded (a_type ∷ a_type ∷ []) (E.row, (P.row, tt)) (dcons P.d (dcons dA (dcons P.drops dnil)))

  abbrev args₂ : Args
  args₂ = bounded (a_type ∷ a_type ∷ []) (E.row, (P.row, tt)) (dcons P.d (dcons P.drops dnil))

  abbrev function : Fn
  function = inst_fn args code.function

  abbrev end : Ended
  end = F.ended E.row P.row P.g P.d dA P.drops

  abbrev end₁ : Ended
  end₁ = F₁.ended E.row P.row P.g P.d dA P.drops

  abbrev end₂ : Ended
  end₂ = F₂.ended E.row P.row P.g P.d P.drops

  abbrev Q : RattleType
  Q = param 1 P.row

  abbrev Ar : RattleType
  Ar = A-type.the_row (O-type.the_row (R E)) Q (R E) (impl.ghosts (R E) impl.no_dict) P.g

  abbrev stayed : Stays end.signature.params end.kept
  stayed = (stay_dropped (mut_ref_to (0 ∷ []) tt (plain (λ _. Ar))) no, tt)

module _ (E : El) (P : Dm) (dA : Dict) {M : Type 1} {𝓤 : Ura M} (𝓛 : Logic 𝓤) (at_mem : Memory → SProp 𝓤) (run : Routine → Fun 𝓤) (𝓣 : Tables 𝓤 𝓛.H) where
  open 𝓛 use {H, A}

  abbrev spec : Clauses 𝓤 (end E P dA)
  spec = F.clauses E.row P.row P.g P.d dA P.drops 𝓛 at_mem run

  abbrev G₁ : Contract 𝓤
  G₁ = triple_of 𝓛 (end₁ E P dA).signature (F₁.spec E.row P.row P.g P.d dA P.drops 𝓛 at_mem run)

  abbrev G₂ : Contract 𝓤
  G₂ = triple_of 𝓛 (end₂ E P dA).signature (F₂.spec E.row P.row P.g P.d P.drops 𝓛 at_mem run)

  module _ (go₁ : Triple 𝓤 (𝓣.C (#parts_mut (args E P dA))) G₁) (go₂ : Triple 𝓤 (𝓣.C (#into_region_parts (args₂ E P dA))) G₂)
      (z : (walk_of 𝓛 (end E P dA) (stayed E P dA) spec).Ghost) (inA : z.0.0.1.0 ⊑ E.row.lives) (inD : z.0.0.1.1.0 ⊑ P.row.lives) where
    abbrev given : Shown (Grid (el_x E))
    given = shown_as z.0.0.0 z.0.1.0 z.0.3.0.ref_ptr z.0.3.0.now

    open given use {κ, q, rb, ro, d}

    abbrev γ : GName
    γ = z.0.3.0.ghost_name

    abbrev other : Item 𝓤
    other = ‵ (flft z.0.0.1.0 z.0.1.1.0) ⊛ ‵ (flft z.0.0.1.1.0 z.0.1.1.1.0) ⊛ ‵ ftrue

    abbrev At : List Val → (walk_of 𝓛 (end E P dA) (stayed E P dA) spec).Ghost
    At us = ((z.0.0, z.0.1, z.0.2, z.0.3, (us, tt)), z.1)

    abbrev Post : List Val → Val → SProp 𝓤
    Post us = (walk_of 𝓛 (end E P dA) (stayed E P dA) spec).post (At us)

    abbrev Pr : RattleType
    Pr = P-type.the_row (record { mir = named 0; lft = κ }) (R E) (Q E P dA)

    abbrev Ln : RattleType
    Ln = L-type.the_row (record { mir = named 0; lft = κ }) (R E) (Q E P dA)

    abbrev Had : List (Item 𝓤)
    Had = ‵ (fobs γ ((Ar E P dA).coded.code d)) ∷ ‵ (fbor κ (Borrowed (mem (Ar E P dA)) rb ro γ)) ∷ ‵ (flft κ q) ∷ other ∷ []

    module _ (p : Pr.Denot) where
      abbrev places : List ℕ
      places = places_at (P.g.numbers p.layout.dim) p.layout.start (P.g.numbers p.layout.strides)

      abbrev Reach : Type 0
      Reach = Reaches ⊤ (slice_get p.slice.now) (P.g.numbers p.layout.dim) p.layout.start (P.g.numbers p.layout.strides)

      abbrev Same : Type 0
      Same = grid_at (slice_get p.slice.now) (P.g.numbers p.layout.dim) p.layout.start (P.g.numbers p.layout.strides) ≡ d

      -- what the array is when the elements are these
      abbrev whole : List (el_x E) → Grid (el_x E)
      whole ws = grid d.lengths (cells_from places d.cells ws)

      abbrev kept : Grid (el_x E) → Grid (el_x E)
      kept g = grid d.lengths (refit d.cells g.cells)

      -- an array as a name of elements
      abbrev new : Grid (el_x E) → List (el_x E)
      new g = told places d.cells p.slice.now g.cells

      abbrev enc : List (el_x E) → Grid (el_x E)
      enc ws = grid d.lengths (tells places d.cells p.slice.now ws)

      abbrev Elements : SemTy
      Elements = Arr (mem (R E)) (length p.slice.now)

      -- the elements that an array names
      abbrev Pin : SemTy
      Pin = record { rep = Grid (el_x E); coded = (Ar E P dA).coded; size = 0; own_at = λ g c o. Elements.own_at (new g) c o }

      back₁ : (c o : ℕ) (g : Grid (el_x E)) → ent 𝓤 (sep 𝓤 (sem 𝓛 (Pin.own_at g c o)) (emp 𝓤)) (sem 𝓛 (Elements.own_at (new g) c o))
      back₁ c o g = fst∗ 𝓤 (sem 𝓛 (Elements.own_at (new g) c o)) (emp 𝓤)

      module _ (reaches : Reach) (same : Same) where
        again : (ws : List (el_x E)) → length ws ≡ length p.slice.now → new (enc ws) ≡ ws
        again = told-again p.slice.now (P.g.numbers p.layout.dim) p.layout.start (P.g.numbers p.layout.strides) reaches d same

        law : (g : Grid (el_x E)) → whole (new g) ≡ kept g
        law g = ap (grid d.lengths) (cells-told_at p.slice.now (P.g.numbers p.layout.dim) p.layout.start (P.g.numbers p.layout.strides) reaches d same g.cells)

        back₂ : (c o : ℕ) (ws : List (el_x E)) → ent 𝓤 (sep 𝓤 (sem 𝓛 (Elements.own_at ws c o)) (emp 𝓤)) (sem 𝓛 (Pin.own_at (enc ws) c o))
        back₂ c o ws = qed 𝓛 (‵ (Elements.own_at ws c o) ∷ raw (emp 𝓤) ∷ []) ∵ keep ! (0 ∷ []) $ fsplit ! $ feq_l ! (λ e.
            feq_i ! ℕ (length ws) (length p.slice.now) e $ fjoin ! $ rewrite ! 0 (λ (zs : List (el_x E)). ‵ (Elements.own_at zs c o)) (sym (again ws e)) refl $ done !)

    walk : ent 𝓤 (⋆ 𝓛 Had) (WpFn 𝓤 H 𝓣.C 𝓣.Λ (function E P dA) (vptr rb ro ∷ []) (Post (vptr rb ro ∷ [])))
    walk =
        let z₁ : G₁.Ghost = ((z.0.0, z.0.1, z.0.2, z.0.3, (vptr rb ro ∷ [], tt)), tt) in
        qed 𝓛 Had ∵ enter ! 𝓣.C 𝓣.Λ (function E P dA) (vptr rb ro ∷ []) _ $ alloc_all ! (λ l. pass_all ! refl ((tt, tt), tt) $
        sets ! (addr ! (through ! refl (stop !))) refl (tt, tt) $
        feq_i ! (List Val) (vptr rb ro ∷ []) (vptr rb ro ∷ []) refl $ fjoin3 ! $ nothing ! $ move ! (1 ∷ 0 ∷ []) $ join ! $
        move ! (1 ∷ 2 ∷ []) $ join ! $ join ! $
        nothing ! $ use0 𝓛 (raw (fact 𝓤 (z.0.0.1.1.0 ⊑ P.row.lives))) (fact_i 𝓤 (z.0.0.1.1.0 ⊑ P.row.lives) (emp 𝓤) inD) $ join ! $
        use0 𝓛 (raw (fact 𝓤 (z.0.0.1.0 ⊑ E.row.lives))) (fact_i 𝓤 (z.0.0.1.0 ⊑ E.row.lives) (emp 𝓤) inA) $ join ! $
        move ! (1 ∷ 0 ∷ []) $ join ! $ use1 𝓛 (raw (G₁.pre z₁)) (id⊢ 𝓤 (G₁.pre z₁)) $
        calls_at ! (fm_of 𝓤 H 𝓛.laws 𝓣) G₁ go₁ z₁ (and_then ! (get ! refl) (no_more !)) (λ v.
        use1 𝓛 (later (some (λ (p : Pr.Denot). ((‵ (flft κ q) ⊛ other) ⊛ ‵ (Pr.own_val p (v ∷ []))) ⊛ some (λ (ws : Lasts (end₁ E P dA) z.0.0 z.0.3). ‵ (lasts (end₁ E P dA) z.0.0 z.0.3 ws) ⊛ ‵ (follows (Ar E P dA) (Array (R E) 0) γ p.slice.ghost_name (whole p)) ⊛ raw (fact 𝓤 (Reach p)) ⊛ raw (fact 𝓤 (Same p))))))
        (id⊢ 𝓤 (G₁.post z₁ v)) $ await ! tt $ pick ! (λ p. cut_item ! $ move ! (1 ∷ []) $ pick ! (λ ws. cut_item ! $ drop ! $ split3 ! $ move ! (1 ∷ 2 ∷ []) $
        heard ! (Reach p) (λ reaches. heard ! (Same p) (λ same. move ! (1 ∷ []) $ cut_item ! $ move ! (1 ∷ []) $ peeks ! Pr (Is Pr) (shows 𝓛 Pr) p (v ∷ []) (λ is.
        lands_as ! refl refl (((P-laws.the_row_laws (record { mir = named 0; lft = κ }) (R E) (Q E P dA) (param_laws 0 E.row E.laws) (param_laws 1 P.row P.laws)).lawful 𝓛).typed p (v ∷ []) is).0 $
        let xs = p.slice.now in let b = p.slice.ref_ptr.0 in let o = p.slice.ref_ptr.1 in let δ = p.slice.ghost_name in let n = length xs in
        let code = (coded_list (R E).coded).code xs in let Slice = MutSlice (named 0) κ (R E) in
        -- [the parts; the tokens; what follows]
        fpick ! (λ vss. fsplit ! $ feq_l ! (λ ev. fsplit ! $ fsplit3 ! $ fsplit ! $ feq_l ! (λ e₀. pure_l ! (room (R E) n) (λ rm.
        rewrite ! 0 (λ (zs : List (el_x E)). ‵ (fobs δ ((coded_list (R E).coded).code zs))) (heres_id (R E) xs) refl $
        -- [obs; the loan; the layout; the tokens; what follows]
        move ! (3 ∷ []) $ cut_item ! $ move ! (2 ∷ 3 ∷ 0 ∷ []) $ open_ref ! tt (Elements p) {x = xs} {b = b} {o = o} $
        rewrite ! 0 (λ (zs : List (el_x E)). ‵ ((Elements p).own_at zs b o)) (sym (again p reaches same xs refl)) refl $
        use0 𝓛 (raw (emp 𝓤)) (id⊢ 𝓤 (emp 𝓤)) $ move ! (2 ∷ 3 ∷ 4 ∷ 1 ∷ 0 ∷ []) $ group ! 5 $
        use1 𝓛 (later (some (λ (γ' : GName). ‵ (fobs γ' ((Pin p).coded.code (enc p xs))) ⊛ ‵ (fbor κ (Borrowed (Pin p) b o γ')) ⊛ ‵ (flft κ q) ⊛ ‵ (after (Elements p) (Pin p) δ γ' (new p)))))
        (takes_part 𝓛 (Elements p) (Pin p) (new p) κ q b o b o δ (emp 𝓤) (back₁ p b o) code code (enc p xs)) $ await ! tt $ pick ! (λ γ'. split3 ! $ move ! (2 ∷ []) $ cut_item ! $
        -- [the token; what follows; obs; the loan; the other tokens; the layout; what follows first]
        move ! (6 ∷ 1 ∷ []) $ use2 𝓛 (‵ (follows (Ar E P dA) (Ar E P dA) γ γ' (λ g. whole p (new p g)))) (follows_then 𝓛 (Ar E P dA) (Array (R E) 0) (Ar E P dA) (whole p) (new p) γ δ γ') $
        rewrite ! 0 (λ (f : Grid (el_x E) → Grid (el_x E)). ‵ (follows (Ar E P dA) (Ar E P dA) γ γ' f)) (λ i g. law p reaches same g i) refl $
        -- [what follows; the token; obs; the loan; the other tokens; the layout]
        move ! (2 ∷ 3 ∷ 1 ∷ []) $ open_ref ! tt (Pin p) {x = enc p xs} {b = b} {o = o} $
        rewrite ! 0 (λ (zs : List (el_x E)). ‵ ((Elements p).own_at zs b o)) (again p reaches same xs refl) refl $
        use0 𝓛 (raw (emp 𝓤)) (id⊢ 𝓤 (emp 𝓤)) $ move ! (2 ∷ 3 ∷ 4 ∷ 1 ∷ 0 ∷ []) $ group ! 5 $
        use1 𝓛 (later (some (λ (δ' : GName). ‵ (fobs δ' ((coded_list (R E).coded).code xs)) ⊛ ‵ (fbor κ (Borrowed (Elements p) b o δ')) ⊛ ‵ (flft κ q) ⊛ ‵ (after (Pin p) (Elements p) γ' δ' (enc p)))))
        (takes_part 𝓛 (Pin p) (Elements p) (enc p) κ q b o b o γ' (emp 𝓤) (back₂ p reaches same b o) ((Pin p).coded.code (enc p xs)) ((Pin p).coded.code (enc p xs)) xs) $ await ! tt $ pick ! (λ δ'. split3 ! $
        let s : MutBor (List (el_x E)) = record { ref_ptr = (b, o); ghost_name = δ'; now = xs } in let p' : Pr.Denot = record { slice = s; layout = p.layout } in
        use2 𝓛 (‵ (Slice.own_val s (slice_val (b, o) n ∷ []))) (slice_of 𝓛 (R E) (named 0) κ b o δ' xs rm) $
        rewrite ! 0 (λ (us : List Val). ‵ (Slice.own_val s us)) (sym e₀) refl $
        -- [the slice; the token, and what follows last; what follows; the other tokens; the layout]
        move ! (0 ∷ 4 ∷ []) $ fjoin ! $ feq_i ! (List Val) (v ∷ []) _ ev $ fjoin ! $
        fpack ! (List Val × (List Val × Unit {0})) (within (shape (P-type.the_type (record { mir = named 0; lft = κ }) (R E) (Q E P dA))) (s, ((p.layout.start, (p.layout.dim, (p.layout.strides, tt))), tt)) (v ∷ [])) vss $
        move ! (1 ∷ []) $ cut_item ! $ move ! (1 ∷ []) $ drop ! $
        -- [the token; the parts; what follows; the other tokens]
        let z₂ : G₂.Ghost = ((z.0.0, z.0.1, (z.0.2.0, tt), (p', tt), (v ∷ [], tt)), tt) in
        move ! (0 ∷ 3 ∷ []) $ join ! $ move ! (1 ∷ []) $ nothing ! $ move ! (1 ∷ 0 ∷ []) $ join ! $ move ! (1 ∷ 0 ∷ []) $ join ! $
        nothing ! $ use0 𝓛 (raw (fact 𝓤 (z.0.0.1.1.0 ⊑ P.row.lives))) (fact_i 𝓤 (z.0.0.1.1.0 ⊑ P.row.lives) (emp 𝓤) inD) $ join ! $
        use0 𝓛 (raw (fact 𝓤 (z.0.0.1.0 ⊑ E.row.lives))) (fact_i 𝓤 (z.0.0.1.0 ⊑ E.row.lives) (emp 𝓤) inA) $ join ! $
        move ! (1 ∷ 0 ∷ []) $ join ! $ use1 𝓛 (raw (G₂.pre z₂)) (id⊢ 𝓤 (G₂.pre z₂)) $
        calls_at ! (fm_of 𝓤 H 𝓛.laws 𝓣) G₂ go₂ z₂ (and_then ! (get ! refl) (no_more !)) (λ w.
        use1 𝓛 (later (some (λ (r : Ln.Denot). ((‵ (flft κ q) ⊛ other) ⊛ ‵ (Ln.own_val r (w ∷ []))) ⊛ some (λ (ws' : Lasts (end₂ E P dA) z.0.0 (p', tt)). ‵ (lasts (end₂ E P dA) z.0.0 (p', tt) ws') ⊛ raw (fact 𝓤 (r.layout ≡ p.layout)) ⊛ raw (fact 𝓤 (r.region.slots ≡ map Some xs))))))
        (id⊢ 𝓤 (G₂.post z₂ w)) $ await ! tt $ pick ! (λ r. cut_item ! $ move ! (1 ∷ []) $ pick ! (λ ws'. cut_item ! $ drop ! $ cut_item ! $
        heard ! (r.layout ≡ p.layout) (λ lies. heard ! (r.region.slots ≡ map Some xs) (λ held. cut_item ! $ move ! (1 ∷ []) $ peeks ! Ln (Is Ln) (shows 𝓛 Ln) r (w ∷ []) (λ is'.
        lands_as ! refl refl (((L-laws.the_row_laws (record { mir = named 0; lft = κ }) (R E) (Q E P dA) (param_laws 0 E.row E.laws) (param_laws 1 P.row P.laws)).lawful 𝓛).typed r (w ∷ []) is').0 $
        let rg = r.region in let out : Ln.Denot = record { region = record { shared = rg.shared; marker = rg.marker; name = rg.name; reborrow_name = γ'; slots = rg.slots }; layout = r.layout } in
        use1 𝓛 (‵ (Ln.own_val out (w ∷ []))) (id⊢ 𝓤 (sem 𝓛 (Ln.own_val r (w ∷ [])))) $
        -- [the loan; the tokens; what follows]
        returns ! (look_at ! 0 refl) $ free_all ! refl $
        suffices ! _ (ends_at 𝓛 (end E P dA) (stayed E P dA) spec (At (vptr rb ro ∷ [])) w out (tt, tt) (tt, tt)) $
        nothing ! $ nothing ! $ fjoin ! $ join ! $ move ! (1 ∷ 0 ∷ []) $ join ! $ frame ! $
        says_both ! (subst (λ (y : Layout (Q E P dA).Denot). Reaches ⊤ (held_at rg.slots) (P.g.numbers y.dim) y.start (P.g.numbers y.strides)) (sym lies) (Reaches-same _ _ _ _ _ (λ x. x) (λ k. sym (held-slice _ _ held k)) reaches))
        (subst (λ (y : Layout (Q E P dA).Denot). grid_at (held_at rg.slots) (P.g.numbers y.dim) y.start (P.g.numbers y.strides) ≡ d) (sym lies) (grid_at-same _ _ _ _ _ (held-slice _ _ held) ∙ same)) $ done !)))))))))))))))))))

    entry : (us : List Val) → ent 𝓤 (on_entry 𝓛 (end E P dA).signature z.0.0 z.0.1 z.0.3 (us, tt)) (WpFn 𝓤 H 𝓣.C 𝓣.Λ (function E P dA) (us ++ []) (Post us))
    entry us =
        qed 𝓛 ((‵ (flft κ q) ⊛ other) ∷ ‵ (owns (MutRef (named 0) κ (Ar E P dA) ∷ []) z.0.3 (us, tt)) ∷ []) ∵
        cut_item ! $ move ! (2 ∷ []) $ fsplit ! $ fsplit3 ! $ feq_l ! (λ e. keep ! (0 ∷ 1 ∷ 3 ∷ 4 ∷ []) $
        by ! (subst (λ (ws : List Val). ent 𝓤 (⋆ 𝓛 Had) (WpFn 𝓤 H 𝓣.C 𝓣.Λ (function E P dA) (ws ++ []) (Post ws))) (sym e) walk))

  meets : (go₁ : Triple 𝓤 (𝓣.C (#parts_mut (args E P dA))) G₁) (go₂ : Triple 𝓤 (𝓣.C (#into_region_parts (args₂ E P dA))) G₂) → Meets 𝓛 (end E P dA).signature (WpFn 𝓤 H 𝓣.C 𝓣.Λ (function E P dA)) (closing 𝓛 (end E P dA) spec)
  meets go₁ go₂ =
      walk_Meets 𝓛 (end E P dA) (stayed E P dA) (Goes-spent_ref 𝓛 3 (0 ∷ []) tt (plain (λ _. Ar E P dA)), tt)
      spec (WpFn 𝓤 H 𝓣.C 𝓣.Λ (function E P dA)) (WpFn-mono 𝓤 H 𝓛.laws 𝓣 (function E P dA))
      (λ z. let κs = z.0.0 in
      qed 𝓛 (raw (on_entry 𝓛 (end E P dA).signature z.0.0 z.0.1 z.0.3 z.0.4) ∷ (raw (fact 𝓤 (κs.1.0 ⊑ E.row.lives)) ⊛ raw (fact 𝓤 (κs.1.1.0 ⊑ P.row.lives)) ⊛ ‵ ftrue) ∷ []) ∵
      move ! (1 ∷ []) $ split3 ! $ heard ! (κs.1.0 ⊑ E.row.lives) (λ inA. heard ! (κs.1.1.0 ⊑ P.row.lives) (λ inD. drop ! $
      by ! (entry go₁ go₂ z inA inD z.0.4.0))))

pub owned_region_parts_spec : {M : Type 1} → stated.statement M
unfolding tables_of
owned_region_parts_spec 𝓤 𝓛 𝓜 𝓡 wired X Y LX LY g d dA dd met mA md =
    let E : El = record { row = X; laws = LX } in
    let P : Dm = record { row = Y; laws = LY; g = g; d = d; drops = dd } in
    let 𝓣 : Tables 𝓤 𝓛.H = tables_of 𝓤 𝓛.H 𝓜 (tables 𝓤 𝓛.H 𝓜 𝓡 𝓡.env) in
    entered 𝓤 𝓛.H (triple_of 𝓛 (end E P dA).signature (closing 𝓛 (end E P dA) (F.clauses X Y g d dA dd 𝓛 𝓜.mem 𝓡.returns))) 𝓣.C 𝓣.Λ (#self (args E P dA)) (function E P dA) (code.unfolded 𝓤 𝓛.H 𝓜 𝓡 wired (X, (Y, tt)) d dA dd)
    (meets E P dA 𝓛 𝓜.mem 𝓡.returns 𝓣
    (met₁.met 𝓤 𝓛 𝓜 𝓡 (code.calls-ndarray::base::view_mut::Array+A+D::parts_mut 𝓡.env wired) X Y LX LY g d dA dd met mA md)
    (met₂.met 𝓤 𝓛 𝓜 𝓡 (code.calls-ndarray::base::view_mut::Parts::into_region_parts 𝓡.env wired) X Y LX LY g d dd met md))
