-- `region_parts` passes on what the storage's own `region_parts` gives. Assumes `Logic`.
use mathlib.Core.Path.{◌≡◌, refl, sym, subst}
use mathlib.Core.List.{List, [], ◌∷◌, ◌++◌}
use seplogic.Ra.Ura.{Ura}
use mir.Syntax.{Fn, Args, Dict, named, a_type, dnil, dcons, method}
use mir.MapTy.{inst_fn}
use mir.Val.{Val, vptr}
use base.Logic.{SProp, ent, emp, id⊢}
use base.Fml.{GName, ftrue, flft, fobs, fbor}
use prog.Memory.{Memory}
use prog.Routine.{Routine}
use prog.Wp.{WpFn, Tables}
use types.Logic.{Logic}
use contract.Monad.{fact, fact_i, Fun}
use contract.BorrowLft.{◌⊑◌}
use contract.Lifetimes.{Lfts}
use contract.Running.{tables, tables_of}
use sound.WpLaws.{fm_of, WpFn-mono}
use types.Kit.{Item, ⋆, ‵, raw, ◌⊛◌, some, later, await, pick, ◌$◌, ◌∵◌, !, qed, by, move, keep, drop, use0, use1, split as cut_item, split3, join, fsplit, fsplit3, fjoin, fjoin3, feq_l, feq_i, suffices, frame, done}
use types.Run.{addr, stop, and_then, no_more, returns, enter}
use types.ByLocal.{through, alloc_all, pass_all, free_all, look_at, get, sets, lands_as}
use types.SemTy.{Body as Borrowed}
use denote.Exit.{no}
use denote.RattleType.{RattleType, owns}
use denote.Laws.{Is, shows}
use denote.Memory.{mem}
use denote.Ref.{MutRef}
use denote.Param.{bounded, param}
use denote.Param.Laws.{param_laws}
use denote.Signature.{plain, mut_ref_to}
use denote.Steps.{nothing, heard, peeks}
use denote.Follow.{follows}
use denote.Triple.Call.{calls_at}
use denote.Triple.Clauses.{Clauses, Ended, Lasts, lasts, closing}
use denote.Triple.Entry.{on_entry}
use denote.Triple.Spec.{Meets, triple_of}
use denote.Triple.Statement.{Triple, Contract}
use denote.Triple.Table.{entered}
use denote.Triple.Walked.{Stays, stay_dropped, walk_of, ends_at, Goes-spent_ref, walk_Meets}
use Rattle.core.proofs.mem.Param.{El, el_x}
use Rattle.std.specs.Prelude.{⊤}
use Rattle.ndarray.specs.Grid.{Grid, grid}
use Rattle.ndarray.specs.Writes.{refit}
use Rattle.ndarray.specs.base.Places.{grid_at, Reaches}
use Rattle.ndarray.specs.base.Slots.{held_at}
use Rattle.ndarray.specs.declared.base.storage.Data as Data
use Rattle.ndarray.specs.declared.base.storage.DataMut as DataMut
use Rattle.ndarray.specs.contracts.base.array.ArrayBase as A-type
use Rattle.ndarray.specs.contracts.base.view_mut.RegionParts as L-type
use Rattle.ndarray.specs.contracts.base.storage.DataMut.region_parts as F₁
use Rattle.ndarray.proofs.base.view_mut.RegionParts.TheLaws as L-laws
use Rattle.ndarray.proofs.regions.Shown.{Shown, shown_as}
use Rattle.ndarray.proofs.regions.Memory.{says_both}
use Rattle.ndarray.proofs.regions.ReborrowedViews.{Dm}
use Rattle.ndarray.specs.contracts.base.array.ArrayBase.region_parts as F
use Rattle.ndarray.specs.contracts.base.array.ArrayBase.region_parts.Key.{name as #self}
use Rattle.ndarray.proofs.base.array.ArrayBase.region_parts.Statement as stated
use Rattle.ndarray.proofs.base.array.ArrayBase.region_parts.Code as code

-- a storage that may be written to, as the walk of a generic function knows it: its type, that of its elements, what the traits say of it, and their tables
record St : Type 2 where
  S : El
  X : El
  gM : DataMut.Ghosts S.row.Denot X.row.Denot
  dM : Dict
  gA : Data.Ghosts S.row.Denot X.row.Denot
  dA : Dict
  drops : Dict

module _ (Z : St) (P : Dm) where
  abbrev args : Args
  args = bounded (a_type ∷ a_type ∷ a_type ∷ []) (Z.S.row, (P.row, (Z.X.row, tt))) (dcons Z.dM (dcons Z.dA (dcons P.d (dcons Z.drops (dcons P.drops dnil)))))

  abbrev args₁ : Args
  args₁ = bounded (a_type ∷ []) (P.row, tt) (dcons P.d (dcons P.drops dnil))

  abbrev function : Fn
  function = inst_fn args code.function

  abbrev end : Ended
  end = F.ended Z.S.row P.row Z.X.row Z.gM Z.dM Z.gA Z.dA P.g P.d Z.drops P.drops

  abbrev end₁ : Ended
  end₁ = F₁.ended Z.S.row Z.X.row P.row Z.gM Z.dM Z.gA Z.dA Z.drops P.g P.d P.drops

  abbrev Ar : RattleType
  Ar = A-type.the_row (param 0 Z.S.row) (param 1 P.row) (param 2 Z.X.row) Z.gA P.g

  abbrev stayed : Stays end.signature.params end.kept
  stayed = (stay_dropped (mut_ref_to (0 ∷ []) tt (plain (λ _. Ar))) no, tt)

module _ (Z : St) (P : Dm) {M : Type 1} {𝓤 : Ura M} (𝓛 : Logic 𝓤) (at_mem : Memory → SProp 𝓤) (run : Routine → Fun 𝓤) (𝓣 : Tables 𝓤 𝓛.H) where
  open 𝓛 use {H, A}

  abbrev spec : Clauses 𝓤 (end Z P)
  spec = F.clauses Z.S.row P.row Z.X.row Z.gM Z.dM Z.gA Z.dA P.g P.d Z.drops P.drops 𝓛 at_mem run

  abbrev G₁ : Contract 𝓤
  G₁ = triple_of 𝓛 (end₁ Z P).signature (F₁.spec Z.S.row Z.X.row P.row Z.gM Z.dM Z.gA Z.dA Z.drops P.g P.d P.drops 𝓛 at_mem run)

  module _ (go₁ : Triple 𝓤 (𝓣.C (method Z.dM 2 (args₁ Z P))) G₁) (z : (walk_of 𝓛 (end Z P) (stayed Z P) spec).Ghost)
      (inS : z.0.0.1.0 ⊑ Z.S.row.lives) (inD : z.0.0.1.1.0 ⊑ P.row.lives) (inX : z.0.0.1.1.1.0 ⊑ Z.X.row.lives) where
    abbrev given : Shown (Grid (el_x Z.X))
    given = shown_as z.0.0.0 z.0.1.0 z.0.3.0.ref_ptr z.0.3.0.now

    open given use {κ, q, rb, ro, d}

    abbrev γ : GName
    γ = z.0.3.0.ghost_name

    abbrev forS : Item 𝓤
    forS = ‵ (flft z.0.0.1.0 z.0.1.1.0)

    abbrev forD : Item 𝓤
    forD = ‵ (flft z.0.0.1.1.0 z.0.1.1.1.0)

    abbrev forX : Item 𝓤
    forX = ‵ (flft z.0.0.1.1.1.0 z.0.1.1.1.1.0)

    abbrev other : Item 𝓤
    other = forS ⊛ forD ⊛ forX ⊛ ‵ ftrue

    abbrev At : List Val → (walk_of 𝓛 (end Z P) (stayed Z P) spec).Ghost
    At us = ((z.0.0, z.0.1, z.0.2, z.0.3, (us, tt)), z.1)

    abbrev Post : List Val → Val → SProp 𝓤
    Post us = (walk_of 𝓛 (end Z P) (stayed Z P) spec).post (At us)

    abbrev Ln : RattleType
    Ln = L-type.the_row (record { mir = named 0; lft = κ }) (param 2 Z.X.row) (param 1 P.row)

    abbrev Had : List (Item 𝓤)
    Had = ‵ (fobs γ ((Ar Z P).coded.code d)) ∷ ‵ (fbor κ (Borrowed (mem (Ar Z P)) rb ro γ)) ∷ ‵ (flft κ q) ∷ other ∷ []

    abbrev kept : Grid (el_x Z.X) → Grid (el_x Z.X)
    kept g = grid d.lengths (refit d.cells g.cells)

    module _ (r : Ln.Denot) where
      abbrev Reach : Type 0
      Reach = Reaches ⊤ (held_at r.region.slots) (P.g.numbers r.layout.dim) r.layout.start (P.g.numbers r.layout.strides)

      abbrev Same : Type 0
      Same = grid_at (held_at r.region.slots) (P.g.numbers r.layout.dim) r.layout.start (P.g.numbers r.layout.strides) ≡ d

    walk : ent 𝓤 (⋆ 𝓛 Had) (WpFn 𝓤 H 𝓣.C 𝓣.Λ (function Z P) (vptr rb ro ∷ []) (Post (vptr rb ro ∷ [])))
    walk =
        let κs₁ : Lfts 4 = (κ, (z.0.0.1.0, (z.0.0.1.1.1.0, (z.0.0.1.1.0, tt)))) in
        let z₁ : G₁.Ghost = ((κs₁, (q, (z.0.1.1.0, (z.0.1.1.1.1.0, (z.0.1.1.1.0, tt)))), z.0.2, z.0.3, (vptr rb ro ∷ [], tt)), tt) in
        qed 𝓛 Had ∵ enter ! 𝓣.C 𝓣.Λ (function Z P) (vptr rb ro ∷ []) _ $ alloc_all ! (λ l. pass_all ! refl ((tt, tt), tt) $
        sets ! (addr ! (through ! refl (stop !))) refl (tt, tt) $
        feq_i ! (List Val) (vptr rb ro ∷ []) (vptr rb ro ∷ []) refl $ fjoin3 ! $ nothing ! $ move ! (1 ∷ 0 ∷ []) $ join ! $
        -- [the array; the tokens]
        move ! (2 ∷ []) $ cut_item ! $ move ! (1 ∷ []) $ split3 ! $
        -- [of D; of X; nothing; of S; the array; of κ]
        move ! (0 ∷ 2 ∷ []) $ join ! $ move ! (1 ∷ 0 ∷ []) $ join ! $ move ! (1 ∷ 0 ∷ []) $ join ! $ move ! (2 ∷ 0 ∷ []) $ join ! $ join ! $
        nothing ! $ use0 𝓛 (raw (fact 𝓤 (z.0.0.1.1.0 ⊑ P.row.lives))) (fact_i 𝓤 (z.0.0.1.1.0 ⊑ P.row.lives) (emp 𝓤) inD) $ join ! $
        use0 𝓛 (raw (fact 𝓤 (z.0.0.1.1.1.0 ⊑ Z.X.row.lives))) (fact_i 𝓤 (z.0.0.1.1.1.0 ⊑ Z.X.row.lives) (emp 𝓤) inX) $ join ! $
        use0 𝓛 (raw (fact 𝓤 (z.0.0.1.0 ⊑ Z.S.row.lives))) (fact_i 𝓤 (z.0.0.1.0 ⊑ Z.S.row.lives) (emp 𝓤) inS) $ join ! $
        move ! (1 ∷ 0 ∷ []) $ join ! $ use1 𝓛 (raw (G₁.pre z₁)) (id⊢ 𝓤 (G₁.pre z₁)) $
        calls_at ! (fm_of 𝓤 H 𝓛.laws 𝓣) G₁ go₁ z₁ (and_then ! (get ! refl) (no_more !)) (λ v.
        use1 𝓛 (later (some (λ (r : Ln.Denot). ((‵ (flft κ q) ⊛ forS ⊛ forX ⊛ forD ⊛ ‵ ftrue) ⊛ ‵ (Ln.own_val r (v ∷ []))) ⊛ some (λ (ws : Lasts (end₁ Z P) κs₁ z.0.3). ‵ (lasts (end₁ Z P) κs₁ z.0.3 ws) ⊛ ‵ (follows (Ar Z P) (Ar Z P) γ r.region.reborrow_name kept) ⊛ raw (fact 𝓤 (Reach r)) ⊛ raw (fact 𝓤 (Same r))))))
        (id⊢ 𝓤 (G₁.post z₁ v)) $ await ! tt $ pick ! (λ r. cut_item ! $ move ! (1 ∷ []) $ pick ! (λ ws. cut_item ! $ drop ! $ split3 ! $ move ! (1 ∷ 2 ∷ []) $
        heard ! (Reach r) (λ reaches. heard ! (Same r) (λ same. move ! (1 ∷ []) $ cut_item ! $ move ! (1 ∷ []) $ peeks ! Ln (Is Ln) (shows 𝓛 Ln) r (v ∷ []) (λ is.
        lands_as ! refl refl (((L-laws.the_row_laws (record { mir = named 0; lft = κ }) (param 2 Z.X.row) (param 1 P.row) (param_laws 2 Z.X.row Z.X.laws) (param_laws 1 P.row P.laws)).lawful 𝓛).typed r (v ∷ []) is).0 $
        -- [the loan; the tokens; what follows]
        returns ! (look_at ! 0 refl) $ free_all ! refl $ move ! (1 ∷ []) $ split3 ! $ move ! (2 ∷ []) $ split3 ! $
        -- [of X; of D; nothing; of κ; of S; the loan; what follows]
        move ! (0 ∷ 2 ∷ []) $ join ! $ move ! (1 ∷ 0 ∷ []) $ join ! $ move ! (2 ∷ 0 ∷ []) $ join ! $ move ! (1 ∷ 0 ∷ []) $ join ! $
        -- [the tokens; the loan; what follows]
        move ! (1 ∷ []) $
        suffices ! _ (ends_at 𝓛 (end Z P) (stayed Z P) spec (At (vptr rb ro ∷ [])) v r (tt, tt) (tt, tt)) $
        nothing ! $ nothing ! $ fjoin ! $ join ! $ move ! (1 ∷ 0 ∷ []) $ join ! $ frame ! $ says_both ! reaches same $ done !)))))))

    entry : (us : List Val) → ent 𝓤 (on_entry 𝓛 (end Z P).signature z.0.0 z.0.1 z.0.3 (us, tt)) (WpFn 𝓤 H 𝓣.C 𝓣.Λ (function Z P) (us ++ []) (Post us))
    entry us =
        qed 𝓛 ((‵ (flft κ q) ⊛ other) ∷ ‵ (owns (MutRef (named 0) κ (Ar Z P) ∷ []) z.0.3 (us, tt)) ∷ []) ∵
        cut_item ! $ move ! (2 ∷ []) $ fsplit ! $ fsplit3 ! $ feq_l ! (λ e. keep ! (0 ∷ 1 ∷ 3 ∷ 4 ∷ []) $
        by ! (subst (λ (ws : List Val). ent 𝓤 (⋆ 𝓛 Had) (WpFn 𝓤 H 𝓣.C 𝓣.Λ (function Z P) (ws ++ []) (Post ws))) (sym e) walk))

  meets : (go₁ : Triple 𝓤 (𝓣.C (method Z.dM 2 (args₁ Z P))) G₁) → Meets 𝓛 (end Z P).signature (WpFn 𝓤 H 𝓣.C 𝓣.Λ (function Z P)) (closing 𝓛 (end Z P) spec)
  meets go₁ =
      walk_Meets 𝓛 (end Z P) (stayed Z P) (Goes-spent_ref 𝓛 4 (0 ∷ []) tt (plain (λ _. Ar Z P)), tt)
      spec (WpFn 𝓤 H 𝓣.C 𝓣.Λ (function Z P)) (WpFn-mono 𝓤 H 𝓛.laws 𝓣 (function Z P))
      (λ z. let κs = z.0.0 in
      qed 𝓛 (raw (on_entry 𝓛 (end Z P).signature z.0.0 z.0.1 z.0.3 z.0.4) ∷ (raw (fact 𝓤 (κs.1.0 ⊑ Z.S.row.lives)) ⊛ raw (fact 𝓤 (κs.1.1.0 ⊑ P.row.lives)) ⊛ raw (fact 𝓤 (κs.1.1.1.0 ⊑ Z.X.row.lives)) ⊛ ‵ ftrue) ∷ []) ∵
      move ! (1 ∷ []) $ split3 ! $ heard ! (κs.1.0 ⊑ Z.S.row.lives) (λ inS. heard ! (κs.1.1.0 ⊑ P.row.lives) (λ inD. cut_item ! $ heard ! (κs.1.1.1.0 ⊑ Z.X.row.lives) (λ inX. drop ! $
      by ! (entry go₁ z inS inD inX z.0.4.0)))))

pub region_parts_spec : {M : Type 1} → stated.statement M
unfolding tables_of
region_parts_spec 𝓤 𝓛 𝓜 𝓡 wired S D X LS LD LX gM dM gA dA gD dD dS dE metM metA metL mS mD =
    let Z : St = record { S = record { row = S; laws = LS }; X = record { row = X; laws = LX }; gM = gM; dM = dM; gA = gA; dA = dA; drops = dS } in
    let P : Dm = record { row = D; laws = LD; g = gD; d = dD; drops = dE } in
    let 𝓣 : Tables 𝓤 𝓛.H = tables_of 𝓤 𝓛.H 𝓜 (tables 𝓤 𝓛.H 𝓜 𝓡 𝓡.env) in
    entered 𝓤 𝓛.H (triple_of 𝓛 (end Z P).signature (closing 𝓛 (end Z P) (F.clauses S D X gM dM gA dA gD dD dS dE 𝓛 𝓜.mem 𝓡.returns))) 𝓣.C 𝓣.Λ (#self (args Z P)) (function Z P) (code.unfolded 𝓤 𝓛.H 𝓜 𝓡 wired (S, (D, (X, tt))) dM dA dD dS dE)
    (meets Z P 𝓛 𝓜.mem 𝓡.returns 𝓣 (metM.region_parts dS D LD gD dD dE metL mD))
