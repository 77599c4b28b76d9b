-- A writing view's region is lent again, and its layout is shared. Assumes `Logic`.
use mathlib.Core.Path.{◌≡◌, refl, sym, ap, ◌∙◌}
use Prim.Native.Nat.{ℕ, ◌+◌, ◌*◌, ◌<◌, ◌^◌}
use mathlib.Core.List.{List, [], ◌∷◌}
use lib.ListN.{length}
use seplogic.Ra.Ura.{Ura}
use base.Fraction.{full_share}
use base.Stored.{coded_list}
use base.Logic.{SProp, ent, sep, ex, emp}
use base.Fml.{Lft, Incl, GName, Share, Fml, ftrue, fsep, flft, fobs, fauth, fobor, fbor, fseps}
use mir.Syntax.{Dict}
use types.Logic.{Logic, sem}
use types.Kit.{group, ‵, raw, ◌⊛◌, some, later, await, pick, show, ◌$◌, ◌∵◌, !, qed, by, move, keep, use1, use2, use3, split, split3, rewrite, fsplit, fjoin, updating, now, done}
use types.SemTy.{SemTy, Body as Borrowed}
use types.Follow.{after, takes_beside}
use types.Through.{hands_through}
use denote.RattleType.{RattleType}
use denote.Memory.{mem, part_at, part_of, lone}
use denote.RawPtr.{Ptr, block_ptr}
use denote.Steps.{nothing}
use denote.Follow.{follows}
use denote.Param.{param}
use denote.Param.Laws.{Laws, param_laws}
use denote.Model.Fields.{view_owns, view_made, Plain-in}
use denote.Struct.Members.{Member}
use denote.Struct.Parts.{PartsBack}
use denote.Struct.Pick.{field_out, field_back}
use prog.Memory.{size, align, up}
use Rattle.std.specs.Prelude.{Option, ⊤}
use Rattle.core.proofs.mem.Param.{El, R, el_x}
use Rattle.ndarray.specs.declared.base.dimension.Lengths.{Ghosts}
use Rattle.ndarray.specs.contracts.base.region.RegionReprData.TheImpl as impl
use Rattle.ndarray.specs.contracts.base.array.ArrayBase as A-type
use Rattle.ndarray.specs.contracts.base.array.ArrayBase.TheInside as I-type
use Rattle.ndarray.specs.contracts.base.layout.Layout as Y-type
use Rattle.ndarray.proofs.base.layout.Layout.TheLaws as Y-laws
use Rattle.ndarray.proofs.base.region.RegionRepr.TheLaws as R-laws
use Rattle.ndarray.specs.base.Slots.{somes, held_at}
use Rattle.ndarray.specs.Grid.{Grid}
use Rattle.ndarray.specs.base.Places.{Reaches}
use Rattle.ndarray.specs.base.Scattered.{ScatteredElements}
use Rattle.ndarray.specs.base.Follows.{with_slots}
use Rattle.ndarray.proofs.regions.Memory.{Rg, Words}
use types.Mut.{open_ref}
use types.Follow.{takes_part}
use types.Kit.{use0, flt_l, flt_i}
use base.Logic.{id⊢}
use denote.Struct.OwningLaws.{part_out, part_in}
use Rattle.ndarray.specs.contracts.base.region.RegionRepr as G-type
use Rattle.ndarray.specs.base.Scattered.{region_owns}
use Rattle.ndarray.proofs.regions.Slots.{fill, fill_same, still_held}
use Rattle.ndarray.proofs.regions.Reborrows.{as_many, cut, back, Has, Rest}
use types.Kit.{fpick, fpack, feq_i, feq_l}
use base.Fml.{fex, feq}
use Rattle.ndarray.specs.Grid.{grid}
use Rattle.ndarray.specs.Writes.{refit}
use Rattle.ndarray.proofs.lists.Refits.{refit-all}
use Rattle.ndarray.proofs.strides.Reach.{length-cells_at}

-- a type of lengths, as the walk of a generic function knows it
pub record Dm : Type 2 where
  pub row : RattleType
  pub laws : Laws row
  pub g : Ghosts row.Denot
  pub d : Dict
  pub drops : Dict

pub still_reaches : {X : Type 0} (one : Type 0) (cs : List (Option X)) (ws : List X) (ns : List ℕ) (s : ℕ) (bs : List ℕ) → Reaches one (held_at cs) ns s bs → Reaches one (held_at (fill cs ws)) ns s bs
still_reaches one cs ws ns s bs r = record { as_many = r.as_many; limit = r.limit; inside = λ is h. still_held cs ws _ (r.inside is h); nested = r.nested }

module _ (a : RattleType) (E : El) (P : Dm) where
  abbrev pub Q : RattleType
  Q = param 1 P.row

  abbrev pub Ly : RattleType
  Ly = Y-type.the_row Q

  abbrev pub Ar : RattleType
  Ar = A-type.the_row (Rg a E) Q (R E) (impl.ghosts a (R E)) P.g

  abbrev pub Inside : RattleType
  Inside = I-type.the_row (Rg a E) Q (R E) (impl.ghosts a (R E)) P.g

  abbrev pub view : Inside.Denot → Grid (el_x E)
  view = A-type.the_view (Rg a E) Q (R E) (impl.ghosts a (R E)) P.g

  abbrev pub good : Inside.Denot → Type 0
  good = A-type.the_invariant (Rg a E) Q (R E) (impl.ghosts a (R E)) P.g

  abbrev pub ms : List Member
  ms = record { row = Rg a E; ty = lone (Rg a E).mir } ∷ record { row = Ly; ty = lone Ly.mir } ∷ []

  abbrev pub lo : ℕ
  lo = up (align (lone Ly.mir)) (up (align (lone (Rg a E).mir)) 0 + size (lone (Rg a E).mir))

  -- the region's values at the places that it holds, in the region's own place
  abbrev pub Pinned : (Rg a E).Denot → SemTy
  Pinned d = record { rep = List (el_x E); coded = coded_list (R E).coded; size = 0; own_at = λ ws b o. part_at (Rg a E) full_share (with_slots d (fill d.slots ws)) b o }

module _ (a : RattleType) (E : El) (P : Dm) {M : Type 1} {𝓤 : Ura M} (𝓛 : Logic 𝓤) (x : (Inside a E P).Denot) (rb ro : ℕ) where
  abbrev pub LayAt : Fml
  LayAt = part_at (Ly a E P) full_share x.layout rb (ro + lo a E P)

  abbrev pub Back : SProp 𝓤
  Back = PartsBack 𝓛 full_share [] (ms a E P) rb ro

  pub fields_of : Laws a → ent 𝓤 (sem 𝓛 (part_at (Inside a E P) full_share x rb ro)) (sep 𝓤 (sem 𝓛 (part_at (Rg a E) full_share x.storage rb (ro + 0))) (sep 𝓤 (sem 𝓛 LayAt) Back))
  unfolding part_of
  fields_of La =
      qed 𝓛 (‵ (part_at (Inside a E P) full_share x rb ro) ∷ []) ∵ use1 𝓛 (‵ (part_at (Rg a E) full_share x.storage rb (ro + 0)) ⊛ ‵ (fsep LayAt ftrue) ⊛ raw Back)
      (field_out 𝓛 full_share [] (ms a E P) ((R-laws.the_row_laws a (R E) La (param_laws 0 E.row E.laws)).lawful 𝓛, ((Y-laws.the_row_laws (Q a E P) (param_laws 1 P.row P.laws)).lawful 𝓛, tt)) (x.storage, (x.layout, tt)) rb ro 0) $
      split3 ! $ move ! (1 ∷ []) $ fsplit ! $ keep ! (2 ∷ 0 ∷ 3 ∷ []) $ done !

  abbrev pub with_cs : List (Option (el_x E)) → (Inside a E P).Denot
  with_cs ds = record { storage = with_slots x.storage ds; layout = x.layout }

  pub view_again : (ds : List (Option (el_x E))) → good a E P (with_cs ds) → ent 𝓤 (sep 𝓤 (sem 𝓛 (part_at (Rg a E) full_share (with_slots x.storage ds) rb (ro + 0))) (sep 𝓤 (sem 𝓛 (fseps (LayAt ∷ []))) Back)) (sem 𝓛 ((mem (Ar a E P)).own_at (view a E P (with_cs ds)) rb ro))
  unfolding fseps part_of
  view_again ds ok =
      let y : (Inside a E P).Denot = with_cs ds in
      qed 𝓛 (‵ (part_at (Rg a E) full_share y.storage rb (ro + 0)) ∷ ‵ (fsep LayAt ftrue) ∷ raw Back ∷ []) ∵
      use3 𝓛 (‵ (part_at (Inside a E P) full_share y rb ro)) (field_back 𝓛 full_share [] (ms a E P) (y.storage, (y.layout, tt)) rb ro 0) $
      by ! (Plain-in (Ar a E P) (Inside a E P) (view_owns (Inside a E P) (Grid (el_x E)) (Ar a E P).coded (view a E P) (good a E P)) 𝓛 full_share (view a E P y) y
      (view_made (Inside a E P) (Grid (el_x E)) (Ar a E P).coded (view a E P) (good a E P) 𝓛 (view a E P y) y (refl, ok)) rb ro)

module _ (a : RattleType) (E : El) (P : Dm) {M : Type 1} {𝓤 : Ura M} (𝓛 : Logic 𝓤) (κ : Lft) (inc : Incl κ a.lives) (q : Share) (rb ro : ℕ) (x : (Inside a E P).Denot) (d : Grid (el_x E)) (seen : view a E P x ≡ d) (ok : good a E P x) where
  open 𝓛 use {H, A}

  abbrev Ds : Type 0
  Ds = (ds : List (Option (el_x E))) × good a E P (with_cs a E P 𝓛 x rb ro ds)

  abbrev at : List (Option (el_x E)) → (Inside a E P).Denot
  at = with_cs a E P 𝓛 x rb ro

  abbrev pub same_lens : Grid (el_x E) → Grid (el_x E)
  same_lens g = grid d.lengths (refit d.cells g.cells)

  abbrev Whole : Grid (el_x E) → ℕ → ℕ → Ds → Fml
  Whole g c p z = fsep (feq (Grid (el_x E)) (view a E P (at z.0)) (same_lens g)) (part_at (Rg a E) full_share (with_slots x.storage z.0) c p)

  -- the region at any values of the places that the view needs
  abbrev Pin : SemTy
  Pin = record { rep = Grid (el_x E); coded = (Ar a E P).coded; size = 0; own_at = λ g c p. fex Ds (Whole g c p) }

  pin : ent 𝓤 (sem 𝓛 (part_at (Rg a E) full_share x.storage rb (ro + 0))) (sem 𝓛 (Pin.own_at d rb (ro + 0)))
  pin = qed 𝓛 (‵ (part_at (Rg a E) full_share x.storage rb (ro + 0)) ∷ []) ∵
      feq_i ! (Grid (el_x E)) (view a E P (at x.storage.slots)) (same_lens d) (seen ∙ ap (grid d.lengths) (sym (refit-all d.cells d.cells refl))) $ fjoin ! $ fpack ! Ds (Whole d rb (ro + 0)) (x.storage.slots, ok) $ done !

  unpin : (g : Grid (el_x E)) → ent 𝓤 (sep 𝓤 (sem 𝓛 (Pin.own_at g rb (ro + 0))) (sep 𝓤 (sem 𝓛 (fseps (LayAt a E P 𝓛 x rb ro ∷ []))) (Back a E P 𝓛 x rb ro))) (sem 𝓛 ((mem (Ar a E P)).own_at (same_lens g) rb ro))
  unpin g = qed 𝓛 (‵ (Pin.own_at g rb (ro + 0)) ∷ ‵ (fseps (LayAt a E P 𝓛 x rb ro ∷ [])) ∷ raw (Back a E P 𝓛 x rb ro) ∷ []) ∵ fpick ! (λ z. fsplit ! $ feq_l ! (λ e.
      use3 𝓛 (‵ ((mem (Ar a E P)).own_at (view a E P (at z.0)) rb ro)) (view_again a E P 𝓛 x rb ro z.0 z.1) $ rewrite ! 0 (λ (g' : Grid (el_x E)). ‵ ((mem (Ar a E P)).own_at g' rb ro)) e refl $ done !))

  abbrev values : Ds → List (el_x E) → Grid (el_x E)
  values z ws = view a E P (at (fill z.0 ws))

  reaches_again : (z : Ds) (ws : List (el_x E)) → good a E P (at (fill z.0 ws))
  reaches_again z ws = still_reaches ⊤ z.0 ws _ _ _ z.1

  as_many_cells : (z : Ds) (ws : List (el_x E)) → length (values z ws).cells ≡ length d.cells
  as_many_cells z ws = length-cells_at _ _ _ _ (reaches_again z ws) ∙ (sym (length-cells_at _ _ _ _ ok) ∙ ap (λ (g : Grid (el_x E)). length g.cells) seen)

  repin : (z : Ds) (ws : List (el_x E)) → ent 𝓤 (sep 𝓤 (sem 𝓛 ((Pinned a E P (at z.0).storage).own_at ws rb (ro + 0))) (emp 𝓤)) (sem 𝓛 (Pin.own_at (values z ws) rb (ro + 0)))
  repin z ws = qed 𝓛 (‵ (part_at (Rg a E) full_share (with_slots x.storage (fill z.0 ws)) rb (ro + 0)) ∷ raw (emp 𝓤) ∷ []) ∵ keep ! (0 ∷ []) $
      feq_i ! (Grid (el_x E)) (values z ws) (same_lens (values z ws)) (ap (λ (ns : List ℕ). grid ns (values z ws).cells) (ap (λ (g : Grid (el_x E)). g.lengths) seen) ∙ ap (grid d.lengths) (sym (refit-all d.cells (values z ws).cells (as_many_cells z ws)))) $ fjoin ! $
      fpack ! Ds (Whole (values z ws) rb (ro + 0)) (fill z.0 ws, reaches_again z ws) $ done !

  cut_pin : (z : Ds) (μ : GName) {b o : ℕ} (here : x.storage.shared.ptr ≡ block_ptr b o) → ent 𝓤 (sem 𝓛 ((Pinned a E P (with_slots x.storage z.0)).own_at (somes z.0) rb (ro + 0))) (Has a E 𝓛 κ inc q rb (ro + 0) μ (with_slots x.storage z.0) b o here (somes z.0))
  cut_pin z μ {b} {o} here = qed 𝓛 (‵ (part_at (Rg a E) full_share (with_slots x.storage (fill z.0 (somes z.0))) rb (ro + 0)) ∷ []) ∵
      rewrite ! 0 (λ (ds : List (Option (el_x E))). ‵ (part_at (Rg a E) full_share (with_slots x.storage ds) rb (ro + 0))) (fill_same z.0) refl $ by ! (cut a E 𝓛 κ inc q rb (ro + 0) μ (with_slots x.storage z.0) b o here)

  module _ (γ : GName) (b o : ℕ) (here : x.storage.shared.ptr ≡ block_ptr b o) where
    abbrev pub Got : Type 0
    Got = (ν : GName) × ((ν' : GName) × ((z : Ds) × ((view a E P (at z.0) ≡ d) × (length z.0 * (mem (R E)).size < 2 ^ 63))))

    abbrev pub Opened : Got → SProp 𝓤
    Opened g = sep 𝓤 (A.obs g.1.0 ((ScatteredElements (R E) g.1.1.0.0).coded.code (somes g.1.1.0.0))) (sep 𝓤 (A.bor κ (Borrowed (ScatteredElements (R E) g.1.1.0.0) b o g.1.0)) (sep 𝓤 (A.lft κ q) (sep 𝓤 (sem 𝓛 (follows (Ar a E P) (Ar a E P) γ g.0 same_lens)) (A.bor κ (LayAt a E P 𝓛 x rb ro)))))

    pub opens : ent 𝓤 (sep 𝓤 (A.obor κ q (Borrowed (mem (Ar a E P)) rb ro γ)) (sep 𝓤 (A.obs γ ((Ar a E P).coded.code d)) (sep 𝓤 (A.auth γ ((Ar a E P).coded.code d)) (sep 𝓤 (sem 𝓛 (part_at (Rg a E) full_share x.storage rb (ro + 0))) (sep 𝓤 (sem 𝓛 (LayAt a E P 𝓛 x rb ro)) (Back a E P 𝓛 x rb ro))))))
        (H.⇛ (ex 𝓤 Opened))
    unfolding fseps
    opens =
        let code = (Ar a E P).coded.code d in
        qed 𝓛 (‵ (fobor κ q (Borrowed (mem (Ar a E P)) rb ro γ)) ∷ ‵ (fobs γ code) ∷ ‵ (fauth γ code) ∷ ‵ (part_at (Rg a E) full_share x.storage rb (ro + 0)) ∷ ‵ (LayAt a E P 𝓛 x rb ro) ∷ raw (Back a E P 𝓛 x rb ro) ∷ []) ∵ updating ! $
        nothing ! $ move ! (5 ∷ 0 ∷ []) $ fjoin ! $ move ! (4 ∷ []) $ use1 𝓛 (‵ (Pin.own_at d rb (ro + 0))) pin $ move ! (2 ∷ 3 ∷ 4 ∷ 0 ∷ 1 ∷ 5 ∷ []) $ group ! 6 $
        use1 𝓛 (later (some (λ (ν : GName). ‵ (fobs ν (Pin.coded.code d)) ⊛ ‵ (fbor κ (Borrowed Pin rb (ro + 0) ν)) ⊛ ‵ (flft κ q) ⊛ ‵ (after (mem (Ar a E P)) Pin γ ν same_lens) ⊛ ‵ (fbor κ (LayAt a E P 𝓛 x rb ro)) ⊛ ‵ ftrue)))
        (takes_beside 𝓛 (mem (Ar a E P)) Pin same_lens κ q rb ro rb (ro + 0) γ (LayAt a E P 𝓛 x rb ro ∷ []) (Back a E P 𝓛 x rb ro) unpin code code d) $ await ! tt $ pick ! (λ ν.
        split3 ! $ move ! (2 ∷ []) $ split3 ! $ move ! (2 ∷ []) $ split ! $
        -- [the layout; nothing; the token; what follows; obs; the loan]
        move ! (4 ∷ 5 ∷ 2 ∷ []) $ open_ref ! tt Pin {x = d} {b = rb} {o = ro + 0} $ fpick ! (λ z. fsplit ! $ feq_l ! (λ e.
        let rd : (Rg a E).Denot = with_slots x.storage z.0 in
        use1 𝓛 (‵ (part_at (Words a E) full_share (rd.shared, (tt, tt)) rb (ro + 0)) ⊛ ‵ (region_owns a.lives (R E) rd.shared.ptr rd.name z.0)) (part_out 𝓛 (G-type.the_type a (R E)) full_share rd rb (ro + 0)) $ split ! $ move ! (1 ∷ []) $
        rewrite ! 0 (λ (p : Ptr). ‵ (region_owns a.lives (R E) p rd.name z.0)) here refl $ fsplit ! $ flt_l ! (λ small. flt_i ! (length z.0 * (mem (R E)).size) (2 ^ 63) small $ fjoin ! $
        rewrite ! 0 (λ (p : Ptr). ‵ (region_owns a.lives (R E) p rd.name z.0)) (sym here) refl $ move ! (1 ∷ 0 ∷ []) $
        use2 𝓛 (‵ (part_at (Rg a E) full_share rd rb (ro + 0))) (part_in 𝓛 (G-type.the_type a (R E)) full_share rd rb (ro + 0)) $
        rewrite ! 0 (λ (ds : List (Option (el_x E))). ‵ (part_at (Rg a E) full_share (with_slots x.storage ds) rb (ro + 0))) (sym (fill_same z.0)) refl $
        -- [the region; the open loan; obs; auth]
        use0 𝓛 (raw (emp 𝓤)) (id⊢ 𝓤 (emp 𝓤)) $ move ! (2 ∷ 3 ∷ 4 ∷ 1 ∷ 0 ∷ []) $ group ! 5 $
        use1 𝓛 (later (some (λ (μ : GName). ‵ (fobs μ ((Pinned a E P rd).coded.code (somes z.0))) ⊛ ‵ (fbor κ (Borrowed (Pinned a E P rd) rb (ro + 0) μ)) ⊛ ‵ (flft κ q) ⊛ ‵ (after Pin (Pinned a E P rd) ν μ (values z)))))
        (takes_part 𝓛 Pin (Pinned a E P rd) (values z) κ q rb (ro + 0) rb (ro + 0) ν (emp 𝓤) (repin z) code code (somes z.0)) $ await ! tt $ pick ! (λ μ. split3 ! $ move ! (2 ∷ []) $ split ! $ move ! (2 ∷ 3 ∷ 0 ∷ []) $ group ! 3 $
        use1 𝓛 (later (some (λ (ν' : GName). ‵ (fobs ν' ((ScatteredElements (R E) z.0).coded.code (somes z.0))) ⊛ ‵ (fbor κ (Borrowed (ScatteredElements (R E) z.0) b o ν')) ⊛ ‵ (flft κ q) ⊛ ‵ (after (Pinned a E P rd) (ScatteredElements (R E) z.0) μ ν' (λ ws. ws)))))
        (hands_through 𝓛 (Pinned a E P rd) (ScatteredElements (R E) z.0) (λ ws. ws) κ a.lives inc rb (ro + 0) b o μ rd.name (sem 𝓛 (Rest a E 𝓛 κ inc q rb (ro + 0) μ rd b o here)) (λ ws. length ws ≡ length (somes z.0)) (λ ws. as_many E 𝓛 b z.0 ws o) (back a E 𝓛 κ inc q rb (ro + 0) μ rd b o here) q (somes z.0) (somes z.0) (cut_pin z μ here)) $ await ! tt $ pick ! (λ ν'.
        split3 ! $ move ! (2 ∷ []) $ split ! $
        -- [the token; what follows; obs; the loan; what follows; the layout; nothing; what follows first]
        now ! $ show ! Opened (ν, (ν', (z, (e ∙ ap (grid d.lengths) (refit-all d.cells d.cells refl), small)))) $ keep ! (2 ∷ 3 ∷ 0 ∷ 7 ∷ 5 ∷ []) $ done !))))))
