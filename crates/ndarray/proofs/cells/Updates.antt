-- Answers that are written over the cells that they were computed from.
use Rattle.std.proofs.Common.{◌≡◌, ◌≢◌, ℕ, List, [], ◌∷◌, ◌++◌, length, map, drop, Option, Some, Result, Ok, Err, inl, inr, refl, sym, subst, ap, ◌∙◌, arith, append-nil, append_assoc, length-append}
use Rattle.std.specs.Prelude.{All, IsTrue, filter_map, ⊤}
use Rattle.std.specs.Option.{is_some}
use Rattle.std.specs.List.{FoldsTo}
use Rattle.std.proofs.Math.Seq.{get_or-append_seam, drop-append_seam}
use Rattle.std.proofs.lemmas.List.{get_or_append_left, map-append, drop-map, length-map}
use Rattle.ndarray.specs.Index.{InBox}
use Rattle.ndarray.specs.Grid.{Grid, IsGrid, cell}
use Rattle.ndarray.specs.Orders.{box_in, cells_in}
use Rattle.ndarray.specs.Producers.{both}
use Rattle.ndarray.specs.Runs.{MayTurnAt, TurnAt, TakesAt, StopsAt, GatherTurn, MayGather}
use Rattle.ndarray.specs.Updates.{answers, is_cell_beside, UpdatesUntil}
use Rattle.ndarray.specs.Writes.{with_cell}
use Rattle.ndarray.specs.base.Places.{place, Reaches, grid_at}
use Rattle.ndarray.specs.base.Overwrites.{IsWritten, WriteTurn, WriteStop, MayWrite, WritesUntil}
use Rattle.ndarray.specs.declared.base.shape.Order.{Order}
use Rattle.ndarray.proofs.cells.Assignments.{here-within, here-first}
use Rattle.ndarray.proofs.cells.Cells.{cells_in-HasInOrder}
use Rattle.ndarray.proofs.boxes.Orders.{box_in-is}
use Rattle.ndarray.proofs.lists.Elements.{filter_map-from_map, map-same}
use Rattle.ndarray.proofs.cells.Writes.{with_cell-here, with_cell-elsewhere, grid-written, Reaches-written}
use Rattle.ndarray.proofs.runs.Turns.{ran-Ok}
use Rattle.ndarray.proofs.strides.Reach.{cell-at, length-cells_at}

front-of : (done : List (List ℕ)) (js ls : List ℕ) → All (λ ks. ks ≢ ls) (done ++ (js ∷ [])) → All (λ ks. ks ≢ ls) done
front-of done js ls apart = λ k d lt e. apart k d (omega (arith, length-append done (js ∷ []))) (get_or_append_left done (js ∷ []) d k lt ∙ e)

last-of : (done : List (List ℕ)) (js ls : List ℕ) → All (λ ks. ks ≢ ls) (done ++ (js ∷ [])) → js ≢ ls
last-of done js ls apart = λ e. apart (length done) [] (omega (arith, length-append done (js ∷ []))) (get_or-append_seam done js [] [] ∙ e)

module _ {A : Type 0} (o : Order) (old g : Grid A) where
  -- where only cells done were written, those still to come are the old ones
  kept-behind : (done rest : List (List ℕ)) → done ++ rest ≡ box_in o old.lengths → ((js : List ℕ) → All (λ ks. ks ≢ js) done → cell g js ≡ cell old js) → map (cell g) rest ≡ map (cell old) rest
  kept-behind done [] parts kept = refl
  kept-behind done (i ∷ rest) parts kept =
      let here : cell g i ≡ cell old i = kept i (here-first o old.lengths done i rest parts) in
      let later = kept-behind (done ++ (i ∷ [])) rest (append_assoc done (i ∷ []) rest ∙ parts) (λ js apart. kept js (front-of done i js apart)) in
      ap (λ c. c ∷ map (cell g) rest) here ∙ ap (λ l. cell old i ∷ l) later

  -- so the cells along the box are the written ones, and the old ones behind them
  overwritten : (done rest : List (List ℕ)) (answers : List A) → done ++ rest ≡ box_in o old.lengths → IsGrid old → g.lengths ≡ old.lengths
      → ((js : List ℕ) → All (λ ks. ks ≢ js) done → cell g js ≡ cell old js) → map (cell g) done ≡ map Some answers
      → cells_in o g ≡ answers ++ drop (length answers) (cells_in o old)
  overwritten done rest answers parts whole lengths kept cells =
      let box = box_in o old.lengths in
      let xs = cells_in o old in
      let many : length (map (cell old) done) ≡ length answers = length-map done (cell old) ∙ (sym (length-map done (cell g)) ∙ (ap length cells ∙ length-map answers Some)) in
      let olds : map (cell old) done ++ map (cell old) rest ≡ map Some xs = sym (map-append (cell old) done rest) ∙ (ap (map (cell old)) parts ∙ cells_in-HasInOrder o old whole box (box_in-is o old.lengths)) in
      let behind : map (cell old) rest ≡ map Some (drop (length answers) xs) =
      sym (drop-append_seam (map (cell old) done) (map (cell old) rest)) ∙ (ap (λ n. drop n (map (cell old) done ++ map (cell old) rest)) many ∙ (ap (drop (length answers)) olds ∙ drop-map Some (length answers) xs)) in
      let along : map (cell g) box ≡ map Some (answers ++ drop (length answers) xs) =
      ap (map (cell g)) (sym parts) ∙ (map-append (cell g) done rest ∙ (ap (λ l. l ++ map (cell g) rest) cells ∙ (ap (λ l. map Some answers ++ l) (kept-behind done rest parts kept ∙ behind) ∙ sym (map-append Some answers (drop (length answers) xs))))) in
      ap (λ ns. filter_map (cell g) (box_in o ns)) lengths ∙ filter_map-from_map (cell g) box (answers ++ drop (length answers) xs) along

-- Turns that call at the element at a place and an item there, and write the answer. The state is the storage and the closure.
module _ {S F A X E : Type 0} (at : S → ℕ → Option A) (call_gives : F → A × X → Result A E → F → Type 0)
    (yields_at : List ℕ → X → Type 0) (o : Order) (ns : List ℕ) (start : ℕ) (bs : List ℕ) (storage : S) (closure : F) (reaches : Reaches ⊤ (at storage) ns start bs) where
  abbrev first : S × F
  first = (storage, closure)

  abbrev Turn : S × F → X × ℕ → S × F → Type 0
  Turn = WriteTurn {E = E} at call_gives

  abbrev Stop : S × F → X × ℕ → S × E → Type 0
  Stop = WriteStop at call_gives

  abbrev item_at : List ℕ → X × ℕ → Type 0
  item_at = both yields_at (λ i p. p ≡ place start bs i)

  abbrev array : S → Grid A
  array s = grid_at (at s) ns start bs

  abbrev Gather : F × List A → A × X → F × List A → Type 0
  Gather = GatherTurn (answers call_gives)

  -- The index lists done have their answers as cells, and all others have the old ones.
  record Updated (done : List (List ℕ)) (s : S × F) (given : List A) : Type 0 where
    reach : Reaches ⊤ (at s.0) ns start bs
    cells : map (cell (array s.0)) done ≡ map Some given
    kept : (js : List ℕ) → All (λ ks. ks ≢ js) done → cell (array s.0) js ≡ cell (array storage) js

  begun : Updated [] first []
  begun = record { reach = reaches; cells = refl; kept = λ js a. refl }

  -- the element at the place of an index list to come is the old cell
  module _ (done : List (List ℕ)) (i : List ℕ) (rest : List (List ℕ)) (parts : done ++ (i ∷ rest) ≡ box_in o ns) (s : S × F) (given : List A) (u : Updated done s given) (z : X × ℕ) (stands : item_at i z) where
    within : InBox ns i
    within = here-within o ns done i rest parts

    there : IsTrue (is_some (at s.0 z.1))
    there = subst (λ p. IsTrue (is_some (at s.0 p))) (sym stands.1) (u.reach.inside i within)

    old-cell : (a : A) → at s.0 z.1 ≡ Some a → is_cell_beside (array storage) yields_at i (a, z.0)
    old-cell a e = (sym (u.kept i (here-first o ns done i rest parts)) ∙ (cell-at (at s.0) ns start bs u.reach i within ∙ (ap (at s.0) (sym stands.1) ∙ e)), stands.0)

    next-updated : (t : S × F) (r : A) → IsWritten (at s.0) (at t.0) z.1 r → Updated (done ++ (i ∷ [])) t (given ++ (r ∷ []))
    next-updated t r w =
        let here : at t.0 (place start bs i) ≡ Some r = subst (λ p. at t.0 p ≡ Some r) stands.1 w.0 in
        let others : (p : ℕ) → p ≢ place start bs i → at t.0 p ≡ at s.0 p = λ p ne. w.1 p (λ e. ne (e ∙ stands.1)) in
        let new : array t.0 ≡ with_cell (array s.0) i r = grid-written (at s.0) (at t.0) ns start bs u.reach tt i within r here others (array s.0) refl in
        let whole = length-cells_at (at s.0) ns start bs u.reach in
        let own : cell (array t.0) i ≡ Some r = ap (λ v. cell v i) new ∙ with_cell-here (array s.0) i r whole within in
        let apart : (l : List ℕ) → l ≢ i → cell (array t.0) l ≡ cell (array s.0) l = λ l ne. ap (λ v. cell v l) new ∙ with_cell-elsewhere (array s.0) i l r ne in
        let before : map (cell (array t.0)) done ≡ map (cell (array s.0)) done = map-same (cell (array t.0)) (cell (array s.0)) (λ l. l ≢ i) done apart (here-first o ns done i rest parts) in
        record {
          reach = Reaches-written (at s.0) (at t.0) ns start bs u.reach tt i within r here others;
          cells = map-append (cell (array t.0)) done (i ∷ []) ∙ (ap (λ l. l ++ map (cell (array t.0)) (i ∷ [])) (before ∙ u.cells) ∙ (ap (λ c. map Some given ++ (c ∷ [])) own ∙ sym (map-append Some given (r ∷ []))));
          kept = λ ls ne. apart ls (λ q. last-of done i ls ne (sym q)) ∙ u.kept ls (front-of done i ls ne);
        }

  -- turns at some index lists gave some more answers
  record Gone (done is : List (List ℕ)) (s t : S × F) (given : List A) : Type 0 where
    more : List A
    turns : FoldsTo {P = F × List A} (TurnAt (is_cell_beside (array storage) yields_at) Gather) (s.1, given) is (t.1, more)
    updated : Updated (done ++ is) t more

  gone : (is done rest : List (List ℕ)) → done ++ (is ++ rest) ≡ box_in o ns → (s t : S × F) (given : List A) → Updated done s given → FoldsTo (TurnAt item_at Turn) s is t → Gone done is s t given
  gone [] done rest parts s t given u f = record {
    more = given;
    turns = ap (λ q. (q.1, given)) f;
    updated = subst (λ l. Updated l t given) (sym (append-nil done)) (subst (λ q. Updated done q given) f u);
  }
  gone (i ∷ is) done rest parts s t given u f =
      let (m, (z, stands, (a, r, there, called, written)), g) = f in
      let v = next-updated done i (is ++ rest) parts s given u z stands m r written in
      let k = gone is (done ++ (i ∷ [])) rest (append_assoc done (i ∷ []) (is ++ rest) ∙ parts) m t (given ++ (r ∷ [])) v g in
      record {
        more = k.more;
        turns = ((m.1, given ++ (r ∷ [])), ((a, z.0), old-cell done i (is ++ rest) parts s given u z stands a there, (r, refl, called)), k.turns);
        updated = subst (λ l. Updated l t k.more) (append_assoc done (i ∷ []) is) k.updated;
      }

  from-start : (is rest : List (List ℕ)) → is ++ rest ≡ box_in o ns → (t : S × F) → FoldsTo (TurnAt item_at Turn) first is t → Gone [] is first t []
  from-start is rest parts t f = gone is [] rest parts first t [] begun f

  -- where the closure may be called at each old cell, each turn may be taken
  pub may-update : (can_call : F → A × X → Type 0) → MayGather (is_cell_beside (array storage) yields_at) (answers call_gives) can_call (box_in o ns) closure
      → MayTurnAt (TurnAt item_at Turn) (TakesAt item_at (MayWrite at can_call)) first (box_in o ns)
  may-update can_call m = record {
    at = λ done i rest s parts f z stands.
        let k = from-start done (i ∷ rest) parts s f in
        (there done i rest parts s k.more k.updated z stands, λ a e. m.at done i rest (s.1, k.more) parts k.turns (a, z.0) (old-cell done i rest parts s k.more k.updated z stands a e));
  }

  -- and then the cells are updated
  pub updated-cells : (t : S) (r : Result (Unit {0}) E) → WritesUntil at call_gives item_at (box_in o ns) closure storage t r
      → UpdatesUntil (is_cell_beside (array storage) yields_at) call_gives o closure (array storage) r (array t) × Reaches ⊤ (at t) ns start bs
  updated-cells t (Ok u) (h, ran) =
      let k = from-start (box_in o ns) [] (append-nil (box_in o ns)) (t, h) (ran-Ok (TurnAt item_at Turn) (StopsAt item_at Stop) first (t, h) (box_in o ns) ran) in (
        record {
          lengths = refl;
          ran = (box_in o ns, (h, k.more), k.turns, inl (refl, (refl, filter_map-from_map (cell (array t)) (box_in o ns) k.more k.updated.cells)));
        },
        k.updated.reach,
      )
  updated-cells t (Err err) ran =
      let (done, s, f, how) = ran in
      elim how [
        | inl h ↦ (let never = h.1 in cc)
        | inr h ↦
            (let (i, rest, parts, stop) = h in
            let (q, same, (z, stands, (a, h', there', called, left))) = stop in
            let here : t ≡ q.0 = cc in
            let one : err ≡ q.1 = cc in
            let k = from-start done (i ∷ rest) parts s f in
            let same_elements : at t ≡ at s.0 = ap at here ∙ left in
            let new : array t ≡ array s.0 = ap (λ e. grid_at e ns start bs) same_elements in (
              record {
                lengths = refl;
                ran = (
                  done,
                  (s.1, k.more),
                  k.turns,
                  inr (
                    i,
                    rest,
                    parts,
                    (
                      (a, z.0),
                      old-cell done i rest parts s k.more k.updated z stands a there',
                      (
                        err,
                        h',
                        refl,
                        subst (λ e. call_gives s.1 (a, z.0) (Err e) h') (sym one) called,
                        ap (cells_in o) new
                            ∙ overwritten o (array storage) (array s.0) done (i ∷ rest) k.more parts (length-cells_at (at storage) ns start bs reaches) refl k.updated.kept k.updated.cells,
                      ),
                    ),
                  ),
                );
              },
              subst (λ e. Reaches ⊤ e ns start bs) (sym same_elements) k.updated.reach,
            ))
      ]
