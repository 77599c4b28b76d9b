-- Scans of the elements at some places, and of the lane whose cells lie there.
use Rattle.std.proofs.Common.{◌≡◌, ◌≢◌, ◌+◌, ◌<◌, ℕ, List, [], ◌∷◌, ◌++◌, Option, Some, length, get_or, filter_map, set, refl, sym, ◌∙◌, ap, subst, arith, inl, inr, append_assoc, length-append}
use Rattle.std.specs.Prelude.{All, Contains, IsTrue, slice_get}
use Rattle.std.specs.Option.{is_some}
use Rattle.std.proofs.Math.Seq.{get_or-append_seam}
use Rattle.std.proofs.lemmas.Bool.{cases_eq}
use Rattle.std.proofs.lemmas.Grind.{get_or_default_zero}
use Rattle.std.proofs.lemmas.List.{length-set}
use Rattle.ndarray.specs.Scans.{MayScan, ScansTo}
use Rattle.ndarray.specs.base.Laws.{slice_set-here, slice_set-elsewhere}
use Rattle.ndarray.specs.places.ElementPlaces.{AreDistinctPlaces}
use Rattle.ndarray.proofs.cells.Scans.{Along, Along-asks, Along-end, Along-next, Along-start}
use Rattle.ndarray.proofs.lists.Elements.{filled-slice, length-filter_map_all, same_from_slice_get, slice_get-filter_map_all, some-of}
use Rattle.ndarray.proofs.lists.Pairs.{AllPairs-once}

module _ {A B : Type 0} (gives : B → A → B × A → Type 0) (init : B) (ps : List ℕ) (old : ℕ → Option A) where
  -- the places done are scanned, and the value is v
  pub record PlacesState (to_come : List ℕ) (v : B) (now : ℕ → Option A) : Type 0 where
    pub done : List ℕ
    pub parts : done ++ to_come ≡ ps
    pub along : Along gives init (filter_map old ps) v (filter_map now ps) (length done)
    pub held : All (λ p. (x : A) × (now p ≡ Some x)) ps
    pub kept : (p : ℕ) → (Contains ps p → ⊥) → now p ≡ old p

  module _ (distinct : AreDistinctPlaces old ps) where
    pub Places-start : PlacesState ps init old
    Places-start = record {
      done = [];
      parts = refl;
      along = Along-start gives init (filter_map old ps);
      held = λ j d lt. some-of (old (get_or ps j d)) (distinct.held j d lt);
      kept = λ p no. refl;
    }

    module _ {to_come rest : List ℕ} {v : B} {now : ℕ → Option A} {p : ℕ} (s : PlacesState to_come v now) (next : to_come ≡ p ∷ rest) where
      parts-now : s.done ++ (p ∷ rest) ≡ ps
      parts-now = ap (λ l. s.done ++ l) (sym next) ∙ s.parts

      within : length s.done < length ps
      within = let l = length-append s.done (p ∷ rest) in let e = ap length parts-now in omega (arith, l, e)

      own : (d : ℕ) → get_or ps (length s.done) d ≡ p
      own d = ap (λ l. get_or l (length s.done) d) (sym parts-now) ∙ get_or-append_seam s.done p rest d

      pub Places-there : IsTrue (is_some (now p))
      Places-there = let (x, e) = s.held (length s.done) 0 within in subst (λ o. IsTrue (is_some o)) (sym e ∙ ap now (own 0)) refl

      module _ (x : A) (there : now p ≡ Some x) where
        here : slice_get (filter_map now ps) (length s.done) ≡ Some x
        here = slice_get-filter_map_all now ps (length s.done) 0 s.held within ∙ (ap now (own 0) ∙ there)

        pub Places-callable : (can : B → A → Type 0) → MayScan gives can init (filter_map old ps) → can v x
        Places-callable can may = Along-asks gives init s.along here can may

        pub Places-next : (w : B) (y : A) (new : ℕ → Option A) → gives v x (w, y) → new p ≡ Some y → ((q : ℕ) → q ≢ p → new q ≡ now q) → PlacesState rest w new
        Places-next w y new given written others =
            let i : ℕ = length s.done in
            let held : All (λ q. (z : A) × (new q ≡ Some z)) ps = λ j d lt. elim (cases_eq (get_or ps j d) p) [
              | inl e ↦ (y, ap new e ∙ written)
              | inr ne ↦ (let (z, f) = s.held j d lt in (z, others (get_or ps j d) ne ∙ f))
            ] in
            let now-long = length-filter_map_all now ps s.held in
            let new-long = length-filter_map_all new ps held in
            let set-long = length-set (filter_map now ps) i y in
            let within-now = within in
            let replaced : filter_map new ps ≡ set (filter_map now ps) i y = same_from_slice_get (filter_map new ps) (set (filter_map now ps) i y) (new-long ∙ (sym now-long ∙ sym set-long))
            (λ j at.
            let lt : j < length ps = omega (arith, at, new-long) in
            slice_get-filter_map_all new ps j 0 held lt
            ∙ elim (cases_eq j i) [
              | inl e ↦ ap new (ap (λ k. get_or ps k 0) e ∙ own 0)
                  ∙ (written ∙ (sym (slice_set-here (filter_map now ps) i y (filled-slice (filter_map now ps) i (omega (arith, within-now, now-long)))) ∙ ap (slice_get (set (filter_map now ps) i y)) (sym e)))
              | inr ne ↦ others (get_or ps j 0) (λ e. ne (AllPairs-once (λ a b. a ≡ b → ⊥) (λ a no. no refl) ps j i p distinct.once lt within (get_or_default_zero ps j p lt ∙ e) (own p)))
                  ∙ (sym (slice_get-filter_map_all now ps j 0 s.held lt) ∙ sym (slice_set-elsewhere (filter_map now ps) i j y ne))
            ]) in
            let more = length-append s.done (p ∷ []) in
            let many : length (s.done ++ (p ∷ [])) ≡ i + 1 = omega (arith, more) in
            record {
              done = s.done ++ (p ∷ []);
              parts = append_assoc s.done (p ∷ []) rest ∙ parts-now;
              along = subst (Along gives init (filter_map old ps) w (filter_map new ps)) (sym many) (subst (λ cells. Along gives init (filter_map old ps) w cells (i + 1)) (sym replaced) (Along-next gives init s.along here w y given));
              held = held;
              kept = λ q no. others q (λ e. no (i, within, own q ∙ sym e)) ∙ s.kept q no;
            }

    pub Places-end : {v : B} {now : ℕ → Option A} → PlacesState [] v now → ScansTo gives init (filter_map old ps) (filter_map now ps)
    Places-end {v} {now} s =
        let long = length-filter_map_all now ps s.held in
        let l = length-append s.done [] in
        let e = ap length s.parts in
        Along-end gives init s.along (omega (arith, long, l, e))

    pub Places-distinct : {to_come : List ℕ} {v : B} {now : ℕ → Option A} → PlacesState to_come v now → AreDistinctPlaces now ps
    Places-distinct s = record {
      held = λ j d lt. let (x, e) = s.held j d lt in subst (λ o. IsTrue (is_some o)) (sym e) refl;
      once = distinct.once;
    }
