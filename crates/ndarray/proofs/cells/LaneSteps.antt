-- Steps of scans at some places, or at the cells that lie there.
use Rattle.std.proofs.Common.{◌≡◌, ◌≢◌, ◌+◌, ◌<◌, ◌≤◌, ℕ, zero, suc, List, [], ◌∷◌, ◌⊎◌, Option, Some, length, get_or, drop, set, refl, sym, ◌∙◌, ap, subst, arith, inl, inr}
use Rattle.std.specs.Prelude.{All, AllPairs, Contains, IsTrue, slice_get}
use Rattle.std.specs.Option.{is_some, option_map}
use Rattle.std.proofs.lemmas.Bool.{cases_eq, cases_lt}
use Rattle.std.proofs.lemmas.List.{length-map, length-set}
use Rattle.std.proofs.lemmas.List.Elements.{All-map}
use Rattle.std.proofs.lemmas.Option.{get_or_from_slice_get, slice_get-get_or, slice_get-map, slice_get_within}
use Rattle.ndarray.specs.Grid.{Grid, cell}
use Rattle.ndarray.specs.Index.{InBox}
use Rattle.ndarray.specs.base.LaneScans.{MayStepEach, StepsEach}
use Rattle.ndarray.specs.base.Laws.{slice_set-here, slice_set-elsewhere}
use Rattle.ndarray.specs.base.Places.{Reaches, grid_at, place}
use Rattle.ndarray.specs.places.ElementPlaces.{AreDistinctPlaces, places_along}
use Rattle.ndarray.proofs.cells.Cells.{cell-outside}
use Rattle.ndarray.proofs.lists.Elements.{filled-slice, slice_get-Some}
use Rattle.ndarray.proofs.lists.Pairs.{AllPairs-map, AllPairs-once}
use Rattle.ndarray.proofs.lists.Parts.{Contains-map_back, Contains-or_not, slice_get-map_back}
use Rattle.ndarray.proofs.strides.NestedPlaces.{Reaches-apart}
use Rattle.ndarray.proofs.strides.Reach.{cell-at}

pub InBox-or_not : (ns is : List ℕ) → InBox ns is ⊎ (InBox ns is → ⊥)
InBox-or_not [] [] = inl tt
InBox-or_not [] (i ∷ is) = inr (λ h. h)
InBox-or_not (n ∷ ns) [] = inr (λ h. h)
InBox-or_not (n ∷ ns) (i ∷ is) = elim (cases_lt i n) [
  | inl lt ↦ elim (InBox-or_not ns is) [
    | inl b ↦ inl (lt, b)
    | inr other ↦ inr (λ h. other h.1)
  ]
  | inr ge ↦ inr (λ h. let lt = h.0 in absurd (omega (arith, ge, lt)))
]

-- steps at places, one after another
module _ {A B : Type 0} (gives : B → A → B × A → Type 0) (ps : List ℕ) (before : List B) (old : ℕ → Option A) where
  -- those before t are made, and those at `to_come` not
  pub record StepsState (to_come : List ℕ) (values : List B) (now : ℕ → Option A) (t : ℕ) : Type 0 where
    pub rest : to_come ≡ drop t ps
    pub many : length values ≡ length before
    pub done : (j p : ℕ) (b : B) → j < t → slice_get ps j ≡ Some p → slice_get before j ≡ Some b → (x : A) × (y : A) × (c : B) × (old p ≡ Some x) × (now p ≡ Some y) × (slice_get values j ≡ Some c) × gives b x (c, y)
    pub left : (j : ℕ) → t ≤ j → slice_get values j ≡ slice_get before j
    pub kept : (p : ℕ) → ((j : ℕ) → j < t → slice_get ps j ≡ Some p → ⊥) → now p ≡ old p

  pub Steps-start : StepsState ps before old 0
  Steps-start = record { rest = refl; many = refl; done = λ j p b less ep eb. absurd (omega (arith, less)); left = λ j le. refl; kept = λ p no. refl }

  module _ (distinct : AreDistinctPlaces old ps) (all : length ps ≡ length before) {to_come rest : List ℕ} {values : List B} {now : ℕ → Option A} {t p : ℕ} (s : StepsState to_come values now t) (next : to_come ≡ p ∷ rest) where
    first-of : (t : ℕ) (qs : List ℕ) → p ∷ rest ≡ drop t qs → (slice_get qs t ≡ Some p) × (rest ≡ drop (t + 1) qs)
    first-of zero [] e = let none : ⊥ = cc in absurd none
    first-of zero (q ∷ qs) e = let p' : p ≡ q = cc in let r' : rest ≡ qs = cc in (ap Some (sym p'), r')
    first-of (suc t) [] e = let none : ⊥ = cc in absurd none
    first-of (suc t) (q ∷ qs) e = let (a, b) = first-of t qs e in (a, b ∙ ap (λ m. drop m (q ∷ qs)) (let m : suc (t + 1) ≡ suc t + 1 = omega arith in m))

    pub Steps-at : slice_get ps t ≡ Some p
    Steps-at = (first-of t ps (sym next ∙ s.rest)).0

    -- no step before was made at this place
    once : (j : ℕ) → j < t → slice_get ps j ≡ Some p → ⊥
    once j less e =
        let a = slice_get_within ps j p e in
        let b = slice_get_within ps t p Steps-at in
        let same : j ≡ t = AllPairs-once (λ q r. q ≡ r → ⊥) (λ q ne. ne refl) ps j t p distinct.once a b (get_or_from_slice_get ps j p p e) (get_or_from_slice_get ps t p p Steps-at) in
        omega (arith, less, same)

    pub Steps-old : now p ≡ old p
    Steps-old = s.kept p once

    pub Steps-there : IsTrue (is_some (now p))
    Steps-there = subst (λ o. IsTrue (is_some o)) (sym Steps-old) (subst (λ q. IsTrue (is_some (old q))) (get_or_from_slice_get ps t p p Steps-at) (distinct.held t p (slice_get_within ps t p Steps-at)))

    module _ (v : B) (value : slice_get values t ≡ Some v) (x : A) (there : now p ≡ Some x) where
      pub Steps-callable : (can : B → A → Type 0) → MayStepEach can ps before old → can v x
      Steps-callable can may = may.each t p v x Steps-at (sym (s.left t (omega arith)) ∙ value) (sym Steps-old ∙ there)

      pub Steps-next : (c : B) (y : A) (new : ℕ → Option A) → gives v x (c, y) → new p ≡ Some y → ((q : ℕ) → q ≢ p → new q ≡ now q) → StepsState rest (set values t c) new (t + 1)
      Steps-next c y new given here others =
          let within = slice_get_within values t v value in
          let long = length-set values t c in
          let many = s.many in
          record {
            rest = (first-of t ps (sym next ∙ s.rest)).1;
            many = long ∙ many;
            done = λ j q b less eq eb. elim (cases_eq j t) [
              | inl e ↦ (
                  let own : Some p ≡ Some q = sym Steps-at ∙ (ap (slice_get ps) (sym e) ∙ eq) in
                  let is : p ≡ q = cc in
                  let was : Some v ≡ Some b = sym value ∙ (s.left t (omega arith) ∙ (ap (slice_get before) (sym e) ∙ eb)) in
                  let is' : v ≡ b = cc in (
                    x,
                    y,
                    c,
                    ap old (sym is) ∙ (sym Steps-old ∙ there),
                    ap new (sym is) ∙ here,
                    ap (slice_get (set values t c)) e ∙ slice_set-here values t c (filled-slice values t within),
                    subst (λ u. gives u x (c, y)) is' given,
                  ))
              | inr ne ↦ (
                  let (z, u, d, ez, eu, ed, g) = s.done j q b (omega (arith, less, ne)) eq eb in (
                    z,
                    u,
                    d,
                    ez,
                    others q (λ e. once j (omega (arith, less, ne)) (eq ∙ ap Some e)) ∙ eu,
                    slice_set-elsewhere values t j c ne ∙ ed,
                    g,
                  ))
            ];
            left = λ j le. slice_set-elsewhere values t j c (λ e. omega (arith, le, e)) ∙ s.left j (omega (arith, le));
            kept = λ q no. others q (λ e. no t (omega arith) (Steps-at ∙ ap Some (sym e))) ∙ s.kept q (λ j less. no j (omega (arith, less)));
          }

  pub Steps-end : (all : length ps ≡ length before) {to_come : List ℕ} {values : List B} {now : ℕ → Option A} {t : ℕ} → StepsState to_come values now t → t ≡ length before → StepsEach gives ps before old values now
  Steps-end all {to_come} {values} {now} {t} s full = record {
    values = s.many;
    steps = λ j p b ep eb. let within = slice_get_within before j b eb in s.done j p b (omega (arith, within, full)) ep eb;
    kept = λ p no. s.kept p (λ j less e. no (j, slice_get_within ps j p e, get_or_from_slice_get ps j p p e));
  }

-- steps at the places of index lists are steps at the cells there
module _ {A B one : Type 0} (gives : B → A → B × A → Type 0) (at : ℕ → Option A) (ns : List ℕ) (start : ℕ) (bs : List ℕ) (h : Reaches one at ns start bs) (it : one) (g : Grid A) (is-g : grid_at at ns start bs ≡ g)
    (iss : List (List ℕ)) (within : All (InBox g.lengths) iss) (before : List B) where
  inside : (t : ℕ) (is : List ℕ) → slice_get iss t ≡ Some is → InBox ns is
  inside t is e = subst (λ ms. InBox ms is) (sym (ap (λ w. w.lengths) is-g)) (subst (InBox g.lengths) (get_or_from_slice_get iss t is is e) (within t is (slice_get_within iss t is e)))

  cell-of : (is : List ℕ) → InBox ns is → cell g is ≡ at (place start bs is)
  cell-of is b = ap (λ w. cell w is) (sym is-g) ∙ cell-at at ns start bs h is b

  pub places-callable : (can : B → A → Type 0) → MayStepEach can iss before (cell g) → MayStepEach can (places_along start bs iss) before at
  places-callable can may = record {
    each = λ t p b x ep eb ex.
        let (is, e, own) = slice_get-map_back (place start bs) iss t p ep in
        may.each t is b x e eb (cell-of is (inside t is e) ∙ (ap at own ∙ ex));
  }

  pub places-distinct : AllPairs (λ is js. is ≢ js) iss → AreDistinctPlaces at (places_along start bs iss)
  places-distinct apart = record {
    held = All-map (λ p. IsTrue (is_some (at p))) (place start bs) iss (λ t d lt. h.inside (get_or iss t d) (inside t (get_or iss t d) (slice_get-get_or iss t d lt)));
    once = AllPairs-map (λ p q. p ≡ q → ⊥) (place start bs) iss
        (λ i j d less lt e. apart i j d less lt
        (Reaches-apart at ns start bs h it (get_or iss i d) (get_or iss j d) (inside i (get_or iss i d) (slice_get-get_or iss i d (omega (arith, less, lt)))) (inside j (get_or iss j d) (slice_get-get_or iss j d lt)) e));
  }

  module _ (many : length iss ≡ length before) (values : List B) (after : ℕ → Option A) (did : StepsEach gives (places_along start bs iss) before at values after) where
    pub Reaches-stepped : Reaches one after ns start bs
    Reaches-stepped = record {
      as_many = h.as_many;
      limit = h.limit;
      inside = λ is b. elim (Contains-or_not (places_along start bs iss) (place start bs is)) [
        | inl there ↦ (
            let l = length-map iss (place start bs) in
            let lt = there.1 in
            let (v, ev) = slice_get-Some before there.0 (omega (arith, lt, l, many)) in
            let (x, y, c, ex, ey, ec, given) = did.steps there.0 (place start bs is) v (slice_get-get_or (places_along start bs iss) there.0 (place start bs is) lt ∙ ap Some there.2) ev in
            subst (λ o. IsTrue (is_some o)) (sym ey) refl)
        | inr none ↦ subst (λ o. IsTrue (is_some o)) (sym (did.kept (place start bs is) none)) (h.inside is b)
      ];
      nested = h.nested;
    }

    pub cells-stepped : StepsEach gives iss before (cell g) values (cell (grid_at after ns start bs))
    cells-stepped = record {
      values = did.values;
      steps = λ t is b ei eb.
          let b' = inside t is ei in
          let (x, y, c, ex, ey, ec, given) = did.steps t (place start bs is) b (slice_get-map (place start bs) iss t ∙ ap (option_map (place start bs)) ei) eb in
          (x, y, c, cell-of is b' ∙ ex, cell-at after ns start bs Reaches-stepped is b' ∙ ey, ec, given);
      kept = λ is none. elim (InBox-or_not ns is) [
        | inl b ↦ cell-at after ns start bs Reaches-stepped is b
            ∙ (did.kept (place start bs is)
            (λ there.
            let (js, (t, lt, e), same) = Contains-map_back (place start bs) iss (place start bs is) there in
            let own : js ≡ is = Reaches-apart at ns start bs h it js is (inside t js (slice_get-get_or iss t js lt ∙ ap Some e)) b same in
            none (subst (Contains iss) own (t, lt, e)))
            ∙ sym (cell-of is b))
        | inr out ↦ cell-outside (grid_at after ns start bs) is out ∙ (sym (cell-outside (grid_at at ns start bs) is out) ∙ ap (λ w. cell w is) is-g)
      ];
    }
