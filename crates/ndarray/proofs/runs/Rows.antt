-- Turns over the items of rows, seen as turns over the index lists of the box.
use Rattle.std.proofs.Common.{◌≡◌, ℕ, ◌<◌, zero, suc, length, Iter, List, [], ◌∷◌, ◌++◌, map, Option, Some, None, refl, sym, subst, ◌∙◌, ap, append-nil, append_assoc, inl, inr, Ok, Err}
use Rattle.std.specs.Iterator.{YieldsFirstBy}
use Rattle.std.specs.Iterator.Adapters.{once_item, once_steps}
use Rattle.std.specs.declared.iter.Once.{Once}
use Rattle.std.specs.List.{FoldsTo}
use Rattle.std.specs.Prelude.{filter_map}
use Rattle.std.proofs.lemmas.List.Elements.{All-head, All-tail}
use Rattle.std.specs.Slice.Iter.{iter_steps, iter_mut_steps, iter_mut_rest}
use Rattle.std.specs.declared.slice.IterMut.{IterMut}
use Rattle.ndarray.specs.Grid.{Grid, IsGrid, HasCells, cell}
use Rattle.ndarray.specs.Orders.{box_in}
use Rattle.ndarray.specs.Producers.{YieldsInTurn, YieldsInTurnFrom, steps_of_both}
use Rattle.ndarray.specs.order.Rows.{rows_in, joined, some_unless_none, HasRows, RowsInTurn, RowsInTurnFrom, GivesMany, AsLong}
use Rattle.ndarray.specs.Runs.{MayTurnAt, TurnAt, TakesAt, StopsAt, EndsOrStops}
use Rattle.ndarray.specs.declared.base.shape.Order.{Order}
use Rattle.ndarray.proofs.boxes.Rows.{rows-within, rows_in-none, rows_in-one}
use Rattle.ndarray.proofs.runs.Turns.{FoldsTo-append}
use Rattle.ndarray.proofs.runs.Producers.{MayBeYielded, YieldsInTurn-list, YieldsInTurn-steps, cells-stand, iter_first, iter_mut_first}

-- what may be done at all places may be done at some in their midst
pub may-midst : {P X : Type 0} (turn : P → X → P → Type 0) (takes : P → X → Type 0) (p q : P) (before is after whole : List X) → before ++ (is ++ after) ≡ whole
    → FoldsTo turn p before q → MayTurnAt turn takes p whole → MayTurnAt turn takes q is
may-midst turn takes p q before is after whole parts f m = record {
  at = λ done i rest r e g.
      m.at (before ++ done) i (rest ++ after) r
      (append_assoc before done (i ∷ (rest ++ after)) ∙ (ap (λ l. before ++ l) (sym (append_assoc done (i ∷ rest) after) ∙ ap (λ l. l ++ after) e) ∙ parts))
      (FoldsTo-append turn before done p q r f g);
}

-- a run that stopped at a place in the midst of others
pub stops-midst : {P X E : Type 0} (turn : P → X → P → Type 0) (stops : P → X → E → Type 0) (p q : P) (before is after whole : List X) → before ++ (is ++ after) ≡ whole
    → FoldsTo turn p before q → (e : E) → EndsOrStops turn stops q is (Err e) → EndsOrStops turn stops p whole (Err e)
stops-midst turn stops p q before is after whole parts f err r =
    let (done, last, g, how) = r in
    elim how [
      | inl h ↦ (let no = h.1 in cc)
      | inr h ↦
          (let (i, rest, e, s) = h in (
            before ++ done,
            last,
            FoldsTo-append turn before done p q last f g,
            inr (
              i,
              rest ++ after,
              append_assoc before done (i ∷ (rest ++ after)) ∙ (ap (λ l. before ++ l) (sym (append_assoc done (i ∷ rest) after) ∙ ap (λ l. l ++ after) e) ∙ parts),
              s,
            ),
          ))
    ]

module _ {S R A P : Type 0} (rows : S → Option R → S → Type 0) (is_row : List (List ℕ) → R → Type 0) (yields_at : List ℕ → A → Type 0) (turn : P → A → P → Type 0) where
  -- turns at the items of the rows so far led from p to q, and s gives the other rows
  pub record RowsReached (whole : List (List ℕ)) (s : S) (p q : P) : Type 0 where
    pub done : List (List ℕ)
    pub rest : List (List (List ℕ))
    pub parts : done ++ joined rest ≡ whole
    pub turns : FoldsTo (TurnAt yields_at turn) p done q
    pub gives : RowsInTurnFrom rows is_row s rest

  pub rows-start : {iss : List (List (List ℕ))} {whole : List (List ℕ)} {s : S} (p : P) → joined iss ≡ whole → RowsInTurn rows is_row s iss → RowsReached whole s p p
  rows-start {iss} p e w = record { done = []; rest = iss; parts = e; turns = refl; gives = w.from }

  record RowFound (whole : List (List ℕ)) (r : R) (t : S) (p q : P) : Type 0 where
    pub done : List (List ℕ)
    pub row : List (List ℕ)
    pub rest : List (List (List ℕ))
    pub parts : done ++ (row ++ joined rest) ≡ whole
    pub turns : FoldsTo (TurnAt yields_at turn) p done q
    pub form : is_row row r
    pub gives : RowsInTurnFrom rows is_row t rest

  row-found : {whole : List (List ℕ)} {s t : S} {p q : P} {r : R} → RowsReached whole s p q → rows s (Some r) t → RowFound whole r t p q
  row-found {whole} {s} {t} {p} {q} {r} b st = go b.rest b.parts b.gives
    where
      go : (rest : List (List (List ℕ))) → b.done ++ joined rest ≡ whole → RowsInTurnFrom rows is_row s rest → RowFound whole r t p q
      go [] e v = absurd (v r t st)
      go (is ∷ rest) e v = record { done = b.done; row = is; rest = rest; parts = e; turns = b.turns; form = (v.1 r t st).0; gives = (v.1 r t st).1 }

  -- what may be done at the whole box may be done at the row that came
  pub may-row : {takes : P → A → Type 0} {whole : List (List ℕ)} {s t : S} {p q : P} {r : R}
      → MayTurnAt (TurnAt yields_at turn) (TakesAt yields_at takes) p whole → RowsReached whole s p q → rows s (Some r) t
      → (is : List (List ℕ)) × (is_row is r × MayTurnAt (TurnAt yields_at turn) (TakesAt yields_at takes) q is)
  may-row {takes} {whole} {p = p} {q = q} m b st =
      let k = row-found b st in
      (k.row, (k.form, may-midst (TurnAt yields_at turn) (TakesAt yields_at takes) p q k.done k.row (joined k.rest) whole k.parts k.turns m))

  pub next-row : {whole : List (List ℕ)} {s t : S} {p q q' : P} {r : R} → RowsReached whole s p q → rows s (Some r) t
      → ((is : List (List ℕ)) → is_row is r → FoldsTo (TurnAt yields_at turn) q is q') → RowsReached whole t p q'
  next-row {whole} {p = p} {q = q} {q' = q'} b st h =
      let k = row-found b st in
      record {
        done = k.done ++ k.row;
        rest = k.rest;
        parts = append_assoc k.done k.row (joined k.rest) ∙ k.parts;
        turns = FoldsTo-append (TurnAt yields_at turn) k.done k.row p q q' k.turns (h k.row k.form);
        gives = k.gives;
      }

  pub rows-end : {whole : List (List ℕ)} {s t : S} {p q : P} → RowsReached whole s p q → rows s None t → FoldsTo (TurnAt yields_at turn) p whole q
  rows-end {whole} {s} {t} {p} {q} b st = go b.rest b.parts b.gives
    where
      go : (rest : List (List (List ℕ))) → b.done ++ joined rest ≡ whole → RowsInTurnFrom rows is_row s rest → FoldsTo (TurnAt yields_at turn) p whole q
      go [] e v = subst (λ l. FoldsTo (TurnAt yields_at turn) p l q) (sym (append-nil b.done) ∙ e) b.turns
      go (is ∷ rest) e v = absurd (v.0 t st)

  module _ {E : Type 0} (stops : P → A → E → Type 0) where
    -- a row whose turns stopped stops the run
    pub row-stopped : {whole : List (List ℕ)} {s t : S} {p q : P} {r : R} (e : E) → RowsReached whole s p q → rows s (Some r) t
        → ((is : List (List ℕ)) → is_row is r → EndsOrStops (TurnAt yields_at turn) (StopsAt yields_at stops) q is (Err e)) → EndsOrStops (TurnAt yields_at turn) (StopsAt yields_at stops) p whole (Err e)
    row-stopped {whole} {p = p} {q = q} e b st h =
        let k = row-found b st in
        stops-midst (TurnAt yields_at turn) (StopsAt yields_at stops) p q k.done k.row (joined k.rest) whole k.parts k.turns e (h k.row k.form)

    pub rows-ended : {whole : List (List ℕ)} {s t : S} {p q : P} → RowsReached whole s p q → rows s None t → EndsOrStops (TurnAt yields_at turn) (StopsAt yields_at stops) p whole (Ok q)
    rows-ended {whole} {q = q} b st = (whole, q, rows-end b st, inl (refl, refl))

-- the rows of an array, each of which reads as a list of its cells
module _ {B : Type 0} (g : Grid B) where
  pub HasRows-rows_in : (o : Order) → IsGrid g → HasRows g (rows_in o g.lengths)
  HasRows-rows_in o whole = λ k d lt. let w = rows-within o g.lengths k d lt in (w.0, record { whole = whole; within = w.1 })

  module _ {S R : Type 0} (view : R → List B) (rest : S → List (List B)) where
    rows-given : (iss : List (List (List ℕ))) → HasRows g iss → (s : S) → rest s ≡ map (filter_map (cell g)) iss
        → RowsInTurnFrom {S = S} {R = R} (YieldsFirstBy view rest) (λ is r. (view r ≡ filter_map (cell g) is) × HasCells g is) s iss
    rows-given [] h s e = λ r t st. let k : [] ≡ view r ∷ rest t = sym e ∙ st in cc
    rows-given (is ∷ iss) h s e = (
      (λ t n. let k : filter_map (cell g) is ∷ map (filter_map (cell g)) iss ≡ [] = sym e ∙ n.0 in cc),
      (λ r t st.
          let k : filter_map (cell g) is ∷ map (filter_map (cell g)) iss ≡ view r ∷ rest t = sym e ∙ st in
          let here : view r ≡ filter_map (cell g) is = cc in
          let there : rest t ≡ map (filter_map (cell g)) iss = cc in
          ((here, (All-head (λ row. (0 < length row) × HasCells g row) is iss h).1), rows-given iss (All-tail (λ row. (0 < length row) × HasCells g row) is iss h) t there)),
    )

    pub RowsInTurn-cells : (o : Order) → IsGrid g → (s : S) → rest s ≡ map (filter_map (cell g)) (rows_in o g.lengths)
        → RowsInTurn {S = S} {R = R} (YieldsFirstBy view rest) (λ is r. (view r ≡ filter_map (cell g) is) × HasCells g is) s (rows_in o g.lengths)
    RowsInTurn-cells o whole s e = record { from = rows-given (rows_in o g.lengths) (HasRows-rows_in o whole) s e }

  -- what is given of a row of cells
  pub YieldsInTurn-row : {S X : Type 0} (view : X → B) (rest : S → List B) {s : S} (is : List (List ℕ)) → HasCells g is → rest s ≡ filter_map (cell g) is → YieldsInTurn (YieldsFirstBy view rest) (λ i x. cell g i ≡ Some (view x)) s is
  YieldsInTurn-row view rest is h e = YieldsInTurn-list view rest (λ i x. cell g i ≡ Some (view x)) (filter_map (cell g) is) e (cells-stand view g is h)

  pub YieldsInTurn-row_slice : (s : Iter B) (is : List (List ℕ)) → HasCells g is → s.rest.now ≡ filter_map (cell g) is → YieldsInTurn iter_steps (λ i x. cell g i ≡ Some x.now) s is
  YieldsInTurn-row_slice s is h e =
      YieldsInTurn-steps iter_steps (YieldsFirstBy (λ x. x.now) (λ t. t.rest.now)) (λ i x. cell g i ≡ Some x.now) (λ t r u st. iter_first t r u st) (YieldsInTurn-row (λ x. x.now) (λ t. t.rest.now) is h e)

  pub YieldsInTurn-row_slice_mut : (s : IterMut B) (is : List (List ℕ)) → HasCells g is → iter_mut_rest s ≡ filter_map (cell g) is → YieldsInTurn iter_mut_steps (λ i x. cell g i ≡ Some x.now) s is
  YieldsInTurn-row_slice_mut s is h e =
      YieldsInTurn-steps iter_mut_steps (YieldsFirstBy (λ x. x.now) iter_mut_rest) (λ i x. cell g i ≡ Some x.now) (λ t r u st. iter_mut_first t r u st) (YieldsInTurn-row (λ x. x.now) iter_mut_rest is h e)

-- two runs over the same index lists are equally long
counted : List (List ℕ) → ℕ
counted [] = zero
counted (i ∷ is) = suc (counted is)

module _ {S A : Type 0} (next : S → Option A → S → Type 0) (yields_at : List ℕ → A → Type 0) where
  gives-many : (is : List (List ℕ)) (s : S) → YieldsInTurnFrom next yields_at s is → GivesMany next (counted is) s
  unfolding counted
  gives-many [] s v = v
  gives-many (i ∷ is) s v = (v.0, λ x t st. gives-many is t (v.1 x t st).1)

module _ {S T A B : Type 0} (next : S → Option A → S → Type 0) (others : T → Option B → T → Type 0) where
  pub AsLong-next : {s s' : S} {t t' : T} {x : A} {y : B} → AsLong next others s t → next s (Some x) s' → others t (Some y) t' → AsLong next others s' t'
  AsLong-next {s} {s'} {t} {t'} {x} {y} l st st' = go l.count l.first l.second
    where
      go : (n : ℕ) → GivesMany next n s → GivesMany others n t → AsLong next others s' t'
      go zero f g = absurd (f x s' st)
      go (suc n) f g = record { count = n; first = f.1 x s' st; second = g.1 y t' st' }

  pub AsLong-same : (yields_at : List ℕ → A → Type 0) (other_yields_at : List ℕ → B → Type 0) {is : List (List ℕ)} {s : S} {t : T}
      → YieldsInTurn next yields_at s is → YieldsInTurn others other_yields_at t is → AsLong next others s t
  AsLong-same yields_at other_yields_at {is} {s} {t} v w = record { count = counted is; first = gives-many next yields_at is s v.from; second = gives-many others other_yields_at is t w.from }

-- the rows of two producers, side by side
module _ {P S T Q R : Type 0} (first : P → S) (second : P → T) (rows : S → Option Q → S → Type 0) (is_row : List (List ℕ) → Q → Type 0) (other_rows : T → Option R → T → Type 0) (is_other : List (List ℕ) → R → Type 0) where
  pair-rows : (iss : List (List (List ℕ))) (z : P) → RowsInTurnFrom rows is_row (first z) iss → RowsInTurnFrom other_rows is_other (second z) iss
      → RowsInTurnFrom (steps_of_both first second rows other_rows) (λ is r. is_row is r.0 × is_other is r.1) z iss
  pair-rows [] z v w = λ r t st. v r.0 (first t) st.0
  pair-rows (is ∷ iss) z v w = (
    (λ t n. elim n [ inl h ↦ v.0 h.0 h.1 | inr h ↦ w.0 h.0 h.1 ]),
    (λ r t st. let a = v.1 r.0 (first t) st.0 in let b = w.1 r.1 (second t) st.1 in ((a.0, b.0), pair-rows iss t a.1 b.1)),
  )

  pub RowsInTurn-pairs : {iss iss' : List (List (List ℕ))} (z : P) → iss ≡ iss' → RowsInTurn rows is_row (first z) iss → RowsInTurn other_rows is_other (second z) iss'
      → RowsInTurn (steps_of_both first second rows other_rows) (λ is r. is_row is r.0 × is_other is r.1) z iss
  RowsInTurn-pairs {iss} z k v w = record { from = pair-rows iss z v.from (subst (λ l. RowsInTurnFrom other_rows is_other (second z) l) (sym k) w.from) }

-- one row
pub RowsInTurn-once : {R : Type 0} (is_row : List (List ℕ) → R → Type 0) (is : List (List ℕ)) (t : Once R) (r : R) → is_row is r → once_item t ≡ Some r → RowsInTurn once_steps is_row t (is ∷ [])
RowsInTurn-once is_row is t r form e = record {
  from = (
    (λ u st. let never : None ≡ Some r = st.0 ∙ e in cc),
    (λ q u st. let same : Some q ≡ Some r = st.0 ∙ e in let here : q ≡ r = cc in (subst (is_row is) (sym here) form, (λ p v sv. let never : None ≡ Some p = sym st.1 ∙ sym sv.0 in cc))),
  );
}

-- the one row of a box of one axis
pub RowsInTurn-one : {R : Type 0} (is_row : List (List ℕ) → R → Type 0) (o : Order) (n : ℕ) (t : Once R) (r : R) → is_row (box_in o (n ∷ [])) r → once_item t ≡ some_unless_none n r
    → RowsInTurn once_steps is_row t (rows_in o (n ∷ []))
RowsInTurn-one is_row o zero t r form e = record { from = subst (RowsInTurnFrom once_steps is_row t) (sym (rows_in-none o)) (λ q u st. let never : None ≡ Some q = sym e ∙ sym st.0 in cc) }
RowsInTurn-one is_row o (suc n) t r form e = subst (RowsInTurn once_steps is_row t) (sym (rows_in-one o n)) (RowsInTurn-once is_row (box_in o (suc n ∷ [])) t r form e)

-- rows that are given as something of each list of index lists
module _ {S R V : Type 0} (view : R → V) (rest : S → List V) (h : List (List ℕ) → V) where
  mapped-rows : (iss : List (List (List ℕ))) (s : S) → rest s ≡ map h iss → RowsInTurnFrom {S = S} {R = R} (YieldsFirstBy view rest) (λ is r. view r ≡ h is) s iss
  mapped-rows [] s e = λ r t st. let k : [] ≡ view r ∷ rest t = sym e ∙ st in cc
  mapped-rows (is ∷ iss) s e = (
    (λ t n. let k : h is ∷ map h iss ≡ [] = sym e ∙ n.0 in cc),
    (λ r t st.
        let k : h is ∷ map h iss ≡ view r ∷ rest t = sym e ∙ st in
        let here : view r ≡ h is = cc in
        let there : rest t ≡ map h iss = cc in
        (here, mapped-rows iss t there)),
  )

  pub RowsInTurn-map : {iss : List (List (List ℕ))} (s : S) → rest s ≡ map h iss → RowsInTurn {S = S} {R = R} (YieldsFirstBy view rest) (λ is r. view r ≡ h is) s iss
  RowsInTurn-map {iss} s e = record { from = mapped-rows iss s e }

-- places are given beside the index lists whose places they are
pub YieldsInTurn-places : {S : Type 0} (rest : S → List ℕ) (at : List ℕ → ℕ) {s : S} (is : List (List ℕ)) → rest s ≡ map at is → YieldsInTurn (YieldsFirstBy (λ p. p) rest) (λ i p. p ≡ at i) s is
YieldsInTurn-places rest at is e = YieldsInTurn-list (λ p. p) rest (λ i p. p ≡ at i) (map at is) e (own is)
  where
    own : (js : List (List ℕ)) → MayBeYielded (λ p. p) (λ i p. p ≡ at i) js (map at js)
    own [] = tt
    own (j ∷ js) = ((λ p e. e), own js)
