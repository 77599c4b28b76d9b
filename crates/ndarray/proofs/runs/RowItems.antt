-- The items of rows, one after another.
use Rattle.std.proofs.Common.{◌≡◌, ◌∙◌, ◌+◌, ◌<◌, ℕ, List, [], ◌∷◌, ◌++◌, All, IfSome, Option, Some, None, ap, arith, length, refl, subst, sym}
use Rattle.std.specs.Iterator.{MakesProgress, at_most}
use Rattle.std.proofs.lemmas.List.Elements.{All-head, All-tail}
use Rattle.ndarray.specs.Producers.{YieldsInTurn, YieldsInTurnFrom}
use Rattle.ndarray.specs.order.Rows.{RowsInTurnFrom, joined}
use Rattle.ndarray.specs.zip.RowItems.{GivesFirst, HoldsItems}

module _ {S R T A : Type 0} (rows : S → Option R → S → Type 0) (can_rows : S → Type 0) (is_row : List (List ℕ) → R → Type 0)
    (next : T → Option A → T → Type 0) (can_next : T → Type 0) (yields_at : List ℕ → A → Type 0) where
  abbrev Holds : Option T → S → List (List ℕ) → Type 0
  Holds = HoldsItems rows can_rows is_row next can_next yields_at

  abbrev First : Option T → S → List (List ℕ) → A → Type 0
  First row behind is x = (i : List ℕ) × ((rest : List (List ℕ)) × ((is ≡ i ∷ rest) × (yields_at i x × Holds row behind rest)))

  -- an item of the row that has begun
  pub item-of_row : (t u : T) (s : S) (is : List (List ℕ)) (x : A) → next t (Some x) u → can_next u → Holds (Some t) s is → First (Some u) s is x
  item-of_row t u s is x step can h = go h.here h.parts h.begun.0
    where
      go : (here : List (List ℕ)) → here ++ joined h.others ≡ is → YieldsInTurnFrom next yields_at t here → First (Some u) s is x
      go [] e y = absurd (y x u step)
      go (i ∷ here) e y =
          let (given, left) = y.1 x u step in
          (i, (here ++ joined h.others, (sym e, (given, record { here = here; others = h.others; parts = refl; begun = (left, can); can = h.can; gives = h.gives; some = h.some }))))

  -- the row that has begun is at its end
  pub row-ended : (t u : T) (s : S) (is : List (List ℕ)) → next t None u → Holds (Some t) s is → Holds None s is
  row-ended t u s is step h = go h.here h.parts h.begun.0
    where
      go : (here : List (List ℕ)) → here ++ joined h.others ≡ is → YieldsInTurnFrom next yields_at t here → Holds None s is
      go [] e y = record { here = []; others = h.others; parts = e; begun = refl; can = h.can; gives = h.gives; some = h.some }
      go (i ∷ here) e y = absurd (y.0 u step)

  -- there is no other row
  pub none-left : (s v : S) (is : List (List ℕ)) → rows s None v → Holds None s is → is ≡ []
  none-left s v is step h = go h.others h.parts h.gives
    where
      go : (others : List (List (List ℕ))) → h.here ++ joined others ≡ is → RowsInTurnFrom rows is_row s others → is ≡ []
      go [] e g = sym e ∙ ap (λ l. l ++ []) h.begun
      go (js ∷ others) e g = absurd (g.0 v step)

  -- the row r begins at these index lists, and v gives the rows behind it
  pub record NextRow (is : List (List ℕ)) (r : R) (v : S) : Type 0 where
    pub here : List (List ℕ)
    pub others : List (List (List ℕ))
    pub parts : here ++ joined others ≡ is
    pub form : is_row here r
    pub gives : RowsInTurnFrom rows is_row v others
    pub first : 0 < length here
    pub some : All (λ js. 0 < length js) others

  pub row-next : (s v : S) (is : List (List ℕ)) (r : R) → rows s (Some r) v → Holds None s is → NextRow is r v
  row-next s v is r step h = go h.others h.parts h.gives h.some
    where
      go : (others : List (List (List ℕ))) → h.here ++ joined others ≡ is → RowsInTurnFrom rows is_row s others → All (λ js. 0 < length js) others → NextRow is r v
      go [] e g all = absurd (g r v step)
      go (js ∷ others) e g all =
          let (form, left) = g.1 r v step in
          record {
            here = js;
            others = others;
            parts = ap (λ l. l ++ (js ++ joined others)) (sym h.begun) ∙ e;
            form = form;
            gives = left;
            first = All-head (λ ks. 0 < length ks) js others all;
            some = All-tail (λ ks. 0 < length ks) js others all;
          }

  -- the next row is one of its producer
  pub row-form : (s v : S) (is : List (List ℕ)) (r : R) → rows s (Some r) v → Holds None s is → (js : List (List ℕ)) × is_row js r
  row-form s v is r step h = let n = row-next s v is r step h in (n.here, n.form)

  module _ (s v : S) (is : List (List ℕ)) (r : R) (step : rows s (Some r) v) (can : can_rows v) (t : T) (can_t : can_next t)
      (gives : (js : List (List ℕ)) → is_row js r → YieldsInTurn next yields_at t js) (h : Holds None s is) where
    -- its first item is the next one
    pub item-of_next : (u : T) (x : A) → next t (Some x) u → can_next u → First (Some u) v is x
    item-of_next u x first can_u =
        let n = row-next s v is r step h in
        item-of_row t u v is x first can_u record { here = n.here; others = n.others; parts = n.parts; begun = ((gives n.here n.form).from, can_t); can = can; gives = n.gives; some = n.some }

    -- there is one
    pub item-there : (u : T) → next t None u → ⊥
    item-there u none = let n = row-next s v is r step h in go n.here n.first (gives n.here n.form).from
      where
        go : (here : List (List ℕ)) → 0 < length here → YieldsInTurnFrom next yields_at t here → ⊥
        go [] lt y = absurd (omega arith)
        go (i ∷ here) lt y = y.0 u none

-- Calls that each give the item at the first of the index lists give them in turn.
pub yields-first : {S A : Type 0} (next : S → Option A → S → Type 0) (yields_at : List ℕ → A → Type 0) (holds : S → List (List ℕ) → Type 0)
    → ((s : S) (o : Option A) (t : S) (is : List (List ℕ)) → next s o t → holds s is → GivesFirst yields_at (holds t) is o) → (s : S) (is : List (List ℕ)) → holds s is → YieldsInTurnFrom next yields_at s is
yields-first next yields_at holds each s [] h = λ x t step. let (i, (rest, (e, (y, g)))) = each s (Some x) t [] step h in absurd (cc)
yields-first next yields_at holds each s (i ∷ is) h = (
  λ t step. let e : i ∷ is ≡ [] = each s None t (i ∷ is) step h in absurd (cc),
  λ x t step.
      let (j, (rest, (e, (y, g)))) = each s (Some x) t (i ∷ is) step h in
      let first : i ≡ j = cc in
      let others : is ≡ rest = cc in
      (subst (λ k. yields_at k x) (sym first) y, yields-first next yields_at holds each t is (subst (holds t) (sym others) g)),
)

-- Calls that count down make progress.
pub counts-down : {S A : Type 0} (can : S → Type 0) (left : S → ℕ) (s t : S) (r : Option A) → IfSome r (λ _. can t) → IfSome r (λ _. left t + 1 ≡ left s) → MakesProgress can (λ u. at_most (left u)) s r t
counts-down can left s t None h l = record { on = λ _. tt; keeps = tt; rests = λ _. tt }
counts-down can left s t (Some x) h l = record { on = λ _. (h, tt, omega (arith, l)); keeps = h; rests = λ _. tt }
