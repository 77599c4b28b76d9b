-- Turns over the items that a run gives, seen as turns over the index lists at which they stand.
use Rattle.std.proofs.Common.{◌≡◌, ℕ, List, [], ◌∷◌, ◌++◌, Option, Some, None, Ok, Err, refl, sym, subst, ◌∙◌, append-nil, inl, inr, append_assoc}
use Rattle.std.proofs.lemmas.Fn.{FoldsTo-push}
use Rattle.std.specs.List.{FoldsTo}
use Rattle.ndarray.specs.Producers.{YieldsInTurn, YieldsInTurnFrom}
use Rattle.ndarray.specs.Runs.{MayTurnAt, TurnAt, TakesAt, StopsAt, EndsOrStops}

module _ {S A P : Type 0} (next : S → Option A → S → Type 0) (yields_at : List ℕ → A → Type 0) (turn : P → A → P → Type 0) where
  -- turns at the items so far led from p to q, and t gives those of the other index lists
  pub record Reached (is : List (List ℕ)) (t : S) (p q : P) : Type 0 where
    pub done : List (List ℕ)
    pub rest : List (List ℕ)
    pub parts : done ++ rest ≡ is
    pub turns : FoldsTo (TurnAt yields_at turn) p done q
    pub gives : YieldsInTurnFrom next yields_at t rest

  pub at_start : {is : List (List ℕ)} {s : S} (p : P) → YieldsInTurn next yields_at s is → Reached is s p p
  at_start {is} {s} p w = record { done = []; rest = is; parts = refl; turns = refl; gives = w.from }

  -- what an item that came tells: the index list at which it stands
  pub record Found (is : List (List ℕ)) (u : S) (p q : P) (x : A) : Type 0 where
    pub done : List (List ℕ)
    pub place : List ℕ
    pub rest : List (List ℕ)
    pub parts : done ++ (place ∷ rest) ≡ is
    pub turns : FoldsTo (TurnAt yields_at turn) p done q
    pub stands : yields_at place x
    pub gives : YieldsInTurnFrom next yields_at u rest

  pub found : {is : List (List ℕ)} {t u : S} {p q : P} {x : A} → Reached is t p q → next t (Some x) u → Found is u p q x
  found {is} {t} {u} {p} {q} {x} b st = go b.rest b.parts b.gives
    where
      go : (rest : List (List ℕ)) → b.done ++ rest ≡ is → YieldsInTurnFrom next yields_at t rest → Found is u p q x
      go [] e v = absurd (v x u st)
      go (i ∷ rest) e v = record { done = b.done; place = i; rest = rest; parts = e; turns = b.turns; stands = (v.1 x u st).0; gives = (v.1 x u st).1 }

  -- what may be done at the index lists may be done at the item that came
  pub may_take : {takes : P → A → Type 0} {is : List (List ℕ)} {t u : S} {p q : P} {x : A}
      → MayTurnAt (TurnAt yields_at turn) (TakesAt yields_at takes) p is → Reached is t p q → next t (Some x) u → takes q x
  may_take {takes} {x = x} m b st = let k = found b st in m.at k.done k.place k.rest _ k.parts k.turns x k.stands

  pub next_turn : {is : List (List ℕ)} {t u : S} {p q r : P} {x : A} → Reached is t p q → next t (Some x) u → turn q x r → Reached is u p r
  next_turn {is} {x = x} b st h =
      let k = found b st in
      record {
        done = k.done ++ (k.place ∷ []);
        rest = k.rest;
        parts = append_assoc k.done (k.place ∷ []) k.rest ∙ k.parts;
        turns = FoldsTo-push (TurnAt yields_at turn) _ k.done _ k.place _ k.turns (x, k.stands, h);
        gives = k.gives;
      }

  pub at_end : {is : List (List ℕ)} {t u : S} {p q : P} → Reached is t p q → next t None u → FoldsTo (TurnAt yields_at turn) p is q
  at_end {is} {t} {u} {p} {q} b st = go b.rest b.parts b.gives
    where
      go : (rest : List (List ℕ)) → b.done ++ rest ≡ is → YieldsInTurnFrom next yields_at t rest → FoldsTo (TurnAt yields_at turn) p is q
      go [] e v = subst (λ l. FoldsTo (TurnAt yields_at turn) p l q) (sym (append-nil b.done) ∙ e) b.turns
      go (i ∷ rest) e v = absurd (v.0 u st)

  -- turns that stop with a value
  module _ {E : Type 0} (stops : P → A → E → Type 0) where
    pub ends_at : {is : List (List ℕ)} {t u : S} {p q : P} → Reached is t p q → next t None u → EndsOrStops (TurnAt yields_at turn) (StopsAt yields_at stops) p is (Ok q)
    ends_at {is} {q = q} b st = (is, q, at_end b st, inl (refl, refl))

    pub stops_at : {is : List (List ℕ)} {t u : S} {p q : P} {x : A} (e : E) → Reached is t p q → next t (Some x) u → stops q x e → EndsOrStops (TurnAt yields_at turn) (StopsAt yields_at stops) p is (Err e)
    stops_at {q = q} {x = x} e b st h = let k = found b st in (k.done, q, k.turns, inr (k.place, k.rest, k.parts, (e, refl, (x, k.stands, h))))

-- turns over places and then over more
pub FoldsTo-append : {P X : Type 0} (turn : P → X → P → Type 0) (is js : List X) (p q r : P) → FoldsTo turn p is q → FoldsTo turn q js r → FoldsTo turn p (is ++ js) r
FoldsTo-append turn [] js p q r f g = subst (λ s. FoldsTo turn s js r) (sym f) g
FoldsTo-append turn (i ∷ is) js p q r f g = let (m, t, h) = f in (m, t, FoldsTo-append turn is js m q r h g)

-- a run that did not stop came to the end
pub ran-Ok : {P X E : Type 0} (turn : P → X → P → Type 0) (stops : P → X → E → Type 0) (p q : P) (is : List X) → EndsOrStops turn stops p is (Ok q) → FoldsTo turn p is q
ran-Ok turn stops p q is r =
    let (done, last, g, how) = r in
    elim how [
      | inl h ↦ (let e : q ≡ last = cc in subst (λ l. FoldsTo turn p l q) h.0 (subst (λ s. FoldsTo turn p done s) (sym e) g))
      | inr h ↦ (let (i, rest, e, s) = h in let (x, same, stopped) = s in cc)
    ]
