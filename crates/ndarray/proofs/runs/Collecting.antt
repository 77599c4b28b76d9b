-- Turns that fill an array, seen as turns that gather answers.
use Rattle.std.proofs.Common.{◌≡◌, ℕ, ◌<◌, List, [], ◌∷◌, ◌++◌, length, Result, Err, subst, ◌∙◌, ap, arith, inl, inr}
use Rattle.std.specs.List.{FoldsTo}
use Rattle.std.proofs.lemmas.List.{length-append}
use Rattle.ndarray.specs.Index.{size}
use Rattle.ndarray.specs.Orders.{box_in}
use Rattle.ndarray.specs.Runs.{MayTurnAt, TurnAt, TakesAt, EndsOrStops, GatherTurn, MayGather}
use Rattle.ndarray.specs.Updates.{answers}
use Rattle.ndarray.specs.base.Builder.{BuilderState, pushed_to}
use Rattle.ndarray.specs.declared.base.shape.Order.{Order}
use Rattle.ndarray.proofs.boxes.Orders.{length-box_in}
use Rattle.ndarray.proofs.runs.Answers.{gathered-length}
use Rattle.ndarray.proofs.runs.RunsThrough.{folds_known}

-- a run that stopped did so at one of its places
pub stopped-some : {P X E : Type 0} (turn : P → X → P → Type 0) (stops : P → X → E → Type 0) (p : P) (is : List X) (e : E) → EndsOrStops turn stops p is (Err e) → 0 < length is
stopped-some {X = X} turn stops p is e r =
    let (done, last, g, how) = r in
    elim how [
      | inl h ↦ (let no = h.1 in cc)
      | inr h ↦ (let (i, rest, parts, s) = h in let l : length (done ++ (i ∷ rest)) ≡ length is = ap (length {A = X}) parts in omega (arith, length-append done (i ∷ rest)))
    ]

module _ {S F A R E : Type 0} (call : S → F) (built : S → BuilderState R) (call_gives : F → A → Result R E → F → Type 0) (yields_at : List ℕ → A → Type 0) (o : Order) (ns : List ℕ) where
  -- a call whose answer is the next cell
  abbrev CollectTurn : S → A → S → Type 0
  CollectTurn s x t = (r : R) × (answers call_gives (call s) x r (call t) × (built t ≡ pushed_to (built s) r))

  abbrev Begun : S → Type 0
  Begun s = ((built s).lengths ≡ ns) × ((built s).order ≡ o)

  abbrev gathered : S → F × List R
  gathered s = (call s, (built s).cells)

  each : (s : S) (i : List ℕ) (t : S) → Begun s → TurnAt yields_at CollectTurn s i t → TurnAt yields_at (GatherTurn (answers call_gives)) (gathered s) i (gathered t) × Begun t
  each s i t b w =
      let (x, y, (r, h)) = w in
      let e = h.1 in (
        (x, y, (r, ap (λ k. k.cells) e, h.0)),
        (ap (λ k. k.lengths) e ∙ b.0, ap (λ k. k.order) e ∙ b.1),
      )

  -- the cells so far are the answers
  pub gathered-run : (is : List (List ℕ)) (s t : S) (f : F) → Begun s → gathered s ≡ (f, []) → FoldsTo (TurnAt yields_at CollectTurn) s is t
      → FoldsTo {P = F × List R} (TurnAt yields_at (GatherTurn (answers call_gives))) (f, []) is (call t, (built t).cells) × Begun t
  gathered-run is s t f b none w =
      let g = folds_known {P = S} {Q = F × List R} (TurnAt yields_at CollectTurn) (TurnAt yields_at (GatherTurn (answers call_gives))) gathered Begun each is s t b w in
      (subst (λ (p : F × List R). FoldsTo {P = F × List R} (TurnAt yields_at (GatherTurn (answers call_gives))) p is (call t, (built t).cells)) none g.0, g.1)

  -- and there is room for each
  pub may-collect : (can_call : F → A → Type 0) (s : S) (f : F) → Begun s → gathered s ≡ (f, []) → MayGather yields_at (answers call_gives) can_call (box_in o ns) f
      → MayTurnAt (TurnAt yields_at CollectTurn) (TakesAt yields_at (λ t x. can_call (call t) x × (length (built t).cells < size (built t).lengths))) s (box_in o ns)
  may-collect can_call s f b none m = record {
    at = λ done i rest t e w x y.
        let g = gathered-run done s t f b none w in
        let many = gathered-length (answers call_gives) yields_at done (f, []) (gathered t) g.0 in
        let l = length-box_in o ns in
        let n : size (built t).lengths ≡ size ns = ap size g.1.0 in
        let all : length (done ++ (i ∷ rest)) ≡ length (box_in o ns) = ap (length {A = List ℕ}) e in
        (m.at done i rest (gathered t) e g.0 x y, omega (arith, length-append done (i ∷ rest)));
  }
