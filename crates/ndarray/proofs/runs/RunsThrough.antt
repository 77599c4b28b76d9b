-- Turns seen through a function of their states.
use Rattle.std.proofs.Common.{◌≡◌, ℕ, List, [], ◌∷◌, ◌∙◌, ap, inl, inr, subst, Ok, Err}
use Rattle.std.specs.List.{FoldsTo}
use Rattle.ndarray.specs.Runs.{Collects, MayTurnAt, RunsUntil, TurnAt, TakesAt, GatherTurn, MayGather}
use Rattle.ndarray.specs.Updates.{answers, UpdatesUntil}
use Rattle.std.specs.Prelude.{Result}
use Rattle.ndarray.specs.Grid.{Grid}
use Rattle.ndarray.specs.Orders.{box_in}
use Rattle.ndarray.specs.declared.base.shape.Order.{Order}

module _ {P Q X : Type 0} (turn : P → X → P → Type 0) (turn' : Q → X → Q → Type 0) (k : P → Q) (each : (p : P) (i : X) (q : P) → turn p i q → turn' (k p) i (k q)) where
  -- a chain of turns seen through k
  pub folds_via : (is : List X) (p q : P) → FoldsTo turn p is q → FoldsTo turn' (k p) is (k q)
  folds_via [] p q f = ap k f
  folds_via (i ∷ is) p q f = let (m, t, h) = f in (k m, each p i m t, folds_via is m q h)

  pub may_via : (takes : P → X → Type 0) (takes' : Q → X → Type 0) (can_call : (p : P) (i : X) → takes' (k p) i → takes p i)
      → (is : List X) (p : P) → MayTurnAt turn' takes' (k p) is → MayTurnAt turn takes p is
  may_via takes takes' can_call is p m = record { at = λ done i rest q e f. can_call q i (m.at done i rest (k q) e (folds_via done p q f)) }

  -- the same for a run that may stop
  pub runs_via : (stops : P → X → Type 0) (stops' : Q → X → Type 0) (ended : P → Type 0) (ended' : Q → Type 0)
      (stop : (p : P) (i : X) → stops p i → stops' (k p) i) (end : (p : P) → ended p → ended' (k p))
      → (is : List X) (p : P) → RunsUntil turn stops ended p is → RunsUntil turn' stops' ended' (k p) is
  runs_via stops stops' ended ended' stop end is p r =
      let (done, q, f, e) = r in
      (done, k q, folds_via done p q f, elim e [ inl h ↦ inl (h.0, end q h.1) | inr h ↦ inr (h.0, h.1, h.2, stop q h.0 h.3) ])

-- cells that are updated by calls, seen through a function of the states and one of the items
module _ {F G A E X Y : Type 0} (yields_at : List ℕ → X → Type 0) (yields_at' : List ℕ → Y → Type 0) (call_gives : F → X → Result A E → F → Type 0) (call_gives' : G → Y → Result A E → G → Type 0) (k : F → G) (m : X → Y)
    (seen : (i : List ℕ) (x : X) → yields_at i x → yields_at' i (m x)) (each : (f : F) (x : X) (r : Result A E) (h : F) → call_gives f x r h → call_gives' (k f) (m x) r (k h)) (f : F) where
  turn_via : (p : F × List A) (i : List ℕ) (q : F × List A) → TurnAt yields_at (GatherTurn (answers call_gives)) p i q → TurnAt yields_at' (GatherTurn (answers call_gives')) (k p.0, p.1) i (k q.0, q.1)
  turn_via p i q t = (m t.0, seen i t.0 t.1, (t.2.0, t.2.1, each p.0 t.0 (Ok t.2.0) q.0 t.2.2))

  pub MayUpdate-via : (can_call : F → X → Type 0) (can_call' : G → Y → Type 0) → ((h : F) (x : X) → can_call' (k h) (m x) → can_call h x)
      → (is : List (List ℕ)) → MayGather yields_at' (answers call_gives') can_call' is (k f) → MayGather yields_at (answers call_gives) can_call is f
  MayUpdate-via can_call can_call' less is = may_via {P = F × List A} {Q = G × List A} _ _ (λ p. (k p.0, p.1)) turn_via (TakesAt yields_at (λ p x. can_call p.0 x)) (TakesAt yields_at' (λ p x. can_call' p.0 x)) (λ p i h x s. less p.0 x (h (m x) (seen i x s))) is (f, [])

  pub UpdatesUntil-via : (o : Order) (old : Grid A) (r : Result (Unit {0}) E) (new : Grid A) → UpdatesUntil yields_at call_gives o f old r new → UpdatesUntil yields_at' call_gives' o (k f) old r new
  UpdatesUntil-via o old r new u = record {
    lengths = u.lengths;
    ran = runs_via {P = F × List A} {Q = G × List A} _ _ (λ p. (k p.0, p.1)) turn_via _ _ _ _ (λ p i s. let (x, y, (e, h, is, call, left)) = s in (m x, seen i x y, (e, k h, is, each p.0 x (Err e) h call, left))) (λ p h. h) (box_in o old.lengths) (f, []) u.ran;
  }

-- the same of a chain of turns that keep what is known of their states
module _ {P Q X : Type 0} (turn : P → X → P → Type 0) (turn' : Q → X → Q → Type 0) (k : P → Q) (Known : P → Type 0)
    (each : (p : P) (i : X) (q : P) → Known p → turn p i q → turn' (k p) i (k q) × Known q) where
  pub folds_known : (is : List X) (p q : P) → Known p → FoldsTo turn p is q → FoldsTo turn' (k p) is (k q) × Known q
  folds_known [] p q n f = (ap k f, subst Known f n)
  folds_known (i ∷ is) p q n f =
      let (m, t, h) = f in
      let e = each p i m n t in
      let r = folds_known is m q e.1 h in
      ((k m, e.0, r.0), r.1)

  pub may_known : (takes : P → X → Type 0) (takes' : Q → X → Type 0) (can_call : (p : P) (i : X) → Known p → takes' (k p) i → takes p i)
      → (is : List X) (p : P) → Known p → MayTurnAt turn' takes' (k p) is → MayTurnAt turn takes p is
  may_known takes takes' can_call is p n m = record { at = λ done i rest q e f. let r = folds_known done p q n f in can_call q i r.1 (m.at done i rest (k q) e r.0) }

-- the same of what such calls collect, beside a function of the items
module _ {F G R X Y : Type 0} (yields_at : List ℕ → X → Type 0) (yields_at' : List ℕ → Y → Type 0) (call_gives : F → X → R → F → Type 0) (call_gives' : G → Y → R → G → Type 0) (k : F → G) (m : X → Y) (Known : F → Type 0)
    (seen : (i : List ℕ) (x : X) → yields_at i x → yields_at' i (m x)) (each : (f : F) (x : X) (r : R) (h : F) → Known f → call_gives f x r h → call_gives' (k f) (m x) r (k h) × Known h) (f : F) (known : Known f) where
  turn_known : (p : F × List R) (i : List ℕ) (q : F × List R) → Known p.0 → TurnAt yields_at (GatherTurn call_gives) p i q → TurnAt yields_at' (GatherTurn call_gives') (k p.0, p.1) i (k q.0, q.1) × Known q.0
  turn_known p i q n t = let e = each p.0 t.0 t.2.0 q.0 n t.2.2 in ((m t.0, seen i t.0 t.1, (t.2.0, t.2.1, e.0)), e.1)

  pub MayGather-known : (can_call : F → X → Type 0) (can_call' : G → Y → Type 0) → ((h : F) (x : X) → Known h → can_call' (k h) (m x) → can_call h x)
      → (is js : List (List ℕ)) → js ≡ is → MayGather yields_at' call_gives' can_call' js (k f) → MayGather yields_at call_gives can_call is f
  MayGather-known can_call can_call' less is js same may = may_known {P = F × List R} {Q = G × List R} _ _ (λ p. (k p.0, p.1)) (λ p. Known p.0) turn_known (TakesAt yields_at (λ p x. can_call p.0 x)) (TakesAt yields_at' (λ p x. can_call' p.0 x))
      (λ p i n h x s. less p.0 x n (h (m x) (seen i x s))) is (f, []) known (subst (λ l. MayGather yields_at' call_gives' can_call' l (k f)) same may)

  pub Collects-known : (o : Order) (ns ms : List ℕ) → ns ≡ ms → (g : Grid R) → Collects yields_at call_gives o ns f g → Collects yields_at' call_gives' o ms (k f) g
  Collects-known o ns ms same g c = record {
    lengths = c.lengths ∙ same;
    answers = c.answers;
    cells = c.cells;
    list = c.list;
    gathered = (
      k c.gathered.0,
      subst (λ l. FoldsTo {P = G × List R} (TurnAt yields_at' (GatherTurn call_gives')) (k f, []) (box_in o l) (k c.gathered.0, c.answers)) same
          (folds_known {P = F × List R} {Q = G × List R} _ _ (λ p. (k p.0, p.1)) (λ p. Known p.0) turn_known _ _ _ known c.gathered.1).0,
    );
  }
