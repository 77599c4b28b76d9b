-- Runs of a closure over the items of producers: chains of calls, one for each index list in turn.
use Rattle.std.specs.Prelude.{◌≡◌, ◌⊎◌, ℕ, List, [], ◌∷◌, ◌++◌, Bool, Result, Ok, Err}
use Rattle.std.specs.List.{FoldsTo}
use Rattle.ndarray.specs.Grid.{Grid}
use Rattle.ndarray.specs.Index.{InBox}
use Rattle.ndarray.specs.Orders.{box_in, cells_in, HasInOrder}
use Rattle.ndarray.specs.declared.base.shape.Order.{Order}
use Rattle.ndarray.specs.declared.zip.fold_while.FoldWhile.{FoldWhile}
use Rattle.ndarray.specs.declared.zip.fold_while.FoldWhile.TheVariants.{Continue, Done}

-- Below, `yields_at i x` says that x may be yielded at i. `call_gives f x r h` says that a call of the closure f at the items x may answer r and
-- leave the closure as h, and `can_call f x` that f may be called there; of a fold both have the total before the items.

-- whatever the turns before did, a turn may be taken at each of the places, from p on
pub record MayTurnAt {P X : Type 0} (turn : P → X → P → Type 0) (takes : P → X → Type 0) (p : P) (is : List X) : Type 0 where
  pub at : (done : List X) (i : X) (rest : List X) (q : P) → done ++ (i ∷ rest) ≡ is → FoldsTo turn p done q → takes q i

module _ {P A : Type 0} (yields_at : List ℕ → A → Type 0) where
  -- a turn at an item of i
  abbrev pub TurnAt : (P → A → P → Type 0) → P → List ℕ → P → Type 0
  TurnAt turn p i q = (x : A) × yields_at i x × turn p x q

  -- whatever item of i comes may be taken
  abbrev pub TakesAt : (P → A → Type 0) → P → List ℕ → Type 0
  TakesAt takes p i = (x : A) → yields_at i x → takes p x

  -- a turn at an item of i stops with e
  abbrev pub StopsAt : {E : Type 0} → (P → A → E → Type 0) → P → List ℕ → E → Type 0
  StopsAt stops p i e = (x : A) × yields_at i x × stops p x e

-- Turns that go on led from p to some q. Then the places were at their end and `ended` holds of q, or the turn at the next one stopped.
abbrev pub RunsUntil : {P X : Type 0} → (P → X → P → Type 0) → (P → X → Type 0) → (P → Type 0) → P → List X → Type 0
RunsUntil {P} {X} goes stops ended p is = (done : List X) × (q : P) × FoldsTo goes p done q
    × (((done ≡ is) × ended q) ⊎ ((i : X) × (rest : List X) × (done ++ (i ∷ rest) ≡ is) × stops q i))

-- the turns led from p up to the end, and r has the state there, or up to a turn that stopped, and r has what it stopped with
abbrev pub EndsOrStops : {P X E : Type 0} → (P → X → P → Type 0) → (P → X → E → Type 0) → P → List X → Result P E → Type 0
EndsOrStops {E = E} goes stops p is r = RunsUntil goes (λ q i. (e : E) × (r ≡ Err e) × stops q i e) (λ q. r ≡ Ok q) p is

-- a call that takes the total from p.1 to q.1
abbrev pub FoldTurn : {F A B : Type 0} → (F → B → A → B → F → Type 0) → F × B → A → F × B → Type 0
FoldTurn call_gives p x q = call_gives p.0 p.1 x q.1 q.0

module _ {F A B : Type 0} (yields_at : List ℕ → A → Type 0) (call_gives : F → B → A → B → F → Type 0) where
  -- calls at the items of each index list in turn took init to r
  abbrev pub Folds : List (List ℕ) → F → B → B → Type 0
  Folds is f init r = (last : F) × FoldsTo (TurnAt yields_at (FoldTurn call_gives)) (f, init) is (last, r)

  -- f may be called at each of them, whatever the calls before answered
  abbrev pub MayFold : (F → B → A → Type 0) → List (List ℕ) → F → B → Type 0
  MayFold can_call is f init = MayTurnAt (TurnAt yields_at (FoldTurn call_gives)) (TakesAt yields_at (λ p x. can_call p.0 p.1 x)) (f, init) is

-- a call that returns b
abbrev pub AnswerTurn : {F A O : Type 0} → (F → A → O → F → Type 0) → O → F → A → F → Type 0
AnswerTurn call_gives b p x q = call_gives p x b q

module _ {F A : Type 0} (yields_at : List ℕ → A → Type 0) (call_gives : F → A → Unit {0} → F → Type 0) where
  -- f was called at the items of each index list in turn
  abbrev pub Visits : List (List ℕ) → F → Type 0
  Visits is f = (last : F) × FoldsTo (TurnAt yields_at (AnswerTurn call_gives tt)) f is last

  -- f may be called at each of them, whatever the calls before did
  abbrev pub MayVisit : (F → A → Type 0) → List (List ℕ) → F → Type 0
  MayVisit can_call is f = MayTurnAt (TurnAt yields_at (AnswerTurn call_gives tt)) (TakesAt yields_at can_call) f is

module _ {F A : Type 0} (yields_at : List ℕ → A → Type 0) (call_gives : F → A → Bool → F → Type 0) where
  -- f answered `on` at the items up to the end, and r is `on`, or else up to one at which it answered r, which is `off`
  abbrev pub TestsUntil : List (List ℕ) → F → Bool → Bool → Bool → Type 0
  TestsUntil is f on off r = RunsUntil (TurnAt yields_at (AnswerTurn call_gives on))
      (λ q i. (x : A) × yields_at i x × ((r ≡ off) × ((h : F) × call_gives q x off h))) (λ _. r ≡ on) f is

  -- f may be called at each of them as long as it returns `on`
  abbrev pub MayTest : (F → A → Type 0) → List (List ℕ) → F → Bool → Type 0
  MayTest can_call is f on = MayTurnAt (TurnAt yields_at (AnswerTurn call_gives on)) (TakesAt yields_at can_call) f is

-- a call that goes on, from the total p.1 with q.1
abbrev pub GoTurn : {F A B : Type 0} → (F → B → A → FoldWhile B → F → Type 0) → F × B → A → F × B → Type 0
GoTurn call_gives p x q = call_gives p.0 p.1 x (Continue q.1) q.0

module _ {F A B : Type 0} (yields_at : List ℕ → A → Type 0) (call_gives : F → B → A → FoldWhile B → F → Type 0) where
  -- the calls went on up to the end, and r holds the last total, or up to one that was done, and r is its answer
  abbrev pub FoldsWhile : List (List ℕ) → F → B → FoldWhile B → Type 0
  FoldsWhile is f init r = RunsUntil (TurnAt yields_at (GoTurn call_gives)) (λ q i. (x : A) × yields_at i x × ((v : B) × (h : F) × (r ≡ Done v) × call_gives q.0 q.1 x (Done v) h))
      (λ q. r ≡ Continue q.1) (f, init) is

  -- f may be called at each of them as long as it goes on
  abbrev pub MayFoldWhile : (F → B → A → Type 0) → List (List ℕ) → F → B → Type 0
  MayFoldWhile can_call is f init = MayTurnAt (TurnAt yields_at (GoTurn call_gives)) (TakesAt yields_at (λ p x. can_call p.0 p.1 x)) (f, init) is

-- a call whose answer is put after those before
abbrev pub GatherTurn : {F A R : Type 0} → (F → A → R → F → Type 0) → F × List R → A → F × List R → Type 0
GatherTurn {R = R} call_gives p x q = (r : R) × (q.1 ≡ p.1 ++ (r ∷ [])) × call_gives p.0 x r q.0

module _ {F A R : Type 0} (yields_at : List ℕ → A → Type 0) (call_gives : F → A → R → F → Type 0) where
  -- rs are the results of the calls at the items of each index list in turn
  abbrev pub Gathers : List (List ℕ) → F → List R → Type 0
  Gathers is f rs = (last : F) × FoldsTo {P = F × List R} (TurnAt yields_at (GatherTurn call_gives)) (f, []) is (last, rs)

  -- f may be called at each of them, whatever the calls before answered
  abbrev pub MayGather : (F → A → Type 0) → List (List ℕ) → F → Type 0
  MayGather can_call is f = MayTurnAt {P = F × List R} (TurnAt yields_at (GatherTurn call_gives)) (TakesAt yields_at (λ p x. can_call p.0 x)) (f, []) is

-- the array has these lengths, and along the box in the named order its cells are the results of the calls of f at the items there
pub record Collects {F A R : Type 0} (yields_at : List ℕ → A → Type 0) (call_gives : F → A → R → F → Type 0) (order : Order) (ns : List ℕ) (f : F) (g : Grid R) : Type 0 where
  pub lengths : g.lengths ≡ ns
  pub answers : List R
  pub cells : HasInOrder order g answers
  pub list : cells_in order g ≡ answers
  pub gathered : Gathers yields_at call_gives (box_in order ns) f answers

-- No call of f at an item of an index list in the box changes f, and each returns what h gives at the index list.
abbrev pub Computes : {F A R : Type 0} → (List ℕ → A → Type 0) → (F → A → R → F → Type 0) → F → List ℕ → (List ℕ → R) → Type 0
Computes {F} {A} {R} yields_at call_gives f ns h = (i : List ℕ) (x : A) (r : R) (k : F) → InBox ns i → yields_at i x → call_gives f x r k → (k ≡ f) × (r ≡ h i)

-- The same of calls that take a total too: each returns what h gives at the total and the index list. Two of them may be exchanged.
pub record ComputesTotals {F A B : Type 0} (yields_at : List ℕ → A → Type 0) (call_gives : F → B → A → B → F → Type 0) (f : F) (ns : List ℕ) (h : B → List ℕ → B) : Type 0 where
  pub returns : (b : B) (i : List ℕ) (x : A) (r : B) (k : F) → InBox ns i → yields_at i x → call_gives f b x r k → (k ≡ f) × (r ≡ h b i)
  pub commutes : (b : B) (i j : List ℕ) → h (h b i) j ≡ h (h b j) i
