-- What the calls of a `Zip` give where no call changes the closure, and each returns what a function gives at the index list.
use Rattle.std.proofs.Common.{◌≡◌, ◌∙◌, ℕ, List, [], ◌∷◌, ◌++◌, Bool, true, false, Result, IfOk, All, subst, sym, inl, inr}
use Rattle.std.proofs.Math.Bool.{not}
use Rattle.std.specs.List.{AllByRecursion, FoldsTo, fold, list_all, list_any}
use Rattle.ndarray.specs.Grid.{Grid, IsGrid, array_by}
use Rattle.ndarray.specs.Index.{InBox, row_order}
use Rattle.ndarray.specs.Orders.{box_in}
use Rattle.ndarray.specs.Runs.{AnswerTurn, Collects, Computes, ComputesTotals, Folds, FoldTurn, RunsUntil, TestsUntil, TurnAt}
use Rattle.ndarray.specs.declared.base.shape.Order.{Order}
use Rattle.ndarray.proofs.boxes.Orders.{box_in-within}
use Rattle.ndarray.proofs.callers.Collecting.{All-middle, collect-follows, if_ok-both}
use Rattle.ndarray.proofs.callers.Folding.{fold-follows}
use Rattle.ndarray.proofs.callers.RowOrder.{fold-in_row_order, list_all-in_row_order, list_any-in_row_order}
use Rattle.ndarray.proofs.callers.Testing.{all_or_any, test-follows}
use Rattle.ndarray.proofs.lists.Elements.{All-to_recursion}

-- Turns at elements, of all of which W holds.
module _ {P X : Type 0} (goes : P → X → P → Type 0) (W : X → Type 0) where
  turns-where : (xs : List X) (p q : P) → AllByRecursion W xs → FoldsTo goes p xs q → FoldsTo (λ s x t. W x × goes s x t) p xs q
  turns-where [] p q each turns = turns
  turns-where (x ∷ xs) p q each turns = let (m, here, rest) = turns in (m, (each.0, here), turns-where xs m q each.1 rest)

  front : (xs ys : List X) → AllByRecursion W (xs ++ ys) → AllByRecursion W xs
  front [] ys each = tt
  front (x ∷ xs) ys each = (each.0, front xs ys each.1)

  runs-where : (stops : P → X → Type 0) (ended : P → Type 0) (p : P) (xs : List X) → All W xs → RunsUntil goes stops ended p xs
      → RunsUntil (λ s x t. W x × goes s x t) (λ s x. W x × stops s x) ended p xs
  runs-where stops ended p xs each ran =
      let (done, q, turns, last) = ran in
      elim last [
        | inl h ↦ (done, q, turns-where done p q (All-to_recursion W done (subst (All W) (sym h.0) each)) turns, inl h)
        | inr h ↦ let (i, rest, parts, at) = h in
            (done, q, turns-where done p q (front done (i ∷ rest) (All-to_recursion W (done ++ (i ∷ rest)) (subst (All W) (sym parts) each))) turns, inr (i, rest, parts, (All-middle W done i rest xs each parts, at)))
      ]

-- The lengths ms of a `Zip` are ns.
module _ {F A : Type 0} (yields_at : List ℕ → A → Type 0) (f : F) (ns ms : List ℕ) (own : ms ≡ ns) (o : Order) where
  pub totals-computed : {B : Type 0} (call_gives : F → B → A → B → F → Type 0) (h : B → List ℕ → B) → ComputesTotals yields_at call_gives f ns h
      → (init r : B) → Folds yields_at call_gives (box_in o ms) f init r → r ≡ fold h init (row_order ns)
  totals-computed call_gives h computes init r ran =
      let (last, turns) = ran in
      fold-follows (λ p i q. InBox ns i × TurnAt yields_at (FoldTurn call_gives) p i q) f h
      (λ b i q t. let (inside, turn) = t in let (x, shown, call) = turn in computes.returns b i x q.1 q.0 inside shown call)
      init (box_in o ns) (last, r)
      (turns-where _ (InBox ns) (box_in o ns) (f, init) (last, r) (All-to_recursion (InBox ns) (box_in o ns) (box_in-within o ns))
      (subst (λ ls. FoldsTo (TurnAt yields_at (FoldTurn call_gives)) (f, init) (box_in o ls) (last, r)) own turns))
      ∙ fold-in_row_order h computes.commutes o ns init

  tests-computed : (call_gives : F → A → Bool → F → Type 0) (h : List ℕ → Bool) → Computes yields_at call_gives f ns h
      → (on r : Bool) → TestsUntil yields_at call_gives (box_in o ms) f on (not on) r → r ≡ all_or_any on h (box_in o ns)
  tests-computed call_gives h computes on r ran =
      let stops = λ (q : F) (i : List ℕ). (x : A) × yields_at i x × ((r ≡ not on) × ((k : F) × call_gives q x (not on) k)) in
      test-follows (λ p i q. InBox ns i × TurnAt yields_at (AnswerTurn call_gives on) p i q) (λ q i. InBox ns i × stops q i) (λ _. r ≡ on) f (box_in o ns) h on
      (λ i k t. let (inside, turn) = t in let (x, shown, call) = turn in let (kept, gives) = computes i x on k inside shown call in (kept, sym gives))
      r
      (λ i t. let (inside, stop) = t in let (x, shown, (off, (k, call))) = stop in (off, sym (computes i x (not on) k inside shown call).1))
      (λ end. end)
      (runs-where (TurnAt yields_at (AnswerTurn call_gives on)) (InBox ns) stops (λ _. r ≡ on) f (box_in o ns) (box_in-within o ns)
      (subst (λ ls. RunsUntil (TurnAt yields_at (AnswerTurn call_gives on)) stops (λ _. r ≡ on) f (box_in o ls)) own ran))

  pub all-computed : (call_gives : F → A → Bool → F → Type 0) (h : List ℕ → Bool) → Computes yields_at call_gives f ns h
      → (r : Bool) → TestsUntil yields_at call_gives (box_in o ms) f true false r → r ≡ list_all h (row_order ns)
  all-computed call_gives h computes r ran = tests-computed call_gives h computes true r ran ∙ list_all-in_row_order h o ns

  pub any-computed : (call_gives : F → A → Bool → F → Type 0) (h : List ℕ → Bool) → Computes yields_at call_gives f ns h
      → (r : Bool) → TestsUntil yields_at call_gives (box_in o ms) f false true r → r ≡ list_any h (row_order ns)
  any-computed call_gives h computes r ran = tests-computed call_gives h computes false r ran ∙ list_any-in_row_order h o ns

module _ {F A R : Type 0} (yields_at : List ℕ → A → Type 0) (call_gives : F → A → R → F → Type 0) (f : F) (ns ms : List ℕ) (own : ms ≡ ns) (h : List ℕ → R) (computes : Computes yields_at call_gives f ns h) where
  pub cells-computed : (o : Order) (g : Grid R) → IsGrid g → Collects yields_at call_gives o ms f g → g ≡ array_by ns h
  cells-computed o g whole ran = collect-follows yields_at call_gives f h ns computes o g whole (subst (λ ls. Collects yields_at call_gives o ls f g) own ran)

  pub array-computed : {E : Type 0} (r : Result (Grid R) E) → IfOk r (λ g. (o : Order) × Collects yields_at call_gives o ms f g) → IfOk r IsGrid → IfOk r (λ g. g ≡ array_by ns h)
  array-computed r = if_ok-both r _ _ _ (λ g ran whole. cells-computed ran.0 g whole ran.1)
