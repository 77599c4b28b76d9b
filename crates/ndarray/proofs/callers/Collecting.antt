-- `map_collect`, and arrays made in that way.
use Rattle.std.proofs.Common.{◌≡◌, ℕ, List, [], ◌∷◌, ◌++◌, Option, Some, None, Ok, Err, length, remove, arith, ◌<◌, refl, subst, sym, All}
use Rattle.std.specs.Prelude.{Result, IfOk, IfSome}
use Rattle.std.specs.List.{AllByRecursion}
use Rattle.ndarray.specs.Index.{InBox}
use Rattle.ndarray.specs.Grid.{Grid, cell, IsGrid, array_by}
use Rattle.ndarray.specs.Orders.{box_in}
use Rattle.ndarray.specs.Subviews.{lane, lanes_along}
use Rattle.ndarray.specs.Runs.{Collects, MayGather, TurnAt, TakesAt, GatherTurn}
use Rattle.ndarray.specs.declared.base.shape.Order.{Order}
use Rattle.ndarray.proofs.boxes.Orders.{box_in-within}
pub use Rattle.ndarray.proofs.callers.Elementwise.{array_by-at}
use Rattle.ndarray.proofs.callers.Elementwise.{array_by-follows}
use Rattle.ndarray.proofs.callers.Folding.{may-by}
use Rattle.ndarray.proofs.cells.Cells.{cell-inside}
use Rattle.ndarray.proofs.cells.CollectedCells.{Collects-at}
use Rattle.ndarray.proofs.lists.Elements.{All-to_recursion}

middle : {X : Type 0} (P : X → Type 0) (xs : List X) (x : X) (ys : List X) → AllByRecursion P (xs ++ (x ∷ ys)) → P x
middle P [] x ys h = h.0
middle P (y ∷ xs) x ys h = middle P xs x ys h.1

-- what holds of all elements holds of one in the middle
pub All-middle : {X : Type 0} (P : X → Type 0) (xs : List X) (x : X) (ys zs : List X) → All P zs → xs ++ (x ∷ ys) ≡ zs → P x
All-middle P xs x ys zs h e = middle P xs x ys (All-to_recursion P (xs ++ (x ∷ ys)) (subst (All P) (sym e) h))

-- What `map_collect` made, where each call at the items of an index list in the box leaves the closure as it was.
module _ {F A R : Type 0} (yields_at : List ℕ → A → Type 0) (call_gives : F → A → R → F → Type 0) (f : F) where
  -- of what a call returns, P holds
  pub collect-each : (P : List ℕ → R → Type 0) (ns : List ℕ) → ((i : List ℕ) (x : A) (r : R) (k : F) → InBox ns i → yields_at i x → call_gives f x r k → (k ≡ f) × P i r)
      → (o : Order) (g : Grid R) → Collects yields_at call_gives o ns f g → (is : List ℕ) (z : R) → cell g is ≡ Some z → P is z
  collect-each P ns each o g c is z there =
      let inside : InBox ns is = subst (λ ms. InBox ms is) c.lengths (cell-inside g is z there) in
      let call = Collects-at yields_at call_gives (λ k. k ≡ f) ns (λ i k x r m b y e t. (each i x r m b y (subst (λ p. call_gives p x r m) e t)).0) o f g refl c is inside z there in
      (each is call.item z call.after inside call.yielded (subst (λ p. call_gives p call.item z call.after) call.known call.given)).1

  -- a call returns h of the index list
  pub collect-follows : (h : List ℕ → R) (ns : List ℕ) → ((i : List ℕ) (x : A) (r : R) (k : F) → InBox ns i → yields_at i x → call_gives f x r k → (k ≡ f) × (r ≡ h i))
      → (o : Order) (g : Grid R) → IsGrid g → Collects yields_at call_gives o ns f g → g ≡ array_by ns h
  collect-follows h ns each o g whole c = array_by-follows g ns h whole c.lengths (collect-each (λ i r. r ≡ h i) ns each o g c)

-- A closure that no call changes may be called along the box where it may be called at the items of each index list in it.
module _ {F A R : Type 0} (yields_at : List ℕ → A → Type 0) (call_gives : F → A → R → F → Type 0) (f : F) (ns : List ℕ)
    (stays : (i : List ℕ) (x : A) (r : R) (k : F) → yields_at i x → call_gives f x r k → k ≡ f) where
  pub may-gather : (can_call : F → A → Type 0) (o : Order) → ((i : List ℕ) (x : A) → InBox ns i → yields_at i x → can_call f x) → MayGather yields_at call_gives can_call (box_in o ns) f
  may-gather can_call o ok = may-by (TurnAt yields_at (GatherTurn call_gives)) (λ done q. q.0 ≡ f)
      (λ done q i r j t. let (x, s, (v, e, k)) = t in stays i x v r.0 s (subst (λ p. call_gives p x v r.0) j k))
      (TakesAt yields_at (λ p x. can_call p.0 x)) (box_in o ns) (f, []) refl
      (λ done i rest q e j x s. subst (λ p. can_call p x) (sym j) (ok i x (All-middle (InBox ns) done i rest (box_in o ns) (box_in-within o ns) e) s))

-- two facts of the value that there is
pub if_ok-both : {X E : Type 0} (r : Result X E) (P Q W : X → Type 0) → ((x : X) → P x → Q x → W x) → IfOk r P → IfOk r Q → IfOk r W
if_ok-both (Ok x) P Q W to p q = to x p q
if_ok-both (Err e) P Q W to p q = p

pub if_some-both : {X : Type 0} (o : Option X) (P Q W : X → Type 0) → ((x : X) → P x → Q x → W x) → IfSome o P → IfSome o Q → IfSome o W
if_some-both (Some x) P Q W to p q = to x p q
if_some-both None P Q W to p q = p

-- the lanes of an array with axes
pub lanes_of-some : {A : Type 0} (ns : List ℕ) (g : Grid A) (k : ℕ) → 0 < length ns → lanes_along ns g k ≡ array_by (remove ns k) (lane g k)
lanes_of-some [] g k h = absurd (omega arith)
lanes_of-some (n ∷ ns) g k h = refl
