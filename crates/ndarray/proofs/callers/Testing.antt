-- What `all` and `any` answer: of a closure that computes a test of the index list, and of any.
use Rattle.std.proofs.Common.{◌≡◌, ℕ, List, [], ◌∷◌, ◌++◌, Bool, true, false, refl, sym, subst, ap, ◌∙◌, inl, inr, append-nil, Some}
use Rattle.std.proofs.Math.Bool.{not}
use Rattle.std.specs.Prelude.{All, IsTrue, ◌↔◌, ⊤}
use Rattle.std.specs.List.{AllByRecursion, FoldsTo, list_all, list_any}
use Rattle.std.proofs.lemmas.List.Elements.{All-contains, All-weaker}
use Rattle.std.proofs.lemmas.List.Sums.{AllPass-from_list_all, list_all-from_AllPass}
use Rattle.ndarray.specs.Elementwise.{CanMap}
use Rattle.ndarray.specs.Grid.{Grid, cell}
use Rattle.ndarray.specs.Index.{InBox, row_order}
use Rattle.ndarray.specs.Orders.{box_in}
use Rattle.ndarray.specs.Runs.{AnswerTurn, MayTest, RunsUntil, TakesAt, TurnAt}
use Rattle.ndarray.specs.declared.base.shape.Order.{Order}
use Rattle.ndarray.specs.declared.base.shape.Order.TheVariants.{RowMajor}
use Rattle.ndarray.proofs.boxes.Orders.{box-contains, box_in-within}
use Rattle.ndarray.proofs.callers.Collecting.{All-middle}
use Rattle.ndarray.proofs.callers.Folding.{may-by}
use Rattle.ndarray.proofs.cells.Cells.{cell-inside}
use Rattle.ndarray.proofs.lists.Elements.{All-from_recursion}

-- for true whether all elements pass the test, and for false whether any does
abbrev pub all_or_any : {X : Type 0} → Bool → (X → Bool) → List X → Bool
all_or_any true = list_all
all_or_any false = list_any

module _ {X : Type 0} (t : X → Bool) (x : X) (xs : List X) where
  all_or_any-later : (on : Bool) → t x ≡ on → all_or_any on t (x ∷ xs) ≡ all_or_any on t xs
  all_or_any-later true e = rw e refl
  all_or_any-later false e = rw e refl

  all_or_any-here : (on : Bool) → t x ≡ not on → all_or_any on t (x ∷ xs) ≡ not on
  all_or_any-here true e = rw e refl
  all_or_any-here false e = rw e refl

all_or_any-none : {X : Type 0} (t : X → Bool) (on : Bool) → all_or_any on t [] ≡ on
all_or_any-none t true = refl
all_or_any-none t false = refl

-- Turns that go on, and those that stop, each leave the closure f as it was, and tell what the test t answers there.
module _ {F : Type 0} (goes : F → List ℕ → F → Type 0) (stops : F → List ℕ → Type 0) (ended : F → Type 0) (f : F) (is : List (List ℕ)) (t : List ℕ → Bool) (on : Bool)
    (stays : (i : List ℕ) (k : F) → goes f i k → (k ≡ f) × (t i ≡ on)) where
  -- turns that go on leave the answer to the rest
  passed : (xs ys : List (List ℕ)) (p q : F) → p ≡ f → FoldsTo goes p xs q → (all_or_any on t (xs ++ ys) ≡ all_or_any on t ys) × (q ≡ f)
  passed [] ys p q e c = (refl, sym c ∙ e)
  passed (i ∷ xs) ys p q e c =
      let (m, turn, rest) = c in
      let u = stays i m (subst (λ g. goes g i m) e turn) in
      let r = passed xs ys m q u.0 rest in
      (all_or_any-later t i (xs ++ ys) on u.1 ∙ r.0, r.1)

  -- what `all` answers where it goes on at true, and `any` where it goes on at false
  pub test-follows : (r : Bool) → ((i : List ℕ) → stops f i → (r ≡ not on) × (t i ≡ not on)) → (ended f → r ≡ on) → RunsUntil goes stops ended f is → r ≡ all_or_any on t is
  test-follows r stop end c =
      let (done, q, turns, last) = c in
      elim last [
        | inl h ↦ let p = passed done [] f q refl turns in
            end (subst ended p.1 h.1) ∙ sym (p.0 ∙ all_or_any-none t on) ∙ ap (all_or_any on t) (append-nil done ∙ h.0)
        | inr h ↦ let (i, rest, parts, at) = h in
            let p = passed done (i ∷ rest) f q refl turns in
            let u = stop i (subst (λ g. stops g i) p.1 at) in
            u.0 ∙ sym (p.0 ∙ all_or_any-here t i rest on u.1) ∙ ap (all_or_any on t) parts
      ]

-- What a yes of `all` and a no of `any` mean at each index list of the box, whatever the closure tests.
module _ {F : Type 0} (goes : F → List ℕ → F → Type 0) (stops : F → List ℕ → Type 0) (ended : F → Type 0) (f : F) (o : Order) (ns : List ℕ) where
  -- turns that go on, each of which leaves the closure as it was and tells that Q holds there
  went : (Q : List ℕ → Type 0) → ((i : List ℕ) (k : F) → goes f i k → (k ≡ f) × Q i) → (is : List (List ℕ)) (p q : F) → p ≡ f → FoldsTo goes p is q → AllByRecursion Q is × (q ≡ f)
  went Q stays [] p q e c = (tt, sym c ∙ e)
  went Q stays (i ∷ is) p q e c =
      let (m, turn, rest) = c in
      let u = stays i m (subst (λ g. goes g i m) e turn) in
      let r = went Q stays is m q u.0 rest in
      ((u.1, r.0), r.1)

  -- what holds along the box holds at each index list in it
  everywhere : (Q : List ℕ → Type 0) (done : List (List ℕ)) → done ≡ box_in o ns → AllByRecursion Q done → (i : List ℕ) → InBox ns i → Q i
  everywhere Q done e each i inside = All-contains Q (box_in o ns) i (subst (All Q) e (All-from_recursion Q done each)) (box-contains o ns i inside)

  -- `all` says whether P holds at each index list of the box: each turn that goes on tells that it does, and one that stops that it does not
  pub all-decides : (P : List ℕ → Type 0) → ((i : List ℕ) (k : F) → goes f i k → (k ≡ f) × P i) → (r : Bool) → ((i : List ℕ) → stops f i → (r ≡ false) × (P i → ⊥)) → (ended f → r ≡ true)
      → RunsUntil goes stops ended f (box_in o ns) → IsTrue r ↔ ((i : List ℕ) → InBox ns i → P i)
  all-decides P stays r stop end ran =
      let (done, q, turns, last) = ran in
      let w = went P stays done f q refl turns in
      elim last as (λ _. IsTrue r ↔ ((i : List ℕ) → InBox ns i → P i)) [
        | inl h ↦ (λ _. everywhere P done h.0 w.0, λ _. end (subst ended w.1 h.1))
        | inr h ↦ let (i, rest, parts, at) = h in
            let u = stop i (subst (λ g. stops g i) w.1 at) in
            (λ on. absurd (cc), λ each. absurd (u.1 (each i (All-middle (InBox ns) done i rest (box_in o ns) (box_in-within o ns) parts))))
      ]

  -- `any` says whether P holds at some: each turn that goes on tells that it does not, and one that stops that it does
  pub any-decides : (P : List ℕ → Type 0) → ((i : List ℕ) (k : F) → goes f i k → (k ≡ f) × (P i → ⊥)) → (r : Bool) → ((i : List ℕ) → stops f i → (r ≡ true) × P i) → (ended f → r ≡ false)
      → RunsUntil goes stops ended f (box_in o ns) → IsTrue r ↔ ((i : List ℕ) × InBox ns i × P i)
  any-decides P stays r stop end ran =
      let (done, q, turns, last) = ran in
      let w = went (λ i. P i → ⊥) stays done f q refl turns in
      elim last as (λ _. IsTrue r ↔ ((i : List ℕ) × InBox ns i × P i)) [
        | inl h ↦ (let off : r ≡ false = end (subst ended w.1 h.1) in
            (λ on. absurd (cc), λ some. absurd (everywhere (λ i. P i → ⊥) done h.0 w.0 some.0 some.1 some.2)))
        | inr h ↦ let (i, rest, parts, at) = h in
            let u = stop i (subst (λ g. stops g i) w.1 at) in
            (λ _. (i, All-middle (InBox ns) done i rest (box_in o ns) (box_in-within o ns) parts, u.1), λ _. u.0)
      ]

  -- where the turns that stop say no of `all`, and not that P does not hold, P holds at each index list if it says yes
  pub all-holds : (P : List ℕ → Type 0) → ((i : List ℕ) (k : F) → goes f i k → (k ≡ f) × P i) → (r : Bool) → ((q : F) (i : List ℕ) → stops q i → r ≡ false)
      → RunsUntil goes stops ended f (box_in o ns) → IsTrue r → (i : List ℕ) → InBox ns i → P i
  all-holds P stays r stop ran on =
      let (done, q, turns, last) = ran in
      let w = went P stays done f q refl turns in
      elim last as (λ _. (i : List ℕ) → InBox ns i → P i) [
        | inl h ↦ everywhere P done h.0 w.0
        | inr h ↦ let off : r ≡ false = stop _ _ h.3 in absurd (cc)
      ]

-- A test of all index lists of a box in row order says yes exactly where the test does at each.
module _ (t : List ℕ → Bool) (ns : List ℕ) where
  pub list_all-at : list_all t (row_order ns) ≡ true → (is : List ℕ) → InBox ns is → t is ≡ true
  list_all-at all is inside = All-contains (λ js. t js ≡ true) (row_order ns) is (AllPass-from_list_all t (row_order ns) all) (box-contains RowMajor ns is inside)

  pub list_all-each : ((is : List ℕ) → InBox ns is → t is ≡ true) → list_all t (row_order ns) ≡ true
  list_all-each each = list_all-from_AllPass t (row_order ns) (All-weaker (InBox ns) (λ js. t js ≡ true) each (row_order ns) (box_in-within RowMajor ns))

-- P holds of the cell at an index list; of the cells of two arrays there
abbrev pub HoldsAt : {A : Type 0} → (A → Type 0) → Grid A → List ℕ → Type 0
HoldsAt {A} P g is = (x : A) → cell g is ≡ Some x → P x

abbrev pub HoldsOf : {A B : Type 0} → (A → B → Type 0) → Grid A → Grid B → List ℕ → Type 0
HoldsOf {A} {B} P g h is = (x : A) (y : B) → cell g is ≡ Some x → cell h is ≡ Some y → P x y

-- Turns at the cells of an array g, seen as w, each of which tells of its cell whether P holds of it.
module _ {F A : Type 0} (goes : F → List ℕ → F → Type 0) (stops : F → List ℕ → Type 0) (ended : F → Type 0) (f : F) (P : A → Type 0) (g w : Grid A) (same : w ≡ g) (o : Order) (r : Bool)
    (ran : RunsUntil goes stops ended f (box_in o w.lengths))
    (stays : (is : List ℕ) (k : F) → goes f is k → (k ≡ f) × ((x : A) × (cell w is ≡ Some x) × P x)) where
  holds-at : (is : List ℕ) (k : F) → goes f is k → (k ≡ f) × HoldsAt P w is
  holds-at is k turn =
      let (kept, found) = stays is k turn in
      let (x, here, holds) = found in
      (kept, λ y there. let e : x ≡ y = cc in subst P e holds)

  -- `all` says whether P holds of all cells
  pub tested-cells : ((is : List ℕ) → stops f is → (r ≡ false) × ((x : A) × (cell w is ≡ Some x) × (P x → ⊥))) → (ended f → r ≡ true) → IsTrue r ↔ CanMap P g
  tested-cells stop end =
      let decides = all-decides goes stops ended f o w.lengths (HoldsAt P w) holds-at r
      (λ is at.
      let (off, found) = stop is at in
      let (x, here, not) = found in
      (off, λ all. not (all x here)))
      end ran in
      subst (λ v. IsTrue r ↔ CanMap P v) same (λ on is x here. decides.0 on is (cell-inside w is x here) x here, λ each. decides.1 (λ is _. each is))

  -- a yes of `all` says that P holds of all cells, whatever a no says
  pub tested-holds : ((q : F) (is : List ℕ) → stops q is → r ≡ false) → IsTrue r → CanMap P g
  tested-holds stop on =
      let each = all-holds goes stops ended f o w.lengths (HoldsAt P w) holds-at r stop ran on in
      subst (CanMap P) same (λ is x here. each is (cell-inside w is x here) x here)

-- The same of the cells of two arrays g and h, seen as w and z.
module _ {F A B : Type 0} (goes : F → List ℕ → F → Type 0) (stops : F → List ℕ → Type 0) (ended : F → Type 0) (f : F) (P : A → B → Type 0) (g w : Grid A) (h z : Grid B) (first : w ≡ g) (second : z ≡ h) (o : Order) (r : Bool)
    (ran : RunsUntil goes stops ended f (box_in o w.lengths))
    (stays : (is : List ℕ) (k : F) → goes f is k → (k ≡ f) × ((x : A) × (y : B) × (cell w is ≡ Some x) × (cell z is ≡ Some y) × P x y)) where
  pair-holds : (is : List ℕ) (k : F) → goes f is k → (k ≡ f) × HoldsOf P w z is
  pair-holds is k turn =
      let (kept, found) = stays is k turn in
      let (x, y, left, right, holds) = found in
      (kept, λ u v l m. let e : x ≡ u = cc in let e2 : y ≡ v = cc in subst (P u) e2 (subst (λ t. P t y) e holds))

  -- `all` says whether P holds at each index list
  pub tested-pairs : ((is : List ℕ) → stops f is → (r ≡ false) × ((x : A) × (y : B) × (cell w is ≡ Some x) × (cell z is ≡ Some y) × (P x y → ⊥))) → (ended f → r ≡ true)
      → IsTrue r ↔ ((is : List ℕ) → HoldsOf P g h is)
  tested-pairs stop end =
      let decides = all-decides goes stops ended f o w.lengths (HoldsOf P w z) pair-holds r
      (λ is at.
      let (off, found) = stop is at in
      let (x, y, left, right, not) = found in
      (off, λ all. not (all x y left right)))
      end ran in
      subst (λ v. IsTrue r ↔ ((is : List ℕ) → HoldsOf P g v is)) second
      (subst (λ v. IsTrue r ↔ ((is : List ℕ) → HoldsOf P v z is)) first
      (λ on is x y l m. decides.0 on is (cell-inside w is x l) x y l m, λ each. decides.1 (λ is _. each is)))

-- A closure that no call changes may be asked along the box where it may be asked at the items of each index list in it.
pub may-test : {F A : Type 0} (yields_at : List ℕ → A → Type 0) (call_gives : F → A → Bool → F → Type 0) (can_call : F → A → Type 0) (f : F) (ns : List ℕ) (on : Bool)
    → ((i : List ℕ) (x : A) (k : F) → yields_at i x → call_gives f x on k → k ≡ f) → (o : Order) → ((i : List ℕ) (x : A) → InBox ns i → yields_at i x → can_call f x) → MayTest yields_at call_gives can_call (box_in o ns) f on
may-test yields_at call_gives can_call f ns on stays o ok = may-by (TurnAt yields_at (AnswerTurn call_gives on)) (λ done q. q ≡ f)
    (λ done q i r j t. let (x, s, k) = t in stays i x r s (subst (λ p. call_gives p x on r) j k))
    (TakesAt yields_at can_call) (box_in o ns) f refl
    (λ done i rest q e j x s. subst (λ p. can_call p x) (sym j) (ok i x (All-middle (InBox ns) done i rest (box_in o ns) (box_in-within o ns) e) s))

-- A call that says whether P holds of an item, and stays as it was, may be asked along the box in either order.
pub may-decide : {F A : Type 0} (yields_at : List ℕ → A → Type 0) (P : F → A → Type 0) (f : F) (ns : List ℕ) (on : Bool) (o : Order)
    → MayTest yields_at (λ t p r d. (IsTrue r ↔ P t p) × (d ≡ t)) (λ _ _. ⊤) (box_in o ns) f on
may-decide yields_at P f ns on o = may-test yields_at (λ t p r d. (IsTrue r ↔ P t p) × (d ≡ t)) (λ _ _. ⊤) f ns on (λ i x k s h. h.1) o (λ i x b s. tt)
