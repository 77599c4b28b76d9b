-- Arrays whose cells calls made of the cells of others.
use Rattle.std.proofs.Common.{◌≡◌, ◌∙◌, List, ℕ, Some, subst, sym}
use Rattle.ndarray.specs.Broadcast.{BroadcastTogether, broadcast_lengths}
use Rattle.ndarray.specs.Elementwise.{AreCellsAt, Assigns, CanCombine, Combines, Maps}
use Rattle.ndarray.specs.Grid.{Grid, IsGrid, cell}
use Rattle.ndarray.specs.Index.{InBox}
use Rattle.ndarray.specs.Runs.{Collects}
use Rattle.ndarray.specs.Updates.{is_pair_of_cells}
use Rattle.ndarray.specs.Views.{broadcast_to}
use Rattle.ndarray.specs.declared.base.shape.Order.{Order}
use Rattle.ndarray.proofs.cells.Cells.{cell-inside}
use Rattle.ndarray.proofs.cells.CollectedCells.{Collects-at}
use Rattle.ndarray.proofs.views.BroadcastLengths.{lengths-exchanged, together-exchanged}

module _ {F X R : Type 0} (yields_at : List ℕ → X → Type 0) (call_gives : F → X → R → F → Type 0) (Known : F → Type 0)
    (keeps : (f : F) (x : X) (r : R) (h : F) → Known f → call_gives f x r h → Known h) (o : Order) (f : F) (known : Known f) (r : Grid R) (whole : IsGrid r) where
  -- of one
  pub maps-of : {A : Type 0} (g : Grid A) (cell_of : X → A) (gives : A → R → Type 0) → ((i : List ℕ) (x : X) → yields_at i x → cell g i ≡ Some (cell_of x))
      → ((f : F) (x : X) (z : R) (h : F) → Known f → call_gives f x z h → gives (cell_of x) z) → (ns : List ℕ) → ns ≡ g.lengths → Collects yields_at call_gives o ns f r → Maps gives g r
  maps-of g cell_of gives at each ns same c = record {
    lengths = c.lengths ∙ same;
    whole = whole;
    cells = λ is z e.
        let k = Collects-at yields_at call_gives Known ns (λ i p x z h b y. keeps p x z h) o f r known c is (subst (λ ms. InBox ms is) c.lengths (cell-inside r is z e)) z e in
        (cell_of k.item, at is k.item k.yielded, each k.before k.item z k.after k.known k.given);
  }

  -- of two broadcast together
  pub combines-of : {A B : Type 0} (g : Grid A) (h : Grid B) (left_of : X → A) (right_of : X → B) (gives : A → B → R → Type 0)
      → ((i : List ℕ) (x : X) → yields_at i x → AreCellsAt g h i (left_of x) (right_of x))
      → ((f : F) (x : X) (z : R) (k : F) → Known f → call_gives f x z k → gives (left_of x) (right_of x) z)
      → (ns : List ℕ) → ns ≡ broadcast_lengths g.lengths h.lengths → Collects yields_at call_gives o ns f r → Combines g h gives r
  combines-of g h left_of right_of gives at each ns same c = record {
    lengths = c.lengths ∙ same;
    whole = whole;
    cells = λ is z e.
        let k = Collects-at yields_at call_gives Known ns (λ i p x z h b y. keeps p x z h) o f r known c is (subst (λ ms. InBox ms is) c.lengths (cell-inside r is z e)) z e in
        (left_of k.item, right_of k.item, at is k.item k.yielded, each k.before k.item z k.after k.known k.given);
  }

  -- of one and another that is broadcast to its lengths
  pub assigns-of : {B : Type 0} (g : Grid R) (h : Grid B) (right_of : X → B) (left_of : X → R) (gives : R → B → R → Type 0)
      → ((i : List ℕ) (x : X) → yields_at i x → is_pair_of_cells g h i (left_of x, right_of x))
      → ((f : F) (x : X) (z : R) (k : F) → Known f → call_gives f x z k → gives (left_of x) (right_of x) z)
      → (ns : List ℕ) → ns ≡ g.lengths → Collects yields_at call_gives o ns f r → Assigns gives g h r
  assigns-of g h right_of left_of gives at each ns same c = record {
    lengths = c.lengths ∙ same;
    whole = whole;
    cells = λ is z e.
        let k = Collects-at yields_at call_gives Known ns (λ i p x z h b y. keeps p x z h) o f r known c is (subst (λ ms. InBox ms is) c.lengths (cell-inside r is z e)) z e in
        (left_of k.item, right_of k.item, at is k.item k.yielded, each k.before k.item z k.after k.known k.given);
  }

-- Two arrays in either order.
module _ {A B : Type 0} (g : Grid A) (h : Grid B) (t : BroadcastTogether g.lengths h.lengths) where
  cells-exchanged : (is : List ℕ) (x : A) (y : B) → AreCellsAt h g is y x → AreCellsAt g h is x y
  cells-exchanged is x y a =
      let e = lengths-exchanged g.lengths h.lengths t in
      record {
        left = subst (λ ns. cell (broadcast_to g ns) is ≡ Some x) (sym e) a.right;
        right = subst (λ ns. cell (broadcast_to h ns) is ≡ Some y) (sym e) a.left;
      }

  pub can-exchanged : (can : A → B → Type 0) → CanCombine g h can → CanCombine h g (λ y x. can x y)
  can-exchanged can c = record {
    shapes = together-exchanged g.lengths h.lengths t;
    defined = λ is y x a. c.defined is x y (cells-exchanged is x y a);
  }

  pub combines-exchanged : {C : Type 0} (gives : A → B → C → Type 0) (r : Grid C) → Combines h g (λ y x. gives x y) r → Combines g h gives r
  combines-exchanged gives r c = record {
    lengths = c.lengths ∙ sym (lengths-exchanged g.lengths h.lengths t);
    whole = c.whole;
    cells = λ is z e. let (y, x, a, k) = c.cells is z e in (x, y, cells-exchanged is x y a, k);
  }
