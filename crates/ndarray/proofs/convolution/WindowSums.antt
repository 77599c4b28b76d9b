-- Windows times an array of their lengths, and the kernel that it is with its axes turned round.
use Rattle.std.proofs.Common.{◌≡◌, ℕ, List, length, reverse, sym, ap, ◌∙◌, subst}
use Rattle.std.specs.Prelude.{Result}
use Rattle.ndarray.specs.Algebra.{CommutativeMonoid}
use Rattle.ndarray.specs.Convolution.{single_steps, valid_counts, valid_products, window_products}
use Rattle.ndarray.specs.Grid.{Grid, IsGrid}
use Rattle.ndarray.specs.Index.{InBox, size}
use Rattle.ndarray.specs.Products.{HasValues, MakesValues, products_of}
use Rattle.ndarray.specs.Subviews.{window}
use Rattle.ndarray.specs.Sums.{IsSummable}
use Rattle.ndarray.specs.declared.elements.Valued.{Ghosts as ValuedGhosts}
use Rattle.ndarray.proofs.callers.Collecting.{if_ok-both}
use Rattle.ndarray.proofs.cells.Cells.{cell-inside}
use Rattle.ndarray.proofs.convolution.WholeWindows.{products-backwards}

-- the window at a position has the array's lengths, and the products may be summed
pub window_products-summable : {A C : Type 0} (plus times : CommutativeMonoid C) (P : C → Type 0) (value : A → C) (g m k x : Grid A) (ps : List ℕ)
    → k ≡ m → IsSummable plus P (window_products times value g m ps) → x ≡ window g m.lengths (single_steps g.lengths) ps → (x.lengths ≡ k.lengths) × IsSummable plus P (products_of times value x.cells k.cells)
window_products-summable plus times P value g m k x ps e sums at = (
  ap (λ w. w.lengths) at ∙ sym (ap (λ w. w.lengths) e),
  subst (λ w. IsSummable plus P (products_of times value x.cells w.cells)) (sym e) (subst (λ w. IsSummable plus P (products_of times value w.cells m.cells)) (sym at) sums),
)

-- the products are those of the valid convolution, where the array has the kernel's cells backwards
pub window_products-valid : {A C : Type 0} (plus times : CommutativeMonoid C) (value : A → C) (g kernel m : Grid A) (ps : List ℕ)
    → IsGrid g → IsGrid kernel → length kernel.lengths ≡ length g.lengths → m.lengths ≡ kernel.lengths → m.cells ≡ reverse kernel.cells → InBox (valid_counts g.lengths kernel.lengths) ps
    → window_products times value g m ps ≡ valid_products times value g kernel ps
window_products-valid plus times value g kernel m ps whole_g whole_k axes lengths cells inside =
    ap (λ ws. products_of times value (window g ws (single_steps g.lengths) ps).cells m.cells) lengths
    ∙ (ap (products_of times value (window g kernel.lengths (single_steps g.lengths) ps).cells) cells
    ∙ sym (products-backwards g whole_g plus times value kernel whole_k axes ps inside))

-- an array that has the values of a function has those of one that is equal in the box
pub values-in_box : {A E : Type 0} (e : ValuedGhosts A) (ns ms : List ℕ) (f h : List ℕ → e.Carrier) (r : Result (Grid A) E) → ns ≡ ms → ((is : List ℕ) → InBox ms is → f is ≡ h is) → MakesValues e ns f r → MakesValues e ms h r
values-in_box e ns ms f h r same agree made = record {
  made = if_ok-both r (HasValues e ns f) (HasValues e ns f) (HasValues e ms h)
      (λ x has _. record {
        lengths = has.lengths ∙ same;
        whole = has.whole;
        cells = λ is z at. has.cells is z at ∙ agree is (subst (λ ks. InBox ks is) (has.lengths ∙ same) (cell-inside x is z at));
      })
      made.made made.made;
  empty = λ none. made.empty (ap size same ∙ none);
}
