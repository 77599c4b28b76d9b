-- An array, and a kernel that is seen from its other end.
use Rattle.std.proofs.Common.{◌≡◌, ◌∙◌, ℕ, List, length, reverse, ap, subst}
use Rattle.ndarray.specs.Algebra.{CommutativeMonoid}
use Rattle.ndarray.specs.Convolution.{valid_counts, valid_products, window_products}
use Rattle.ndarray.specs.Grid.{Grid, IsGrid}
use Rattle.ndarray.specs.Index.{InBox}
use Rattle.ndarray.proofs.convolution.WindowSums.{window_products-valid}

-- two arrays, and how they are seen: the first as it is, the kernel backwards
pub record AreSeen {A : Type 0} (a kernel seen mirrored : Grid A) : Type 0 where
  pub same : seen ≡ a
  pub whole : IsGrid a
  pub kernel_whole : IsGrid kernel
  pub lengths : mirrored.lengths ≡ kernel.lengths
  pub cells : mirrored.cells ≡ reverse kernel.cells

pub are-seen : {A : Type 0} (a kernel seen seen_kernel mirrored : Grid A) → seen ≡ a → IsGrid seen → seen_kernel ≡ kernel → IsGrid seen_kernel → mirrored.lengths ≡ seen_kernel.lengths → mirrored.cells ≡ reverse seen_kernel.cells
    → AreSeen a kernel seen mirrored
are-seen a kernel seen seen_kernel mirrored same whole same_kernel whole_kernel lengths cells = record {
  same = same;
  whole = subst IsGrid same whole;
  kernel_whole = subst IsGrid same_kernel whole_kernel;
  lengths = lengths ∙ ap (λ w. w.lengths) same_kernel;
  cells = cells ∙ ap (λ w. reverse w.cells) same_kernel;
}

module _ {A : Type 0} {a kernel seen mirrored : Grid A} (s : AreSeen a kernel seen mirrored) where
  pub counts-seen : valid_counts seen.lengths mirrored.lengths ≡ valid_counts a.lengths kernel.lengths
  counts-seen = ap (λ w. valid_counts w.lengths mirrored.lengths) s.same ∙ ap (valid_counts a.lengths) s.lengths

  pub products-seen : {C : Type 0} (plus times : CommutativeMonoid C) (value : A → C) → length kernel.lengths ≡ length a.lengths → (ps : List ℕ) → InBox (valid_counts a.lengths kernel.lengths) ps
      → window_products times value seen mirrored ps ≡ valid_products times value a kernel ps
  products-seen plus times value as_many ps here =
      ap (λ w. window_products times value w mirrored ps) s.same ∙ window_products-valid plus times value a kernel mirrored ps s.whole s.kernel_whole as_many s.lengths s.cells here
