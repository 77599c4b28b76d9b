-- The transposes of triangles.
use Rattle.std.proofs.Common.{◌≡◌, ◌∙◌, ◌≤◌, ◌<◌, inl, inr, ℕ, Bool, true, false, if◌then◌else◌, List, [], ◌∷◌, length, reverse, ap, refl, sym, arith, subst}
use Rattle.std.specs.Prelude.{ℤ, pos, neg_ℤ, ◌-ℤ◌, int_le}
use Rattle.std.proofs.lemmas.Bool.{lt-ltb}
use Rattle.std.proofs.lemmas.Int.{ints}
use Rattle.std.proofs.lemmas.List.{length-reverse, reverse-reverse}
use Rattle.ndarray.specs.Grid.{Grid, IsGrid, cell, tabulate}
use Rattle.ndarray.specs.Index.{InBox}
use Rattle.ndarray.specs.TriangleLaws.{LowerTrianglesTranspose, UpperTrianglesTranspose}
use Rattle.ndarray.specs.Triangles.{diagonals_kept}
use Rattle.ndarray.specs.Views.{transpose_of}
use Rattle.ndarray.proofs.algebra.MeetingTriangles.{passes-or_fails, two-or-fewer}
use Rattle.ndarray.proofs.algebra.Triangles.{triangle-is, triangle-whole}
use Rattle.ndarray.proofs.boxes.Boxes.{InBox-length, InBox-reverse}
use Rattle.ndarray.proofs.callers.Cells.{transpose-cell, transpose_of-whole}
use Rattle.ndarray.proofs.callers.Triangles.{cleared-cell, int_le-false, int_le-true, kept-cell}
use Rattle.ndarray.proofs.cells.Cells.{same_grid}
use Rattle.ndarray.proofs.cells.Diagonals.{kept_at}

module _ {A : Type 0} (first second : ℤ → Bool) (turned : (i j : ℕ) → second (pos i -ℤ pos j) ≡ first (pos j -ℤ pos i)) (zero_cell : A) where
  -- with fewer than two axes all is kept
  itself : (keeps : ℤ → Bool) (g : Grid A) → length g.lengths < 2 → diagonals_kept keeps zero_cell g ≡ g
  itself keeps g few = ap (λ t. if t then g else tabulate g.lengths (kept_at keeps zero_cell g)) (lt-ltb (length g.lengths) 2 few)

  -- where one test says of i - j what the other says of j - i, they keep transposed arrays
  pub kept-transposed : (g : Grid A) → IsGrid g → length g.lengths ≤ 2 → transpose_of (diagonals_kept first zero_cell g) ≡ diagonals_kept second zero_cell (transpose_of g)
  kept-transposed g whole most = elim (two-or-fewer (length g.lengths)) [
    | inl few ↦ let long = length-reverse g.lengths in ap transpose_of (itself first g few) ∙ sym (itself second (transpose_of g) (omega (arith, long, few)))
    | inr axes ↦ on_two axes
  ]
    where
      on_two : 2 ≤ length g.lengths → transpose_of (diagonals_kept first zero_cell g) ≡ diagonals_kept second zero_cell (transpose_of g)
      on_two axes =
          same_grid (transpose_of kept) cleared turned_whole cleared_whole (ap (λ h. reverse h.lengths) kept_is ∙ sym (ap (λ h. h.lengths) cleared_is))
          (λ is b.
          let back : InBox (reverse (reverse kept.lengths)) (reverse is) = InBox-reverse (reverse kept.lengths) is b in
          let here : InBox g.lengths (reverse is) = subst (λ ns. InBox ns (reverse is)) (reverse-reverse kept.lengths ∙ ap (λ h. h.lengths) kept_is) back in
          let long = InBox-length g.lengths (reverse is) here in
          subst (λ js. cell (transpose_of kept) js ≡ cell cleared js) (reverse-reverse is) (each (reverse is) (omega (arith, long, most, axes)) here))
        where
          kept : Grid A
          kept = diagonals_kept first zero_cell g

          kept_is : kept ≡ tabulate g.lengths (kept_at first zero_cell g)
          kept_is = triangle-is first zero_cell g axes

          kept_whole : IsGrid kept
          kept_whole = triangle-whole first zero_cell g axes whole

          turned_whole : IsGrid (transpose_of kept)
          turned_whole = transpose_of-whole kept kept_whole

          t : Grid A
          t = transpose_of g

          t_whole : IsGrid t
          t_whole = transpose_of-whole g whole

          t_axes : 2 ≤ length t.lengths
          t_axes = let long = length-reverse g.lengths in omega (arith, long, axes)

          cleared : Grid A
          cleared = diagonals_kept second zero_cell t

          cleared_is : cleared ≡ tabulate t.lengths (kept_at second zero_cell t)
          cleared_is = triangle-is second zero_cell t t_axes

          cleared_whole : IsGrid cleared
          cleared_whole = triangle-whole second zero_cell t t_axes t_whole

          at : (i j : ℕ) → InBox g.lengths (i ∷ j ∷ []) → (b : Bool) → first (pos j -ℤ pos i) ≡ b → cell (transpose_of kept) (j ∷ i ∷ []) ≡ cell cleared (j ∷ i ∷ [])
          at i j box true passes =
              transpose-cell kept (i ∷ j ∷ []) turned_whole (subst (λ h. InBox h.lengths (i ∷ j ∷ [])) (sym kept_is) box)
              ∙ (kept-cell first zero_cell g axes kept_whole (i ∷ j ∷ []) box passes
              ∙ sym (kept-cell second zero_cell t t_axes cleared_whole (j ∷ i ∷ []) (InBox-reverse g.lengths (i ∷ j ∷ []) box) (turned i j ∙ passes) ∙ transpose-cell g (i ∷ j ∷ []) t_whole box))
          at i j box false fails =
              transpose-cell kept (i ∷ j ∷ []) turned_whole (subst (λ h. InBox h.lengths (i ∷ j ∷ [])) (sym kept_is) box)
              ∙ (cleared-cell first zero_cell g axes kept_whole (i ∷ j ∷ []) box fails
              ∙ sym (cleared-cell second zero_cell t t_axes cleared_whole (j ∷ i ∷ []) (InBox-reverse g.lengths (i ∷ j ∷ []) box) (turned i j ∙ fails)))

          each : (js : List ℕ) → length js ≡ 2 → InBox g.lengths js → cell (transpose_of kept) (reverse js) ≡ cell cleared (reverse js)
          each [] two box = absurd (omega (arith, two))
          each (i ∷ []) two box = absurd (omega (arith, two))
          each (i ∷ j ∷ []) two box = at i j box (first (pos j -ℤ pos i)) refl
          each (i ∷ j ∷ k ∷ js) two box = absurd (omega (arith, two))

below-turned : (k : ℤ) (i j : ℕ) → int_le (pos i -ℤ pos j) (neg_ℤ k) ≡ int_le k (pos j -ℤ pos i)
below-turned k i j = elim (passes-or_fails k (pos j -ℤ pos i)) [
  | inl a ↦ let up = a.1 in int_le-true (pos i -ℤ pos j) (neg_ℤ k) (omega (arith, ints, up)) ∙ sym a.0
  | inr a ↦ let down = a.1 in int_le-false (pos i -ℤ pos j) (neg_ℤ k) (λ h. omega (arith, ints, down, h)) ∙ sym a.0
]

above-turned : (k : ℤ) (i j : ℕ) → int_le (neg_ℤ k) (pos i -ℤ pos j) ≡ int_le (pos j -ℤ pos i) k
above-turned k i j = elim (passes-or_fails (pos j -ℤ pos i) k) [
  | inl a ↦ let up = a.1 in int_le-true (neg_ℤ k) (pos i -ℤ pos j) (omega (arith, ints, up)) ∙ sym a.0
  | inr a ↦ let down = a.1 in int_le-false (neg_ℤ k) (pos i -ℤ pos j) (λ h. omega (arith, ints, down, h)) ∙ sym a.0
]

module _ {A : Type 0} where
  pub upper-triangles_transpose : UpperTrianglesTranspose A
  upper-triangles_transpose zero_cell k g whole most = kept-transposed (λ d. int_le k d) (λ d. int_le d (neg_ℤ k)) (below-turned k) zero_cell g whole most

  pub lower-triangles_transpose : LowerTrianglesTranspose A
  lower-triangles_transpose zero_cell k g whole most = kept-transposed (λ d. int_le d k) (λ d. int_le (neg_ℤ k) d) (above-turned k) zero_cell g whole most
