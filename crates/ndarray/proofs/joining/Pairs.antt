-- Two arrays joined cell by cell: by turns a cell of the one and a cell of the other.
use Rattle.std.proofs.Common.{◌≡◌, ◌∙◌, ◌+◌, ◌<◌, ◌≤◌, ℕ, suc, List, [], ◌∷◌, ◌++◌, ◌⊎◌, All, ap, append-nil, append_assoc, arith, drop, filter_map, get_or, inl, inr, length, refl, sym}
use Rattle.std.specs.Prelude.{flat_map}
use Rattle.std.proofs.lemmas.List.Elements.{All-head, All-tail}
use Rattle.ndarray.specs.Grid.{Grid, cell}
use Rattle.ndarray.specs.Index.{size}
use Rattle.ndarray.specs.base.Builder.{BuilderState, pushed_all, pushed_to}
use Rattle.ndarray.specs.stacking.Blocks.{IsCellAt, blocks_at, by_turns}
use Rattle.ndarray.proofs.cells.Cells.{cell-Some}
use Rattle.ndarray.proofs.joining.Blocks.{block-one, pushed-length}
use Rattle.ndarray.proofs.sums.InnerSums.{drop-next}

module _ {A : Type 0} where
  pub turns-next : (ps qs ps1 qs1 : List A) (x y : A) → ps ≡ x ∷ ps1 → qs ≡ y ∷ qs1 → by_turns ps qs ≡ x ∷ y ∷ by_turns ps1 qs1
  turns-next ps qs ps1 qs1 x y e f = ap (λ l. by_turns l qs) e ∙ ap (by_turns (x ∷ ps1)) f

  -- those from a place on
  pub turns-from : (xs ys : List A) (i : ℕ) (x y : A) → i < length xs → i < length ys → x ≡ get_or xs i x → y ≡ get_or ys i y → by_turns (drop i xs) (drop i ys) ≡ x ∷ y ∷ by_turns (drop (i + 1) xs) (drop (i + 1) ys)
  turns-from xs ys i x y lt lt_y is is_y = turns-next _ _ _ _ x y (drop-next xs i x lt is) (drop-next ys i y lt_y is_y)

  turns-none : (xs : List A) → by_turns xs [] ≡ []
  turns-none [] = refl
  turns-none (x ∷ xs) = refl

  -- there are none where one of the lists has ended
  pub turns-ended : (ps qs : List A) → (ps ≡ []) ⊎ (qs ≡ []) → by_turns ps qs ≡ []
  turns-ended ps qs (inl none) = ap (λ l. by_turns l qs) none
  turns-ended ps qs (inr none) = ap (by_turns ps) none ∙ turns-none ps

  -- so there is room for two
  pub turns-room : (p q : BuilderState A) (ps qs ps1 qs1 whole : List A) (x y : A) → by_turns ps qs ≡ x ∷ y ∷ by_turns ps1 qs1 → pushed_all p (by_turns ps qs) ≡ pushed_all q whole → length q.cells + length whole ≤ size q.lengths → suc (length p.cells) < size p.lengths
  turns-room p q ps qs ps1 qs1 whole x y next e room =
      let all = pushed-length p q (by_turns ps qs) whole e in
      let two = ap length next in
      let same = ap (λ s. size s.lengths) e in
      omega (arith, all, two, same, room)

  -- two cells more
  pushed-two : (p : BuilderState A) (x y : A) (xs : List A) → pushed_all (pushed_to (pushed_to p x) y) xs ≡ pushed_all p (x ∷ y ∷ xs)
  pushed-two p x y xs = ap (λ ys. record { lengths = p.lengths; order = p.order; cells = ys }) (append_assoc (p.cells ++ x ∷ []) (y ∷ []) xs ∙ append_assoc p.cells (x ∷ []) (y ∷ xs))

  -- clones of the next two cells, and the cells to come
  pub pushed-pair : (p p1 p2 : BuilderState A) (x y u w : A) (turns rest : List A) → p1 ≡ pushed_to p u → p2 ≡ pushed_to p1 w → u ≡ x → w ≡ y → turns ≡ x ∷ y ∷ rest → pushed_all p2 rest ≡ pushed_all p turns
  pushed-pair p p1 p2 x y u w turns rest first second a b next =
      ap (λ q. pushed_all q rest) (second ∙ ap (λ q. pushed_to q w) first)
      ∙ (pushed-two p u w rest
      ∙ (ap (λ z. pushed_all p (z ∷ w ∷ rest)) a ∙ (ap (λ z. pushed_all p (x ∷ z ∷ rest)) b ∙ ap (pushed_all p) (sym next))))

  pub pushed-none : (p : BuilderState A) (xs : List A) → xs ≡ [] → p ≡ pushed_all p xs
  pushed-none p xs none = sym (ap (λ l. record { lengths = p.lengths; order = p.order; cells = l }) (append-nil p.cells)) ∙ ap (pushed_all p) (sym none)

  -- the blocks at the index lists of a row
  pub pairs-row : (a : ℕ) (g h : Grid A) (row : List (List ℕ)) → All (λ is. IsCellAt a is g × IsCellAt a is h) row → flat_map (λ is. blocks_at a is (g ∷ h ∷ [])) row ≡ by_turns (filter_map (cell g) row) (filter_map (cell h) row)
  pairs-row a g h [] each = refl
  pairs-row a g h (is ∷ row) each =
      let P = λ (js : List ℕ). IsCellAt a js g × IsCellAt a js h in
      let (first, second) = All-head P is row each in
      let (x, at) = cell-Some g first.whole is first.within in
      let (y, at_y) = cell-Some h second.whole is second.within in
      let one = block-one a is g x first.whole first.one first.within at in
      let other = block-one a is h y second.whole second.one second.within at_y in
      let rest = pairs-row a g h row (All-tail P is row each) in
      rw (at, at_y, one, other) (ap (λ l. x ∷ y ∷ l) rest)

pub two-of : {X : Type 0} (xs : List X) (x y : X) → length xs ≡ 2 → x ≡ get_or xs 0 x → y ≡ get_or xs 1 y → xs ≡ x ∷ y ∷ []
two-of [] x y n e f = absurd (omega (arith, n))
two-of (a ∷ []) x y n e f = absurd (omega (arith, n))
two-of (a ∷ b ∷ []) x y n e f = ap (λ z. z ∷ b ∷ []) (sym e) ∙ ap (λ z. x ∷ z ∷ []) (sym f)
two-of (a ∷ b ∷ c ∷ xs) x y n e f = absurd (omega (arith, n))
