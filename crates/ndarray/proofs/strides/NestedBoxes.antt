-- The strides of a box whose cells lie side by side are nested.
use Rattle.std.proofs.Common.{◌≡◌, ℕ, ◌+◌, ◌-◌, ◌*◌, ◌<◌, ◌≤◌, ◌^◌, suc, zero, List, [], ◌∷◌, length, reverse, drop, get_or, refl, sym, ◌∙◌, ap, arith, subst}
use Rattle.std.proofs.Math.Nat.{mul-le-mul_right}
use Rattle.std.proofs.lemmas.List.{length-reverse, get_or-reverse, reverse-reverse}
use Rattle.ndarray.specs.Index.{size}
use Rattle.ndarray.specs.Limits.{nonzero_size}
use Rattle.ndarray.specs.base.Nested.{distance, reach, reach_within, reached_within, sum_over_axes, AreNested}
use Rattle.ndarray.specs.base.Strides.{AreStridesOf}
use Rattle.ndarray.specs.declared.base.shape.Order.{Order}
use Rattle.ndarray.specs.declared.base.shape.Order.TheVariants.{RowMajor, ColumnMajor}
use Rattle.ndarray.proofs.boxes.Sizes.{size-le, size-reverse, size-drop_reverse}
use Rattle.ndarray.proofs.strides.SumsOverAxes.{sum_over_axes-one, sum_over_axes-le}
use Rattle.ndarray.proofs.strides.Distances.{distance-small, reach-long, within-far, within-le}
use Rattle.ndarray.proofs.strides.Nesting.{nested-each, nested-from_each}
use Rattle.ndarray.proofs.strides.NestedMoves.{nested-reversed}

-- an axis before all others whose stride is larger than their reach
module _ (n b : ℕ) (ns bs : List ℕ) (l : length bs ≡ length ns) (larger : sum_over_axes reach ns bs < distance b) (near : reach n b + sum_over_axes reach ns bs < 2 ^ 63) (h : AreNested ns bs) where
  -- the others do not notice it
  unseen : (k : ℕ) → k < length ns → 1 < get_or ns k 0 → reach_within (distance (get_or bs k 0)) n b ≡ 0
  unseen k lt long =
      let one = sum_over_axes-one reach ns bs k l lt in
      let r = reach-long (get_or ns k 0) (get_or bs k 0) long in
      within-far (distance (get_or bs k 0)) n b (omega (arith, one, r, larger))

  -- each axis, as the lists have it
  first-each : (k : ℕ) → k < length (n ∷ ns) → 1 < get_or (n ∷ ns) k 0 → reached_within (distance (get_or (b ∷ bs) k 0)) (n ∷ ns) (b ∷ bs) < reach (get_or (n ∷ ns) k 0) (get_or (b ∷ bs) k 0) + distance (get_or (b ∷ bs) k 0)
  unfolding sum_over_axes
  first-each zero lt long =
      let t = sum_over_axes-le (reach_within (distance b)) reach ns bs l (λ k _. within-le (distance b) (get_or ns k 0) (get_or bs k 0)) in
      let w = within-le (distance b) n b in
      omega (arith, t, w, larger)
  first-each (suc k) lt long =
      let u = unseen k (omega arith) long in
      let e = nested-each ns bs l h k (omega arith) long in
      omega (arith, u, e)

  nested-first : AreNested (n ∷ ns) (b ∷ bs)
  unfolding sum_over_axes
  nested-first = nested-from_each (n ∷ ns) (b ∷ bs) (omega arith) near first-each

-- factors of a product that is not 0
some-of_product : (n m : ℕ) → 0 < n * m → (0 < n) × (0 < m)
some-of_product zero m h = absurd (omega arith)
some-of_product (suc n) zero h = absurd (omega arith)
some-of_product (suc n) (suc m) h = (omega arith, omega arith)

-- row order: the stride of an axis is the size of the box of the later ones, which reach to the last place of it
nested-row : (ns bs : List ℕ) → length bs ≡ length ns → ((k : ℕ) → k < length ns → get_or bs k 0 ≡ size (drop (suc k) ns)) → 0 < size ns → size ns < 2 ^ 63 → AreNested ns bs × (sum_over_axes reach ns bs + 1 ≡ size ns)
unfolding sum_over_axes
nested-row [] bs l h some limit = (record { near = omega arith; each = λ k lt. absurd (omega arith) }, refl)
nested-row (n ∷ ns) [] l h some limit = absurd (omega arith)
nested-row (n ∷ ns) (b ∷ bs) l h some limit =
    let p = some-of_product n (size ns) some in
    let le : 1 * size ns ≤ n * size ns = mul-le-mul_right (size ns) p.0 in
    let ih = nested-row ns bs (omega arith) (λ k lt. h (suc k) (omega arith)) p.1 (omega (arith, le, limit)) in
    let t = ih.1 in
    let eb : b ≡ size ns = h 0 (omega arith) in
    let m : distance b ≡ size ns = ap distance eb ∙ distance-small (size ns) (omega (arith, le, limit)) in
    let r : reach n b ≡ (n - 1) * size ns = ap (λ x. (n - 1) * x) m in
    let q : (n - 1) * size ns + size ns ≡ n * size ns = let e : n ≡ n - 1 + 1 = omega (arith, p) in sym (ap (λ x. x * size ns) e ∙ omega arith) in
    (nested-first n b ns bs (omega arith) (omega (arith, t, m)) (omega (arith, t, r, q, limit)) ih.0, omega (arith, t, r, q))

-- the strides of a box whose cells lie side by side in an order
pub nested-strides : (o : Order) (ns bs : List ℕ) → AreStridesOf o ns bs → 0 < size ns → nonzero_size ns < 2 ^ 63 → AreNested ns bs
nested-strides RowMajor ns bs h some limit =
    let le = size-le ns in
    (nested-row ns bs h.as_many
    (λ k lt.
    let q : length ns - 1 - (length ns - 1 - k) ≡ k = omega arith in
    let q2 : length ns - (length ns - 1 - k) ≡ suc k = omega arith in
    ap (λ x. get_or bs x 0) (sym q) ∙ (h.each (length ns - 1 - k) (omega arith) ∙ ap (λ x. size (drop x ns)) q2))
    some (omega arith)).0
nested-strides ColumnMajor ns bs h some limit =
    let le = size-le ns in
    let l = h.as_many in
    let ln = length-reverse ns in
    let lb = length-reverse bs in
    let es = size-reverse ns in
    let row = nested-row (reverse ns) (reverse bs) (omega arith)
    (λ k lt.
    let q : length bs - 1 - k ≡ length ns - suc k = omega arith in
    let q2 : length ns - (length ns - suc k) ≡ suc k = omega arith in
    get_or-reverse bs k 0 (omega arith)
    ∙ (ap (λ x. get_or bs x 0) q
    ∙ (h.each (length ns - suc k) (omega arith)
    ∙ (sym (size-drop_reverse ns (length ns - suc k) (omega arith)) ∙ ap (λ x. size (drop x (reverse ns))) q2))))
    (omega arith) (omega arith) in
    subst (λ xs. AreNested xs bs) (reverse-reverse ns) (subst (λ xs. AreNested (reverse (reverse ns)) xs) (reverse-reverse bs) (nested-reversed (reverse ns) (reverse bs) (omega arith) row.0))
