-- The laws of Kronecker products alone.
use Rattle.std.proofs.Common.{◌≡◌, ℕ, zero, suc, ◌+◌, ◌*◌, ◌/◌, ◌%◌, ◌<◌, ◌≤◌, refl, sym, ap, ◌∙◌, arith}
use Rattle.std.proofs.Math.Nat.{mod-lt, mul_assoc, mul-le-mul_right}
use Rattle.std.proofs.lemmas.Nat.{div-mul-add, mod-mul-add, div-add-mod'}
use Rattle.ndarray.specs.Algebra.{CommutativeMonoid}
use Rattle.ndarray.specs.MatrixLaws.{KroneckersAssociate, KroneckersTranspose}

-- a number in a block of n in a block of m: its outer place, its inner place, and what is left
record Digits (m n p : ℕ) : Type 0 where
  outer : p / n / m ≡ p / (m * n)
  inner : p / n % m ≡ p % (m * n) / n
  rest : p % n ≡ p % (m * n) % n

in_block : (y z m n : ℕ) → y < m → z < n → y * n + z < m * n
in_block y z m n lt small =
    let above : suc y * n ≤ m * n = mul-le-mul_right n (omega arith) in
    omega (arith, above)

digits : (m n p : ℕ) → 0 < m → 0 < n → Digits m n p
digits m n p some_m some_n =
    let q = p / n in
    let z = p % n in
    let x = q / m in
    let y = q % m in
    let small : z < n = mod-lt p some_n in
    let low : y < m = mod-lt q some_m in
    let below = in_block y z m n low small in
    let of_p = div-add-mod' p n in
    let of_q = div-add-mod' q m in
    let parts : p ≡ x * (m * n) + (y * n + z) = parts-are p q x y z m n (sym of_p) (sym of_q) in
    let whole : p % (m * n) ≡ y * n + z = ap (λ k. k % (m * n)) parts ∙ mod-mul-add x (m * n) (y * n + z) below in
    record {
      outer = sym (ap (λ k. k / (m * n)) parts ∙ div-mul-add x (m * n) (y * n + z) below);
      inner = sym (ap (λ k. k / n) whole ∙ div-mul-add y n z small);
      rest = sym (ap (λ k. k % n) whole ∙ mod-mul-add y n z small);
    }
  where
    parts-are : (p q x y z m n : ℕ) → p ≡ q * n + z → q ≡ x * m + y → p ≡ x * (m * n) + (y * n + z)
    parts-are p q x y z m n e f = e ∙ (ap (λ k. k * n + z) f ∙ omega (arith, mul_assoc x m n))

-- lengths that are factors of more than a number are not 0
some-right : (k n i : ℕ) → i < k * n → 0 < n
some-right k zero i lt = absurd (omega arith)
some-right k (suc n) i lt = omega arith

some-middle : (l m n i : ℕ) → i < l * m * n → 0 < m
some-middle l zero n i lt = absurd (omega arith)
some-middle l (suc m) n i lt = omega arith

module _ {C : Type 0} (times : CommutativeMonoid C) where
  pub kroneckers_associate : KroneckersAssociate times
  kroneckers_associate a b c = record {
    rows = mul_assoc a.rows b.rows c.rows;
    columns = mul_assoc a.columns b.columns c.columns;
    cell = λ p q l m.
        let i = digits b.rows c.rows p (some-middle a.rows b.rows c.rows p l) (some-right (a.rows * b.rows) c.rows p l) in
        let j = digits b.columns c.columns q (some-middle a.columns b.columns c.columns q m) (some-right (a.columns * b.columns) c.columns q m) in
        times.associates _ _ _
        ∙ (ap (λ t. times.op t (times.op (b.cell (p / c.rows % b.rows) (q / c.columns % b.columns)) (c.cell (p % c.rows) (q % c.columns)))) (same a.cell i.outer j.outer)
        ∙ ap (times.op (a.cell (p / (b.rows * c.rows)) (q / (b.columns * c.columns))))
        (ap (λ t. times.op t (c.cell (p % c.rows) (q % c.columns))) (same b.cell i.inner j.inner)
        ∙ ap (times.op (b.cell (p % (b.rows * c.rows) / c.rows) (q % (b.columns * c.columns) / c.columns))) (same c.cell i.rest j.rest)));
  }
    where
      same : (f : ℕ → ℕ → C) {i j k l : ℕ} → i ≡ j → k ≡ l → f i k ≡ f j l
      same f {i = i} {l = l} e h = ap (f i) h ∙ ap (λ n. f n l) e

  pub kroneckers_transpose : KroneckersTranspose times
  kroneckers_transpose a b = record { rows = refl; columns = refl; cell = λ i j l m. refl }
