-- Kronecker products with identity matrices.
use Rattle.std.proofs.Common.{◌≡◌, ◌∙◌, ◌≢◌, ◌⊎◌, inl, inr, ℕ, ◌+◌, ◌*◌, ◌/◌, ◌%◌, ◌<◌, Bool, true, false, ap, arith, refl, sym}
use Rattle.std.specs.Prelude.{if◌then◌else◌, nat_eq}
use Rattle.std.proofs.Math.Nat.{div-eq_of_lt, mod-eq_of_lt}
use Rattle.std.proofs.lemmas.Bool.{eq-eqb, ne_eqb}
use Rattle.std.proofs.lemmas.Bool.Decides.{eqb_tells}
use Rattle.std.proofs.lemmas.Nat.{div-add-mod'}
use Rattle.ndarray.specs.Algebra.{CommutativeMonoid}
use Rattle.ndarray.specs.KroneckerLaws.{KroneckerOfIdentities, OneIsKroneckerNeutral}

-- numbers of the same block and the same place in it are the same
place-again : (p q n : ℕ) → p / n ≡ q / n → p % n ≡ q % n → p ≡ q
place-again p q n block place = sym (div-add-mod' p n) ∙ (ap (λ k. k * n + p % n) block ∙ (ap (λ k. q / n * n + k) place ∙ div-add-mod' q n))

module _ {C : Type 0} (plus times : CommutativeMonoid C) (absorbs : (x : C) → times.op plus.unit x ≡ plus.unit) where
  abbrev one_or_zero : Bool → C
  one_or_zero b = if b then times.unit else plus.unit

  pub kronecker-of_identities : KroneckerOfIdentities plus times
  kronecker-of_identities m n = record {
    rows = refl;
    columns = refl;
    cell = λ p q l k. each p q (eqb_tells (p / n) (q / n)) (eqb_tells (p % n) (q % n));
  }
    where
      both : (p q : ℕ) (a b : Bool) → nat_eq (p / n) (q / n) ≡ a → nat_eq (p % n) (q % n) ≡ b
          → times.op (one_or_zero (nat_eq (p / n) (q / n))) (one_or_zero (nat_eq (p % n) (q % n))) ≡ times.op (one_or_zero a) (one_or_zero b)
      both p q a b e f = ap (λ t. times.op (one_or_zero t) (one_or_zero (nat_eq (p % n) (q % n)))) e ∙ ap (λ t. times.op (one_or_zero a) (one_or_zero t)) f

      each : (p q : ℕ) → ((nat_eq (p / n) (q / n) ≡ true) × (p / n ≡ q / n)) ⊎ ((nat_eq (p / n) (q / n) ≡ false) × (p / n ≢ q / n))
          → ((nat_eq (p % n) (q % n) ≡ true) × (p % n ≡ q % n)) ⊎ ((nat_eq (p % n) (q % n) ≡ false) × (p % n ≢ q % n))
          → times.op (one_or_zero (nat_eq (p / n) (q / n))) (one_or_zero (nat_eq (p % n) (q % n))) ≡ one_or_zero (nat_eq p q)
      each p q (inl a) (inl b) = both p q true true a.0 b.0 ∙ (times.unit_op times.unit ∙ sym (ap one_or_zero (eq-eqb p q (place-again p q n a.1 b.1))))
      each p q (inl a) (inr b) = both p q true false a.0 b.0 ∙ (times.unit_op plus.unit ∙ sym (ap one_or_zero (ne_eqb p q (λ e. b.1 (ap (λ k. k % n) e)))))
      each p q (inr a) (inl b) = both p q false true a.0 b.0 ∙ (absorbs times.unit ∙ sym (ap one_or_zero (ne_eqb p q (λ e. a.1 (ap (λ k. k / n) e)))))
      each p q (inr a) (inr b) = both p q false false a.0 b.0 ∙ (absorbs plus.unit ∙ sym (ap one_or_zero (ne_eqb p q (λ e. a.1 (ap (λ k. k / n) e)))))

  -- the one cell of the identity matrix of one row
  corner : (p q : ℕ) (x : C) → p ≡ 0 → q ≡ 0 → times.op (one_or_zero (nat_eq p q)) x ≡ x
  corner p q x e f = ap (λ b. times.op (one_or_zero b) x) (eq-eqb p q (e ∙ sym f)) ∙ times.unit_op x

  pub one-neutral : OneIsKroneckerNeutral plus times
  one-neutral a = (
    record {
      rows = omega arith;
      columns = omega arith;
      cell = λ p q l m.
          let i : p < a.rows = omega (arith, l) in
          let j : q < a.columns = omega (arith, m) in
          corner (p / a.rows) (q / a.columns) (a.cell (p % a.rows) (q % a.columns)) (div-eq_of_lt i) (div-eq_of_lt j)
          ∙ (ap (λ k. a.cell k (q % a.columns)) (mod-eq_of_lt i) ∙ ap (a.cell p) (mod-eq_of_lt j));
    },
    record {
      rows = omega arith;
      columns = omega arith;
      cell = λ p q l m.
          let whole : (k : ℕ) → k / 1 ≡ k = λ k. div-one k in
          let rest : (k : ℕ) → k % 1 ≡ 0 = λ k. mod-one k in
          times.commutes (a.cell (p / 1) (q / 1)) (one_or_zero (nat_eq (p % 1) (q % 1)))
          ∙ (corner (p % 1) (q % 1) (a.cell (p / 1) (q / 1)) (rest p) (rest q) ∙ (ap (λ k. a.cell k (q / 1)) (whole p) ∙ ap (a.cell p) (whole q)));
    },
  )
    where
      mod-one : (k : ℕ) → k % 1 ≡ 0
      mod-one k = omega arith

      div-one : (k : ℕ) → k / 1 ≡ k
      div-one k = omega arith
