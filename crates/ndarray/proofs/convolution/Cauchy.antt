-- Convolutions of functions on the natural numbers: at s, the sum of f i times h j over all i + j = s.
use Rattle.std.proofs.Common.{◌≡◌, ℕ, zero, suc, ◌+◌, ◌≤◌, refl, sym, ap, ◌∙◌, arith}
use Rattle.ndarray.specs.Algebra.{CommutativeMonoid}

module _ {C : Type 0} (plus times : CommutativeMonoid C) where
  abbrev pub cauchy : (ℕ → C) → (ℕ → C) → ℕ → C
  cauchy f h zero = times.op (f 0) (h 0)
  cauchy f h (suc s) = plus.op (times.op (f 0) (h (suc s))) (cauchy (λ i. f (suc i)) h s)

  pub cauchy-same : (f f1 h h1 : ℕ → C) (s : ℕ) → ((i : ℕ) → i ≤ s → f i ≡ f1 i) → ((i : ℕ) → i ≤ s → h i ≡ h1 i) → cauchy f h s ≡ cauchy f1 h1 s
  cauchy-same f f1 h h1 zero e d = ap (λ t. times.op t (h 0)) (e 0 (omega arith)) ∙ ap (times.op (f1 0)) (d 0 (omega arith))
  cauchy-same f f1 h h1 (suc s) e d =
      ap (λ t. plus.op (times.op t (h (suc s))) (cauchy (λ i. f (suc i)) h s)) (e 0 (omega arith))
      ∙ ap (λ t. plus.op (times.op (f1 0) t) (cauchy (λ i. f (suc i)) h s)) (d (suc s) (omega arith))
      ∙ ap (plus.op (times.op (f1 0) (h1 (suc s)))) (cauchy-same (λ i. f (suc i)) (λ i. f1 (suc i)) h h1 s (λ i l. e (suc i) (omega arith)) (λ i l. d i (omega arith)))

  -- the last product apart
  pub cauchy-last : (f h : ℕ → C) (s : ℕ) → cauchy f h (suc s) ≡ plus.op (cauchy f (λ i. h (suc i)) s) (times.op (f (suc s)) (h 0))
  cauchy-last f h zero = refl
  cauchy-last f h (suc s) =
      ap (plus.op (times.op (f 0) (h (suc (suc s))))) (cauchy-last (λ i. f (suc i)) h s)
      ∙ sym (plus.associates (times.op (f 0) (h (suc (suc s)))) (cauchy (λ i. f (suc i)) (λ i. h (suc i)) s) (times.op (f (suc (suc s))) (h 0)))

  pub cauchy-commutes : (f h : ℕ → C) (s : ℕ) → cauchy f h s ≡ cauchy h f s
  cauchy-commutes f h zero = times.commutes (f 0) (h 0)
  cauchy-commutes f h (suc s) =
      plus.commutes (times.op (f 0) (h (suc s))) (cauchy (λ i. f (suc i)) h s)
      ∙ ap (λ t. plus.op t (times.op (f 0) (h (suc s)))) (cauchy-commutes (λ i. f (suc i)) h s)
      ∙ ap (plus.op (cauchy h (λ i. f (suc i)) s)) (times.commutes (f 0) (h (suc s)))
      ∙ sym (cauchy-last h f s)

  -- zero where each product is
  pub cauchy-zero : (f h : ℕ → C) (s : ℕ) → ((i j : ℕ) → i + j ≡ s → times.op (f i) (h j) ≡ plus.unit) → cauchy f h s ≡ plus.unit
  cauchy-zero f h zero e = e 0 0 (omega arith)
  cauchy-zero f h (suc s) e =
      ap (λ t. plus.op t (cauchy (λ i. f (suc i)) h s)) (e 0 (suc s) (omega arith))
      ∙ plus.unit_op (cauchy (λ i. f (suc i)) h s)
      ∙ cauchy-zero (λ i. f (suc i)) h s (λ i j p. e (suc i) j (omega arith))

  exchange : (a b c d : C) → plus.op (plus.op a b) (plus.op c d) ≡ plus.op (plus.op a c) (plus.op b d)
  exchange a b c d =
      plus.associates a b (plus.op c d)
      ∙ ap (plus.op a) (sym (plus.associates b c d) ∙ ap (λ t. plus.op t d) (plus.commutes b c) ∙ plus.associates c b d)
      ∙ sym (plus.associates a c (plus.op b d))

  module _ (distributes : (x y z : C) → times.op x (plus.op y z) ≡ plus.op (times.op x y) (times.op x z)) where
    distributes_left : (x y z : C) → times.op (plus.op x y) z ≡ plus.op (times.op x z) (times.op y z)
    distributes_left x y z =
        times.commutes (plus.op x y) z
        ∙ distributes z x y
        ∙ ap (λ t. plus.op t (times.op z y)) (times.commutes z x)
        ∙ ap (plus.op (times.op x z)) (times.commutes z y)

    cauchy-plus : (f f1 h : ℕ → C) (s : ℕ) → cauchy (λ i. plus.op (f i) (f1 i)) h s ≡ plus.op (cauchy f h s) (cauchy f1 h s)
    cauchy-plus f f1 h zero = distributes_left (f 0) (f1 0) (h 0)
    cauchy-plus f f1 h (suc s) =
        ap (λ t. plus.op t (cauchy (λ i. plus.op (f (suc i)) (f1 (suc i))) h s)) (distributes_left (f 0) (f1 0) (h (suc s)))
        ∙ ap (plus.op (plus.op (times.op (f 0) (h (suc s))) (times.op (f1 0) (h (suc s))))) (cauchy-plus (λ i. f (suc i)) (λ i. f1 (suc i)) h s)
        ∙ exchange (times.op (f 0) (h (suc s))) (times.op (f1 0) (h (suc s))) (cauchy (λ i. f (suc i)) h s) (cauchy (λ i. f1 (suc i)) h s)

    cauchy-times : (c : C) (f h : ℕ → C) (s : ℕ) → cauchy (λ i. times.op c (f i)) h s ≡ times.op c (cauchy f h s)
    cauchy-times c f h zero = times.associates c (f 0) (h 0)
    cauchy-times c f h (suc s) =
        ap (λ t. plus.op t (cauchy (λ i. times.op c (f (suc i))) h s)) (times.associates c (f 0) (h (suc s)))
        ∙ ap (plus.op (times.op c (times.op (f 0) (h (suc s))))) (cauchy-times c (λ i. f (suc i)) h s)
        ∙ sym (distributes c (times.op (f 0) (h (suc s))) (cauchy (λ i. f (suc i)) h s))

    pub cauchy-associates : (f h k : ℕ → C) (s : ℕ) → cauchy (cauchy f h) k s ≡ cauchy f (cauchy h k) s
    cauchy-associates f h k zero = times.associates (f 0) (h 0) (k 0)
    cauchy-associates f h k (suc s) =
        let first : C = times.op (times.op (f 0) (h 0)) (k (suc s)) in
        let rest : C = cauchy (λ i. f (suc i)) (cauchy h k) s in
        ap (plus.op first) (cauchy-plus (λ i. times.op (f 0) (h (suc i))) (cauchy (λ i. f (suc i)) h) k s)
        ∙ ap (λ t. plus.op first (plus.op t (cauchy (cauchy (λ i. f (suc i)) h) k s))) (cauchy-times (f 0) (λ i. h (suc i)) k s)
        ∙ ap (λ t. plus.op first (plus.op (times.op (f 0) (cauchy (λ i. h (suc i)) k s)) t)) (cauchy-associates (λ i. f (suc i)) h k s)
        ∙ sym (plus.associates first (times.op (f 0) (cauchy (λ i. h (suc i)) k s)) rest)
        ∙ ap (λ t. plus.op (plus.op t (times.op (f 0) (cauchy (λ i. h (suc i)) k s))) rest) (times.associates (f 0) (h 0) (k (suc s)))
        ∙ ap (λ t. plus.op t rest) (sym (distributes (f 0) (times.op (h 0) (k (suc s))) (cauchy (λ i. h (suc i)) k s)))
