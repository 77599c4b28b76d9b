-- The full convolution commutes and is associative.
use Rattle.std.proofs.Common.{◌≡◌, ℕ, zero, suc, ◌+◌, ◌-◌, ◌<◌, ◌≤◌, List, [], ◌∷◌, length, refl, sym, ap, ◌∙◌, arith, inl, inr}
use Rattle.std.proofs.lemmas.Bool.{cases_lt}
use Rattle.std.proofs.lemmas.Bool.Decides.{nat_tests}
use Rattle.ndarray.specs.Algebra.{CommutativeMonoid}
use Rattle.ndarray.specs.Convolution.{full_length, convolution_products, full_convolution_by, full_convolution}
use Rattle.ndarray.specs.ConvolutionLaws.{HaveFullLength, ConvolutionsCommute, ConvolutionsAssociate}
use Rattle.ndarray.specs.Matrices.{values_below}
use Rattle.ndarray.specs.Sums.{total}
use Rattle.ndarray.proofs.convolution.Cauchy.{cauchy, cauchy-same, cauchy-commutes, cauchy-associates, cauchy-zero}
use Rattle.ndarray.proofs.convolution.ProductLists.{value_at, value_at-past, absorbs_right, total-convolution_products}
use Rattle.ndarray.proofs.convolution.ValueSums.{length-below, below-same}

pub full_length-some : (n m : ℕ) → 1 ≤ n → 1 ≤ m → full_length n m ≡ n + m - 1
full_length-some n m p q = grind (arith, nat_tests)

pub full_length-left : (n m : ℕ) → n ≡ 0 → full_length n m ≡ 0
full_length-left n m e = grind (arith, nat_tests)

pub full_length-right : (n m : ℕ) → m ≡ 0 → full_length n m ≡ 0
full_length-right n m e = grind (arith, nat_tests)

pub full_length-commutes : (n m : ℕ) → full_length n m ≡ full_length m n
full_length-commutes zero m = full_length-left 0 m refl ∙ sym (full_length-right m 0 refl)
full_length-commutes (suc n) zero = full_length-right (suc n) 0 refl ∙ sym (full_length-left 0 (suc n) refl)
full_length-commutes (suc n) (suc m) = full_length-some (suc n) (suc m) (omega arith) (omega arith) ∙ (omega arith ∙ sym (full_length-some (suc m) (suc n) (omega arith) (omega arith)))

pub full_length-associates : (n m k : ℕ) → full_length (full_length n m) k ≡ full_length n (full_length m k)
full_length-associates zero m k = full_length-left (full_length 0 m) k (full_length-left 0 m refl) ∙ sym (full_length-left 0 (full_length m k) refl)
full_length-associates (suc n) zero k = full_length-left (full_length (suc n) 0) k (full_length-right (suc n) 0 refl) ∙ sym (full_length-right (suc n) (full_length 0 k) (full_length-left 0 k refl))
full_length-associates (suc n) (suc m) zero = full_length-right (full_length (suc n) (suc m)) 0 refl ∙ sym (full_length-right (suc n) (full_length (suc m) 0) (full_length-right (suc m) 0 refl))
full_length-associates (suc n) (suc m) (suc k) =
    let a = full_length-some (suc n) (suc m) (omega arith) (omega arith) in
    let b = full_length-some (suc m) (suc k) (omega arith) (omega arith) in
    let x : full_length (suc n) (suc m) ≡ suc n + m = omega (arith, a) in
    let y : full_length (suc m) (suc k) ≡ suc m + k = omega (arith, b) in
    let c = full_length-some (suc n + m) (suc k) (omega arith) (omega arith) in
    let d = full_length-some (suc n) (suc m + k) (omega arith) (omega arith) in
    ap (λ t. full_length t (suc k)) x ∙ (c ∙ (omega arith ∙ (sym d ∙ ap (full_length (suc n)) (sym y))))

module _ {C : Type 0} (plus times : CommutativeMonoid C)
    (distributes : (x y z : C) → times.op x (plus.op y z) ≡ plus.op (times.op x y) (times.op x z))
    (absorbs : (x : C) → times.op plus.unit x ≡ plus.unit) where
  module _ {A : Type 0} (value : A → C) where
    pub length-full_convolution : (xs ys : List A) → length (full_convolution_by plus times value xs ys) ≡ full_length (length xs) (length ys)
    length-full_convolution xs ys = length-below (full_length (length xs) (length ys)) (λ s. total plus (convolution_products times value xs ys s))

    -- zero from the end on
    past : (xs ys : List A) (s : ℕ) → full_length (length xs) (length ys) ≤ s → cauchy plus times (value_at plus times value xs) (value_at plus times value ys) s ≡ plus.unit
    past [] ys s h = cauchy-zero plus times _ _ s (λ i j e. absorbs (value_at plus times value ys j))
    past (x ∷ xs) [] s h = cauchy-zero plus times _ _ s (λ i j e. absorbs_right plus times value absorbs (value_at plus times value (x ∷ xs) i))
    past (x ∷ xs) (y ∷ ys) s h = cauchy-zero plus times _ _ s (λ i j e.
        elim (cases_lt i (suc (length xs))) [
          | inl l ↦ ap (times.op (value_at plus times value (x ∷ xs) i)) (value_at-past plus times value (y ∷ ys) j (let f = full_length-some (suc (length xs)) (suc (length ys)) (omega arith) (omega arith) in omega arith))
              ∙ absorbs_right plus times value absorbs (value_at plus times value (x ∷ xs) i)
          | inr l ↦ ap (λ t. times.op t (value_at plus times value (y ∷ ys) j)) (value_at-past plus times value (x ∷ xs) i l) ∙ absorbs (value_at plus times value (y ∷ ys) j)
        ])

  pub at-below : (n : ℕ) (f : ℕ → C) (s : ℕ) → s < n → value_at plus times (λ x. x) (values_below n f) s ≡ f s
  at-below zero f s h = absurd (omega arith)
  at-below (suc n) f zero h = refl
  at-below (suc n) f (suc s) h = at-below n (λ i. f (suc i)) s (omega arith)

  -- the value of the full convolution at any place, also past its end
  pub at-full_convolution : {A : Type 0} (value : A → C) (xs ys : List A) (s : ℕ) → value_at plus times (λ x. x) (full_convolution_by plus times value xs ys) s ≡ cauchy plus times (value_at plus times value xs) (value_at plus times value ys) s
  at-full_convolution value xs ys s =
      elim (cases_lt s (full_length (length xs) (length ys))) [
        | inl l ↦ at-below (full_length (length xs) (length ys)) (λ s. total plus (convolution_products times value xs ys s)) s l ∙ total-convolution_products plus times value absorbs xs ys s
        | inr l ↦ value_at-past plus times (λ x. x) (full_convolution_by plus times value xs ys) s (let e = length-full_convolution value xs ys in omega arith) ∙ sym (past value xs ys s l)
      ]

  pub convolutions_commute : ConvolutionsCommute plus times
  convolutions_commute xs ys =
      below-same (full_length (length xs) (length ys)) (full_length (length ys) (length xs)) _ _ (full_length-commutes (length xs) (length ys))
      (λ s l. total-convolution_products plus times (λ x. x) absorbs xs ys s ∙ (cauchy-commutes plus times _ _ s ∙ sym (total-convolution_products plus times (λ x. x) absorbs ys xs s)))

  pub convolutions_associate : ConvolutionsAssociate plus times
  convolutions_associate xs ys zs =
      let at = λ (ws : List C). value_at plus times (λ x. x) ws in
      let xy : List C = full_convolution plus times xs ys in
      let yz : List C = full_convolution plus times ys zs in
      below-same (full_length (length xy) (length zs)) (full_length (length xs) (length yz)) _ _
      (ap (λ n. full_length n (length zs)) (length-full_convolution (λ x. x) xs ys) ∙ (full_length-associates (length xs) (length ys) (length zs) ∙ ap (full_length (length xs)) (sym (length-full_convolution (λ x. x) ys zs))))
      (λ s l.
      total-convolution_products plus times (λ x. x) absorbs xy zs s
      ∙ (cauchy-same plus times (at xy) (cauchy plus times (at xs) (at ys)) (at zs) (at zs) s (λ i h. at-full_convolution (λ x. x) xs ys i) (λ i h. refl)
      ∙ (cauchy-associates plus times distributes (at xs) (at ys) (at zs) s
      ∙ (cauchy-same plus times (at xs) (at xs) (cauchy plus times (at ys) (at zs)) (at yz) s (λ i h. refl) (λ i h. sym (at-full_convolution (λ x. x) ys zs i))
      ∙ sym (total-convolution_products plus times (λ x. x) absorbs xs yz s)))))

  pub have_full_length : HaveFullLength plus times
  have_full_length xs ys = length-full_convolution (λ x. x) xs ys
