-- The whole numbers with multiplication: it associates, distributes over addition, and zero absorbs.
use Rattle.std.specs.Prelude.{◌≡◌, ℕ, ℤ, zero, suc, pos, negsuc, ◌+ℤ◌, ◌*ℤ◌, neg_ℤ}
use Rattle.std.proofs.Common.{refl, sym, ap, ◌∙◌}
use Rattle.std.proofs.Math.IntN.{+ℤ_assoc, +ℤ_comm, +ℤ_idl, *ℤ_comm, *ℤ-one, zero-*ℤ, +ℤ_idr, +ℤ_invr, +ℤ_invl, suc_ℤ, pred_ℤ, suc_ℤ-+ℤ, pred_ℤ-+ℤ, suc_ℤ-*ℤ, pred_ℤ-*ℤ}
use lib.Signed.{mag}

-- the third part of a sum moves before the second
sum-exchanged : (a b c : ℤ) → (a +ℤ b) +ℤ c ≡ (a +ℤ c) +ℤ b
sum-exchanged a b c = +ℤ_assoc a b c ∙ ap (λ t. a +ℤ t) (+ℤ_comm b c) ∙ sym (+ℤ_assoc a c b)

distributes-up : (x y k : ℤ) → (x +ℤ y) *ℤ k ≡ x *ℤ k +ℤ y *ℤ k → (suc_ℤ x +ℤ y) *ℤ k ≡ suc_ℤ x *ℤ k +ℤ y *ℤ k
distributes-up x y k h = rw (suc_ℤ-+ℤ x y, suc_ℤ-*ℤ (x +ℤ y) k, suc_ℤ-*ℤ x k, h) (sum-exchanged (x *ℤ k) (y *ℤ k) k)

distributes-down : (x y k : ℤ) → (x +ℤ y) *ℤ k ≡ x *ℤ k +ℤ y *ℤ k → (pred_ℤ x +ℤ y) *ℤ k ≡ pred_ℤ x *ℤ k +ℤ y *ℤ k
distributes-down x y k h = rw (pred_ℤ-+ℤ x y, pred_ℤ-*ℤ (x +ℤ y) k, pred_ℤ-*ℤ x k, h) (sum-exchanged (x *ℤ k) (y *ℤ k) (neg_ℤ k))

distributes-zero : (y k : ℤ) → (pos 0 +ℤ y) *ℤ k ≡ pos 0 *ℤ k +ℤ y *ℤ k
distributes-zero y k = rw (+ℤ_idl y, zero-*ℤ k, +ℤ_idl (y *ℤ k)) refl

times-distributes : (x y k : ℤ) → (x +ℤ y) *ℤ k ≡ x *ℤ k +ℤ y *ℤ k
times-distributes (pos zero) y k = distributes-zero y k
times-distributes (pos (suc n)) y k = distributes-up (pos n) y k (times-distributes (pos n) y k)
times-distributes (negsuc zero) y k = distributes-down (pos zero) y k (distributes-zero y k)
times-distributes (negsuc (suc n)) y k = distributes-down (negsuc n) y k (times-distributes (negsuc n) y k)

associates-up : (x y z : ℤ) → (x *ℤ y) *ℤ z ≡ x *ℤ (y *ℤ z) → (suc_ℤ x *ℤ y) *ℤ z ≡ suc_ℤ x *ℤ (y *ℤ z)
associates-up x y z h = rw (suc_ℤ-*ℤ x y, suc_ℤ-*ℤ x (y *ℤ z), times-distributes (x *ℤ y) y z, h) refl

times-negated : (x k : ℤ) → neg_ℤ x *ℤ k ≡ neg_ℤ (x *ℤ k)
times-negated x k =
    let whole : (x *ℤ k) +ℤ (neg_ℤ x *ℤ k) ≡ pos 0 = sym (times-distributes x (neg_ℤ x) k) ∙ ap (λ t. t *ℤ k) (+ℤ_invr x) ∙ zero-*ℤ k in
    sym (+ℤ_idl (neg_ℤ x *ℤ k))
    ∙ ap (λ t. t +ℤ (neg_ℤ x *ℤ k)) (sym (+ℤ_invl (x *ℤ k)))
    ∙ +ℤ_assoc (neg_ℤ (x *ℤ k)) (x *ℤ k) (neg_ℤ x *ℤ k)
    ∙ ap (λ t. neg_ℤ (x *ℤ k) +ℤ t) whole
    ∙ +ℤ_idr (neg_ℤ (x *ℤ k))

associates-down : (x y z : ℤ) → (x *ℤ y) *ℤ z ≡ x *ℤ (y *ℤ z) → (pred_ℤ x *ℤ y) *ℤ z ≡ pred_ℤ x *ℤ (y *ℤ z)
associates-down x y z h = rw (pred_ℤ-*ℤ x y, pred_ℤ-*ℤ x (y *ℤ z), times-distributes (x *ℤ y) (neg_ℤ y) z, times-negated y z, h) refl

associates-zero : (y z : ℤ) → (pos 0 *ℤ y) *ℤ z ≡ pos 0 *ℤ (y *ℤ z)
associates-zero y z = rw (zero-*ℤ y, zero-*ℤ z, zero-*ℤ (y *ℤ z)) refl

pub times-associates : (x y z : ℤ) → (x *ℤ y) *ℤ z ≡ x *ℤ (y *ℤ z)
times-associates (pos zero) y z = associates-zero y z
times-associates (pos (suc n)) y z = associates-up (pos n) y z (times-associates (pos n) y z)
times-associates (negsuc zero) y z = associates-down (pos zero) y z (associates-zero y z)
times-associates (negsuc (suc n)) y z = associates-down (negsuc n) y z (times-associates (negsuc n) y z)

pub one-times : (x : ℤ) → pos 1 *ℤ x ≡ x
unfolding lib.IntN.one
one-times x = *ℤ_comm (pos 1) x ∙ *ℤ-one x

pub int_distributes : (x y z : ℤ) → x *ℤ (y +ℤ z) ≡ x *ℤ y +ℤ x *ℤ z
int_distributes x y z = rw (*ℤ_comm x (y +ℤ z), *ℤ_comm x y, *ℤ_comm x z) (times-distributes y z x)

pub int_absorbs : (x : ℤ) → pos 0 *ℤ x ≡ pos 0
int_absorbs x = zero-*ℤ x

-- a natural number is known by its whole number
pub natural-same : (a b : ℕ) → pos a ≡ pos b → a ≡ b
natural-same a b e = ap mag e
