-- Running products of a list, one after the other.
use Rattle.std.proofs.Common.{◌≡◌, ℤ, List, [], ◌∷◌, sym, subst}
use Rattle.std.specs.Prelude.{◌↔◌, ◌*ℤ◌, FitsSigned}
use Rattle.std.specs.Int.{w64}
use Rattle.ndarray.specs.AlongAxis.{CanMultiplyOn}
use Rattle.ndtables.specs.Reducing.{CanCumulateList, multiplication_gives}

-- each number of the list may be multiplied on from the product p
abbrev pub MultipliesOn : ℤ → List ℤ → Type 0
MultipliesOn = CanMultiplyOn (λ x p. FitsSigned w64 (x *ℤ p)) multiplication_gives

-- the running products of a list, where those from p on of the rest of it are to come
pub record SameToCome (whole : List ℤ) (p : ℤ) (rest : List ℤ) : Type 0 where
  pub same : CanCumulateList whole ↔ MultipliesOn p rest

pub come-start : (whole : List ℤ) (p : ℤ) (rest : List ℤ) → whole ≡ p ∷ rest → SameToCome whole p rest
come-start whole p rest e = subst (λ w. SameToCome w p rest) (sym e) (record { same = (λ h. h, λ h. h) })

pub come-none : (whole : List ℤ) → whole ≡ [] → CanCumulateList whole
come-none whole e = subst CanCumulateList (sym e) tt

module _ (whole : List ℤ) (p : ℤ) (now : List ℤ) (x : ℤ) (rest : List ℤ) (e : now ≡ x ∷ rest) (come : SameToCome whole p now) where
  -- the next product is an `i64`
  pub come-next : (next : ℤ) → FitsSigned w64 (x *ℤ p) → next ≡ x *ℤ p → SameToCome whole next rest
  come-next next fits is =
      let before : CanCumulateList whole ↔ MultipliesOn p (x ∷ rest) = subst (λ zs. CanCumulateList whole ↔ MultipliesOn p zs) e come.same in
      record {
        same = (
          λ h. (before.0 h).1 next is,
          λ h. before.1 (fits, λ r gives. let same : next ≡ r = cc in subst (λ z. MultipliesOn z rest) same h),
        );
      }

  -- the next product is no `i64`
  pub come-refused : (FitsSigned w64 (x *ℤ p) → ⊥) → CanCumulateList whole → ⊥
  come-refused not h =
      let before : CanCumulateList whole ↔ MultipliesOn p (x ∷ rest) = subst (λ zs. CanCumulateList whole ↔ MultipliesOn p zs) e come.same in
      not (before.0 h).0

pub come-end : (whole : List ℤ) (p : ℤ) (now : List ℤ) → now ≡ [] → SameToCome whole p now → CanCumulateList whole
come-end whole p now e come = come.same.1 (subst (MultipliesOn p) (sym e) tt)
