-- Folds of parts of a list.
use Rattle.std.proofs.Common.{◌≡◌, ℕ, ◌<◌, Bool, true, false, List, [], ◌∷◌, ◌++◌, length, get_or, refl, sym, subst, ◌∙◌}
use Rattle.std.specs.List.{FoldsTo}
use Rattle.ndarray.specs.PartialFolds.{AreTwoParts, FoldsByParts, IsFoldOf, KeepsNothing, KeepsOneMore, kept_by_either}
use Rattle.ndarray.specs.Sums.{select}
use Rattle.ndarray.proofs.sums.Selections.{select-none}
use Rattle.ndarray.proofs.parts.EighthParts.{below, below-all}
use Rattle.ndarray.proofs.parts.KeptPlaces.{select-all, select-more, select-same}

FoldsTo-push : {A : Type 0} (gives : A → A → A → Type 0) (z : A) (xs : List A) (v x r : A) → FoldsTo gives z xs v → gives v x r → FoldsTo gives z (xs ++ (x ∷ [])) r
FoldsTo-push gives z [] v x r e h = (r, subst (λ t. gives t x r) (sym e) h, refl)
FoldsTo-push gives z (y ∷ ys) v x r e h = (e.0, e.1, FoldsTo-push gives e.0 ys v x r e.2 h)

module _ {A : Type 0} (starts : A → Type 0) (gives : A → A → A → Type 0) (xs : List A) where
  same-selection : (p q : ℕ → Bool) (v : A) → select p xs ≡ select q xs → IsFoldOf starts gives xs p v → IsFoldOf starts gives xs q v
  same-selection p q v e h = (h.0, (h.1.0, subst (λ l. FoldsTo gives h.0 l v) e h.1.1))

  -- of no place
  pub fold-none : (z : A) → starts z → (keep : ℕ → Bool) → KeepsNothing keep → IsFoldOf starts gives xs keep z
  fold-none z s keep none = (z, (s, subst (λ l. FoldsTo gives z l z) (sym (select-same keep (λ _. false) xs (λ k l. none k) ∙ select-none xs)) refl))

  -- of one place more
  pub fold-more : (keep next : ℕ → Bool) (i : ℕ) (v x r : A) → i < length xs → x ≡ get_or xs i x → gives v x r → KeepsOneMore keep i next → IsFoldOf starts gives xs keep v → IsFoldOf starts gives xs next r
  fold-more keep next i v x r l is g more h =
      (h.0, (h.1.0, subst (λ l. FoldsTo gives h.0 l r) (sym (select-more keep next xs i x l more is)) (FoldsTo-push gives h.0 (select keep xs) v x r h.1.1 g)))

  -- of two parts
  pub fold-joined : (can : A → A → Type 0) → FoldsByParts starts can gives xs → (p q both : ℕ → Bool) (v w r : A) → gives v w r → AreTwoParts p q both → IsFoldOf starts gives xs p v → IsFoldOf starts gives xs q w → IsFoldOf starts gives xs both r
  fold-joined can parts p q both v w r g two f h =
      same-selection (kept_by_either p q) both r (select-same (kept_by_either p q) both xs (λ k l. sym (two.union k))) (parts.joins p q two.apart v w f h r g)

  -- of all places
  pub fold-all : (v : A) → IsFoldOf starts gives xs (below (length xs)) v → (z : A) × (starts z × FoldsTo gives z xs v)
  fold-all v h =
      (h.0, (h.1.0, subst (λ l. FoldsTo gives h.0 l v) (select-same (below (length xs)) (λ _. true) xs (λ k l. below-all (length xs) k l) ∙ select-all xs) h.1.1))
