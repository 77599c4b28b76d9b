-- Folds of parts of a list, and when they can be joined.
use Rattle.std.specs.Prelude.{◌≡◌, ℕ, ◌<◌, ◌≤◌, Bool, true, false, ◌||◌, List, length, slice_index_or}
use Rattle.std.specs.List.{FoldsTo}
use Rattle.ndarray.specs.Sums.{select}

-- no place is kept
abbrev pub KeepsNothing : (ℕ → Bool) → Type 0
KeepsNothing keep = (k : ℕ) → keep k ≡ false

-- all places that are kept are below i
abbrev pub EndsBefore : (ℕ → Bool) → ℕ → Type 0
EndsBefore keep i = (k : ℕ) → i ≤ k → keep k ≡ false

-- next keeps place i, which is behind all that keep has, and else the same
pub record KeepsOneMore (keep : ℕ → Bool) (i : ℕ) (next : ℕ → Bool) : Type 0 where
  pub ends : EndsBefore keep i
  pub before : (k : ℕ) → k < i → next k ≡ keep k
  pub here : next i ≡ true
  pub behind : (k : ℕ) → i < k → next k ≡ false

-- no place is kept by both
abbrev pub AreApart : (ℕ → Bool) → (ℕ → Bool) → Type 0
AreApart p q = (k : ℕ) → p k ≡ true → q k ≡ true → ⊥

-- the places that one of the two keeps
abbrev pub kept_by_either : (ℕ → Bool) → (ℕ → Bool) → ℕ → Bool
kept_by_either p q k = p k || q k

-- two parts without a common place, and what they are together
pub record AreTwoParts (p q both : ℕ → Bool) : Type 0 where
  pub apart : AreApart p q
  pub union : (k : ℕ) → both k ≡ kept_by_either p q k

-- the fold of the part of a list that is kept, one after the other, from a start
abbrev pub IsFoldOf : {A : Type 0} → (A → Type 0) → (A → A → A → Type 0) → List A → (ℕ → Bool) → A → Type 0
IsFoldOf starts gives xs keep v = (z : _) × (starts z × FoldsTo gives z (select keep xs) v)

-- There is one start, each part of the list can be folded, and the folds of two parts without a common place can be joined: that gives the fold of both parts together.
pub record FoldsByParts {A : Type 0} (starts : A → Type 0) (can : A → A → Type 0) (gives : A → A → A → Type 0) (xs : List A) : Type 0 where
  pub one_start : (y z : A) → starts y → starts z → y ≡ z
  pub may_step : (keep : ℕ → Bool) (i : ℕ) → i < length xs → EndsBefore keep i
      → (v x : A) → IsFoldOf starts gives xs keep v → x ≡ slice_index_or xs i x → can v x
  pub may_join : (p q : ℕ → Bool) → AreApart p q
      → (v w : A) → IsFoldOf starts gives xs p v → IsFoldOf starts gives xs q w → can v w
  pub joins : (p q : ℕ → Bool) → AreApart p q
      → (v w : A) → IsFoldOf starts gives xs p v → IsFoldOf starts gives xs q w
      → (r : A) → gives v w r → IsFoldOf starts gives xs (kept_by_either p q) r
