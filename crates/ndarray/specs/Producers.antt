-- Producers: lengths, and the items that may be yielded at each index list.
use Rattle.std.specs.Prelude.{◌≡◌, ◌↔◌, ℕ, ◌+◌, ◌-◌, List, [], ◌∷◌, Option, Some, None, MatchOption, ◌⊎◌, slice_index, slice_set}
use Rattle.ndarray.specs.Index.{InBox}

module _ {S A : Type 0} (next : S → Option A → S → Type 0) (yields_at : List ℕ → A → Type 0) where
  -- from s on, calls of `next` give an item of each of the index lists in turn, and then `None`
  abbrev pub YieldsInTurnFrom : S → List (List ℕ) → Type 0
  YieldsInTurnFrom s [] = (x : A) (t : S) → next s (Some x) t → ⊥
  YieldsInTurnFrom s (i ∷ is) = ((t : S) → next s None t → ⊥) × ((x : A) (t : S) → next s (Some x) t → yields_at i x × YieldsInTurnFrom t is)

  -- the same, as one fact
  pub record YieldsInTurn (s : S) (is : List (List ℕ)) : Type 0 where
    pub from : YieldsInTurnFrom s is

module _ {P S T A B : Type 0} (first : P → S) (second : P → T) (next : S → Option A → S → Type 0) (others : T → Option B → T → Type 0) where
  -- both sides give an item, or one of them has ended
  abbrev pub steps_of_both : P → Option (A × B) → P → Type 0
  steps_of_both s r t = MatchOption r
      (((u : S) × next (first s) None u) ⊎ ((u : T) × others (second s) None u))
      (λ p. next (first s) (Some p.0) (first t) × others (second s) (Some p.1) (second t))

-- the items of two producers at an index list
abbrev pub both : {X Y : Type 0} → (List ℕ → X → Type 0) → (List ℕ → Y → Type 0) → List ℕ → X × Y → Type 0
both yields_at other_yields_at i t = yields_at i t.0 × other_yields_at i t.1

-- a producer of lengths ms shows what one of lengths ns does where the index on the axis is from `from` up to `to`, that index counted from `from`
pub record IsPart {X : Type 0} (axis from to : ℕ) (ns : List ℕ) (yields_at : List ℕ → X → Type 0) (ms : List ℕ) (other_yields_at : List ℕ → X → Type 0) : Type 0 where
  pub lengths : ms ≡ slice_set ns axis (to - from)
  pub items : (js : List ℕ) → InBox ms js → (x : X) → other_yields_at js x ↔ yields_at (slice_set js axis (from + slice_index js axis)) x
