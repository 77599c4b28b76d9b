-- Elements of a storage that are overwritten one after another, each by what a call returns at it and an item: for `zip::updating`.
use Rattle.std.specs.Prelude.{◌≡◌, ◌≢◌, ℕ, List, Option, Some, Result, Ok, Err, IsTrue, MatchResult}
use Rattle.std.specs.Option.{is_some}
use Rattle.ndarray.specs.Runs.{TurnAt, StopsAt, EndsOrStops}

-- where elements were those of the first function, w was written at a place, and all other places kept theirs
abbrev pub IsWritten : {A : Type 0} → (ℕ → Option A) → (ℕ → Option A) → ℕ → A → Type 0
IsWritten at after k w = (after k ≡ Some w) × ((p : ℕ) → p ≢ k → after p ≡ at p)

-- Below, the state is the storage and the closure, and an item is next to the place of an element.
-- there is an element, and the call may be made at it
abbrev pub MayWrite : {S F A X : Type 0} → (S → ℕ → Option A) → (F → A × X → Type 0) → S × F → X × ℕ → Type 0
MayWrite {A = A} at can_call s z = IsTrue (is_some (at s.0 z.1)) × ((a : A) → at s.0 z.1 ≡ Some a → can_call s.1 (a, z.0))

module _ {S F A X E : Type 0} (at : S → ℕ → Option A) where
  -- the call's answer is the element there
  abbrev pub WriteTurn : (F → A × X → Result A E → F → Type 0) → S × F → X × ℕ → S × F → Type 0
  WriteTurn call_gives s z t = (a : A) × (r : A) × (at s.0 z.1 ≡ Some a) × call_gives s.1 (a, z.0) (Ok r) t.1 × IsWritten (at s.0) (at t.0) z.1 r

  -- the call fails, and all elements are as before
  abbrev pub WriteStop : (F → A × X → Result A E → F → Type 0) → S × F → X × ℕ → S × E → Type 0
  WriteStop call_gives s z q = (a : A) × (h : F) × (at s.0 z.1 ≡ Some a) × call_gives s.1 (a, z.0) (Err q.1) h × (at q.0 ≡ at s.0)

  -- such turns led from the storage s to the storage t, up to the end or to the call that failed with an error
  abbrev pub WritesUntil : (F → A × X → Result A E → F → Type 0) → (List ℕ → X × ℕ → Type 0) → List (List ℕ) → F → S → S → Result (Unit {0}) E → Type 0
  WritesUntil call_gives yields_at is f s t r =
      let ends : Result (S × F) (S × E) → Type 0 = EndsOrStops {P = S × F} (TurnAt yields_at (WriteTurn call_gives)) (StopsAt yields_at (WriteStop call_gives)) (s, f) is in
      MatchResult r (λ _. (h : F) × ends (Ok (t, h))) (λ e. ends (Err (t, e)))
