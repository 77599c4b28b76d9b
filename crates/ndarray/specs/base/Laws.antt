-- What the laws of storages to write in cite: a list with one element replaced.
use Rattle.std.proofs.Common.{◌≡◌, ◌≢◌, ℕ, suc, zero, List, [], ◌∷◌, Option, Some, refl, arith}
use Rattle.std.specs.Prelude.{slice_get, slice_set, IsTrue}
use Rattle.std.specs.Option.{is_some}
use Rattle.ndarray.specs.base.Slots.{held_at}

-- what is put at a place is there then, and all other places keep what they have
pub slice_set-here : {X : Type 0} (xs : List X) (k : ℕ) (w : X) → IsTrue (is_some (slice_get xs k)) → slice_get (slice_set xs k w) k ≡ Some w
slice_set-here [] k w h = cc
slice_set-here (x ∷ xs) zero w h = refl
slice_set-here (x ∷ xs) (suc k) w h = slice_set-here xs k w h

pub slice_set-elsewhere : {X : Type 0} (xs : List X) (k j : ℕ) (w : X) → j ≢ k → slice_get (slice_set xs k w) j ≡ slice_get xs j
slice_set-elsewhere [] k j w h = refl
slice_set-elsewhere (x ∷ xs) zero zero w h = absurd (h refl)
slice_set-elsewhere (x ∷ xs) zero (suc j) w h = refl
slice_set-elsewhere (x ∷ xs) (suc k) zero w h = refl
slice_set-elsewhere (x ∷ xs) (suc k) (suc j) w h = slice_set-elsewhere xs k j w (λ e. h (omega arith))

-- the same for places of which some hold nothing
pub slot_set-here : {X : Type 0} (cs : List (Option X)) (k : ℕ) (w : X) → IsTrue (is_some (held_at cs k)) → held_at (slice_set cs k (Some w)) k ≡ Some w
slot_set-here [] k w h = cc
slot_set-here (c ∷ cs) zero w h = refl
slot_set-here (c ∷ cs) (suc k) w h = slot_set-here cs k w h

pub slot_set-elsewhere : {X : Type 0} (cs : List (Option X)) (k j : ℕ) (w : X) → j ≢ k → held_at (slice_set cs k (Some w)) j ≡ held_at cs j
slot_set-elsewhere [] k j w h = refl
slot_set-elsewhere (c ∷ cs) zero zero w h = absurd (h refl)
slot_set-elsewhere (c ∷ cs) zero (suc j) w h = refl
slot_set-elsewhere (c ∷ cs) (suc k) zero w h = refl
slot_set-elsewhere (c ∷ cs) (suc k) (suc j) w h = slot_set-elsewhere cs k j w (λ e. h (omega arith))
