-- Places that lie a step apart, modulo 2 ^ 64: for `base`, `places` and `iter`.
use Rattle.std.specs.Prelude.{◌≡◌, ℕ, zero, suc, ◌+◌, ◌%◌, ◌^◌, List, [], ◌∷◌, Option, IsTrue, All, map}
use Rattle.std.specs.Option.{is_some}
use Rattle.ndarray.specs.Index.{size}
use Rattle.ndarray.specs.Orders.{box_in}
use Rattle.ndarray.specs.base.Places.{place}
use Rattle.ndarray.specs.declared.base.shape.Order.{Order}

-- n places from p on, each a step s after the one before
abbrev pub places_from : ℕ → ℕ → ℕ → List ℕ
places_from p s zero = []
places_from p s (suc n) = p ∷ places_from ((p + s) % 2 ^ 64) s n

-- the index lists of a box in an order lie at places that follow one another
abbrev pub LieSideBySide : Order → List ℕ → ℕ → List ℕ → Type 0
LieSideBySide o ns start bs = map (place start bs) (box_in o ns) ≡ places_from start 1 (size ns)

-- each of the places has an element
abbrev pub HaveElements : {A : Type 0} → (ℕ → Option A) → List ℕ → Type 0
HaveElements at ps = All (λ p. IsTrue (is_some (at p))) ps
