-- The items of rows, one after another.
use Rattle.std.specs.Prelude.{◌≡◌, ◌<◌, ℕ, List, [], ◌∷◌, ◌++◌, All, MatchOption, Option, length}
use Rattle.ndarray.specs.Producers.{YieldsInTurnFrom}
use Rattle.ndarray.specs.order.Rows.{RowsInTurnFrom, joined}

-- Rows are given by calls of `rows`, and the items of a row by calls of `next`.
module _ {S R T A : Type 0} (rows : S → Option R → S → Type 0) (can_rows : S → Type 0) (is_row : List (List ℕ) → R → Type 0)
    (next : T → Option A → T → Type 0) (can_next : T → Type 0) (yields_at : List ℕ → A → Type 0) where
  -- the items at these index lists are still to come: those of a row that has begun, if there is one, and those of the rows behind it
  pub record HoldsItems (row : Option T) (behind : S) (is : List (List ℕ)) : Type 0 where
    pub here : List (List ℕ)
    pub others : List (List (List ℕ))
    pub parts : here ++ joined others ≡ is
    pub begun : MatchOption row (here ≡ []) (λ t. YieldsInTurnFrom next yields_at t here × can_next t)
    pub can : can_rows behind
    pub gives : RowsInTurnFrom rows is_row behind others
    pub some : All (λ js. 0 < length js) others

-- the item at the first of the index lists, and `holds` of the others; or `None` where there is none
abbrev pub GivesFirst : {A : Type 0} → (List ℕ → A → Type 0) → (List (List ℕ) → Type 0) → List (List ℕ) → Option A → Type 0
GivesFirst yields_at holds is o = MatchOption o (is ≡ []) (λ x. (i : List ℕ) × ((rest : List (List ℕ)) × ((is ≡ i ∷ rest) × (yields_at i x × holds rest))))
