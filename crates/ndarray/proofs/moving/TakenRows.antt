-- The next row of places is taken out of a region, and the others are left.
use Rattle.std.proofs.Common.{◌≡◌, ◌∙◌, ◌∷◌, ◌++◌, ℕ, List, Option, ap, map, subst, sym}
use Rattle.std.specs.Prelude.{All, filter_map}
use Rattle.std.proofs.lemmas.List.{map-append}
use Rattle.ndarray.specs.order.Rows.{joined}
use Rattle.ndarray.specs.base.Places.{place}
use Rattle.ndarray.specs.base.Ranks.{row_from}
use Rattle.ndarray.specs.places.ElementPlaces.{AreDistinctPlaces, HaveRows, places_along}
use Rattle.ndarray.proofs.moving.RowPlaces.{rest-each, rows-kept}

module _ {A : Type 0} (at : ℕ → Option A) (start : ℕ) (bs : List ℕ) (rows rest : List (List (List ℕ))) (is : List ℕ) (axis n : ℕ) (e : rows ≡ row_from is axis n ∷ rest) (h : HaveRows at start bs rows) (ps : List ℕ)
    (own : ps ≡ places_along start bs (row_from is axis n)) where
  -- no place of the row is one of the others
  pub row-apart : AreDistinctPlaces at (ps ++ places_along start bs (joined rest))
  row-apart = rw own (subst (AreDistinctPlaces at) (ap (λ l. places_along start bs (joined l)) e ∙ map-append (place start bs) (row_from is axis n) (joined rest)) h.distinct)

  module _ (after : ℕ → Option A) (others : (qs : List ℕ) → AreDistinctPlaces at (ps ++ qs) → AreDistinctPlaces after qs × All (λ q. after q ≡ at q) qs) where
    pub rows-left : HaveRows after start bs rest
    rows-left = record { each = rest-each start bs rows rest is axis n e h.each; distinct = (others _ row-apart).0 }

    -- the elements of the row, and those of the others
    pub row-taken : (xs : List A) → xs ≡ filter_map at ps → map (λ row. filter_map at (places_along start bs row)) rows ≡ xs ∷ map (λ row. filter_map after (places_along start bs row)) rest
    row-taken xs taken =
        let found = λ (row : List (List ℕ)). filter_map at (places_along start bs row) in
        ap (map found) e ∙ (ap (λ x. x ∷ map found rest) (sym (taken ∙ ap (filter_map at) own)) ∙ ap (λ l. xs ∷ l) (sym (rows-kept at after start bs rest (others _ row-apart).1)))
