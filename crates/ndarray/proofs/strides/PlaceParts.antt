-- The first of some places, and the others.
use Rattle.std.proofs.Common.{◌≡◌, ℕ, ◌+◌, ◌-◌, ◌*◌, ◌%◌, ◌^◌, ◌<◌, ◌≤◌, suc, zero, List, ◌∷◌, ◌++◌, ◌∙◌, length, min, take, drop, ap, arith, refl, sym}
use Rattle.std.proofs.Math.Nat.{mod-add-mod}
use Rattle.std.proofs.lemmas.List.{drop-map, drop_min, take-map, take_min}
use Rattle.ndarray.specs.base.Places.{place}
use Rattle.ndarray.specs.base.Strided.{places_from}
use Rattle.ndarray.specs.places.ElementPlaces.{places_along}
use Rattle.ndarray.proofs.lists.JoinedLists.{take-append, drop-append}

-- of places a step apart
pub places_from-take : (k p s n : ℕ) → k ≤ n → take k (places_from p s n) ≡ places_from p s k
places_from-take zero p s n le = refl
places_from-take (suc k) p s zero le = absurd (omega arith)
places_from-take (suc k) p s (suc n) le = ap (λ l. p ∷ l) (places_from-take k ((p + s) % 2 ^ 64) s n (omega arith))

pub places_from-drop : (k p s n q : ℕ) → q ≡ (p + k * s) % 2 ^ 64 → p < 2 ^ 64 → k ≤ n → drop k (places_from p s n) ≡ places_from q s (n - k)
places_from-drop zero p s n q e h le =
    ap (λ r. places_from r s n) (let same : p ≡ q = omega arith in same) ∙ ap (places_from q s) (let all : n ≡ n - 0 = omega arith in all)
places_from-drop (suc k) p s zero q e h le = absurd (omega arith)
places_from-drop (suc k) p s (suc n) q e h le =
    let sum : p + suc k * s ≡ p + s + k * s = omega arith in
    places_from-drop k ((p + s) % 2 ^ 64) s n q (e ∙ (ap (λ x. x % 2 ^ 64) sum ∙ sym (mod-add-mod (p + s) (2 ^ 64) (k * s)))) (omega arith) (omega arith)
    ∙ ap (places_from q s) (let left : n - k ≡ suc n - suc k = omega arith in left)

-- of those of a row and of index lists behind it
module _ (start : ℕ) (bs row : List ℕ) (ys : List (List ℕ)) (n m : ℕ) (e : m ≡ min n (length row)) where
  pub places-take : take m row ++ places_along start bs (take (n - m) ys) ≡ take n (row ++ places_along start bs ys)
  places-take =
      let left : n - m ≡ n - length row = omega arith in
      ap (λ k. take k row ++ places_along start bs (take (n - m) ys)) e
      ∙ (ap (λ l. l ++ places_along start bs (take (n - m) ys)) (take_min n row)
      ∙ (ap (λ k. take n row ++ places_along start bs (take k ys)) left
      ∙ (ap (λ l. take n row ++ l) (sym (take-map (place start bs) (n - length row) ys)) ∙ sym (take-append n row (places_along start bs ys)))))

  pub places-drop : drop m row ++ places_along start bs (drop (n - m) ys) ≡ drop n (row ++ places_along start bs ys)
  places-drop =
      let left : n - m ≡ n - length row = omega arith in
      ap (λ k. drop k row ++ places_along start bs (drop (n - m) ys)) e
      ∙ (ap (λ l. l ++ places_along start bs (drop (n - m) ys)) (drop_min n row)
      ∙ (ap (λ k. drop n row ++ places_along start bs (drop k ys)) left
      ∙ (ap (λ l. drop n row ++ l) (sym (drop-map (place start bs) (n - length row) ys)) ∙ sym (drop-append n row (places_along start bs ys)))))
