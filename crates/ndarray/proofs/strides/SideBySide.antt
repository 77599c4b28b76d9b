-- Places that follow one another.
use Rattle.std.proofs.Common.{◌≡◌, ℕ, ◌+◌, ◌%◌, ◌<◌, ◌^◌, suc, zero, List, [], ◌∷◌, length, get_or, Option, Some, refl, sym, ◌∙◌, ap, arith, subst}
use Rattle.std.specs.Prelude.{filter_map, IsTrue, slice_get}
use Rattle.std.specs.Option.{is_some}
use Rattle.std.proofs.lemmas.List.Elements.{All-head, All-tail}
use Rattle.ndarray.specs.base.Strided.{places_from, HaveElements}
use Rattle.ndarray.proofs.strides.Rows.{length-places_from}

-- the k-th of places that follow one another
pub place-one : (n p k d : ℕ) → p + k < 2 ^ 64 → k < n → get_or (places_from p 1 n) k d ≡ p + k
place-one zero p k d fits lt = absurd (omega arith)
place-one (suc n) p zero d fits lt = omega arith
place-one (suc n) p (suc k) d fits lt =
    let next : (p + 1) % 2 ^ 64 ≡ p + 1 = omega arith in
    let ih = place-one n (p + 1) k d (omega arith) (omega arith) in
    ap (λ q. get_or (places_from q 1 n) k d) next ∙ (ih ∙ (let e : p + 1 + k ≡ p + suc k = omega arith in e))

-- places that follow one another do so from the first of them on
pub from-first : (n p s q : ℕ) → places_from p s n ≡ places_from q 1 n → places_from p 1 n ≡ places_from p s n
from-first zero p s q e = refl
from-first (suc n) p s q e = let here : p ≡ q = cc in ap (λ r. places_from r 1 (suc n)) here ∙ sym e

module _ {A : Type 0} (at : ℕ → Option A) where
  there : (n p k : ℕ) → p + n < 2 ^ 64 → HaveElements at (places_from p 1 n) → k < n → IsTrue (is_some (at (p + k)))
  there zero p k fits h lt = absurd (omega arith)
  there (suc n) p zero fits h lt =
      let e : p ≡ p + 0 = omega arith in
      subst (λ q. IsTrue (is_some (at q))) e (All-head (λ q. IsTrue (is_some (at q))) p (places_from ((p + 1) % 2 ^ 64) 1 n) h)
  there (suc n) p (suc k) fits h lt =
      let next : (p + 1) % 2 ^ 64 ≡ p + 1 = omega arith in
      let e : p + 1 + k ≡ p + suc k = omega arith in
      subst (λ q. IsTrue (is_some (at q))) e
      (there n (p + 1) k (omega arith) (subst (λ q. HaveElements at (places_from q 1 n)) next (All-tail (λ q. IsTrue (is_some (at q))) p (places_from ((p + 1) % 2 ^ 64) 1 n) h)) (omega arith))

  pub places-there : (s n p : ℕ) → s ≡ 1 → p + n < 2 ^ 64 → HaveElements at (places_from p s n) → (k : ℕ) → k < n → IsTrue (is_some (at (p + k)))
  places-there s n p one fits h k lt = there n p k fits (subst (λ t. HaveElements at (places_from p t n)) one h) lt

  elements : (n p : ℕ) (xs : List A) → p + n < 2 ^ 64 → length xs ≡ n → ((k : ℕ) → k < n → slice_get xs k ≡ at (p + k)) → filter_map at (places_from p 1 n) ≡ xs
  elements zero p [] fits l e = refl
  elements zero p (x ∷ xs) fits l e = absurd (omega arith)
  elements (suc n) p [] fits l e = absurd (omega arith)
  elements (suc n) p (x ∷ xs) fits l e =
      let zeroth : p + 0 ≡ p = omega arith in
      let here : at p ≡ Some x = sym (e 0 (omega arith) ∙ ap at zeroth) in
      let next : (p + 1) % 2 ^ 64 ≡ p + 1 = omega arith in
      let ih : filter_map at (places_from (p + 1) 1 n) ≡ xs =
      elements n (p + 1) xs (omega arith) (omega arith) (λ k lt. e (suc k) (omega arith) ∙ ap at (let q : p + suc k ≡ p + 1 + k = omega arith in q)) in
      let rest : filter_map at (places_from ((p + 1) % 2 ^ 64) 1 n) ≡ xs = ap (λ q. filter_map at (places_from q 1 n)) next ∙ ih in
      rw (here, rest) refl

  pub places-elements : (s n p : ℕ) (xs : List A) → s ≡ 1 → p + n < 2 ^ 64 → length xs ≡ n → ((k : ℕ) → k < n → slice_get xs k ≡ at (p + k)) → filter_map at (places_from p s n) ≡ xs
  places-elements s n p xs one fits l e = ap (λ t. filter_map at (places_from p t n)) one ∙ elements n p xs fits l e

  -- where each place from p on has an element
  pub places-have : (n p : ℕ) → p + n < 2 ^ 64 → ((k : ℕ) → k < n → IsTrue (is_some (at (p + k)))) → HaveElements at (places_from p 1 n)
  places-have n p fits h = λ k d lt. let l = length-places_from p 1 n in subst (λ q. IsTrue (is_some (at q))) (sym (place-one n p k d (omega arith) (omega arith))) (h k (omega arith))

-- a slice has an element at each place below its length
pub slice-has : {A : Type 0} (xs : List A) (k : ℕ) → k < length xs → IsTrue (is_some (slice_get xs k))
slice-has [] k lt = absurd (omega arith)
slice-has (x ∷ xs) zero lt = refl
slice-has (x ∷ xs) (suc k) lt = slice-has xs k (omega arith)

module _ {A : Type 0} (at : ℕ → Option A) (xs : List A) (fits : length xs < 2 ^ 64) (each : (k : ℕ) → at k ≡ slice_get xs k) where
  from-zero : (k : ℕ) → at (0 + k) ≡ slice_get xs k
  from-zero k = ap at (let e : 0 + k ≡ k = omega arith in e) ∙ each k

  -- where the elements are those of a slice, its places are those from 0 on
  pub slice-places : HaveElements at (places_from 0 1 (length xs))
  slice-places = places-have at (length xs) 0 (omega arith) (λ k lt. subst (λ o. IsTrue (is_some o)) (sym (from-zero k)) (slice-has xs k lt))

  pub slice-elements : filter_map at (places_from 0 1 (length xs)) ≡ xs
  slice-elements = places-elements at 1 (length xs) 0 xs refl (omega arith) refl (λ k lt. sym (from-zero k))
