-- Elements that are moved out along a way of places.
use Rattle.std.proofs.Common.{◌≡◌, ℕ, ◌<◌, ◌⊎◌, ◌↔◌, ◌≢◌, zero, suc, List, [], ◌∷◌, Option, Some, None, map, length, get_or, filter_map, slice_get, refl, sym, ap, ◌∙◌, subst, arith, inl, inr}
use Rattle.std.specs.Prelude.{All, Contains}
use Rattle.std.specs.List.{cons_option}
use Rattle.std.proofs.lemmas.List.{get_or-set_other, get_or_default, length-map}
use lib.ListN.{set, length-set}
use Rattle.ndarray.specs.base.Slots.{IsFilled}
use Rattle.ndarray.specs.places.Moving.{found, HoldsAllButPassed}

module _ {X : Type 0} where
  -- a row of full slots holds the list
  pub slot-full : (xs : List X) (p : ℕ) → get_or (map Some xs) p None ≡ slice_get xs p
  slot-full [] p = refl
  slot-full (x ∷ xs) zero = refl
  slot-full (x ∷ xs) (suc p) = slot-full xs p

  -- so each of its places holds an element
  there-full : (xs : List X) (p : ℕ) → p < length (map Some xs) → IsFilled (map Some xs) p
  there-full [] p lt = absurd (omega (arith, lt))
  there-full (x ∷ xs) zero lt = (x, refl)
  there-full (x ∷ xs) (suc p) lt = there-full xs p (omega (arith, lt))

  -- a slot that was emptied is empty
  pub emptied : (cs : List (Option X)) (p : ℕ) → get_or (set cs p None) p None ≡ None
  emptied [] p = refl
  emptied (c ∷ cs) zero = refl
  emptied (c ∷ cs) (suc p) = emptied cs p

  -- and one that was empty stays so
  pub stays-empty : (cs : List (Option X)) (p q : ℕ) → get_or cs q None ≡ None → get_or (set cs p None) q None ≡ None
  stays-empty [] p q e = refl
  stays-empty (c ∷ cs) zero zero e = refl
  stays-empty (c ∷ cs) zero (suc q) e = e
  stays-empty (c ∷ cs) (suc p) zero e = e
  stays-empty (c ∷ cs) (suc p) (suc q) e = stays-empty cs p q e

  -- where the way has not begun
  pub holds-new : (passed : ℕ → Type 0) (places : List ℕ) (xs : List X) → All (λ p. p < length xs) places → ((p : ℕ) → passed p → ⊥) → HoldsAllButPassed passed places (map Some xs)
  holds-new passed places xs within begins = record {
    there = λ p lt not_yet. there-full xs p lt;
    gone = λ p was. absurd (begins p was);
    ahead = λ k d lt. there-full xs (get_or places k d) (subst (λ n. get_or places k d < n) (sym (length-map xs (λ x. Some x))) (within k d lt));
  }

  -- what is to come then
  pub found-new : (xs : List X) (places : List ℕ) → found (map Some xs) places ≡ filter_map (slice_get xs) places
  found-new xs places = λ i. filter_map (λ p. slot-full xs p i) places

  -- after the first place was passed, and its element moved out
  pub holds-next : (passed passed' : ℕ → Type 0) (p : ℕ) (places : List ℕ) (cs : List (Option X))
      → HoldsAllButPassed passed (p ∷ places) cs → (Contains places p → ⊥) → ((q : ℕ) → passed' q ↔ (passed q ⊎ (◌≡◌ {A = Option ℕ} (Some p) (Some q)))) → HoldsAllButPassed passed' places (set cs p None)
  holds-next passed passed' p places cs s once now = record {
    there = λ q lt not_yet.
        let other : q ≢ p = λ e. not_yet ((now q).1 (inr (ap (λ k. Some k) (sym e)))) in
        let had = s.there q (subst (λ n. q < n) (length-set cs p None) lt) (λ was. not_yet ((now q).1 (inl was))) in
        (had.0, get_or-set_other cs p q None None other ∙ had.1);
    gone = λ q was. elim ((now q).0 was) [
      | inl before ↦ stays-empty cs p q (s.gone q before)
      | inr here ↦ (let e : p ≡ q = cc in subst (λ k. get_or (set cs p None) k None ≡ None) e (emptied cs p))
    ];
    ahead = λ k d lt.
        let q : ℕ = get_or places k d in
        let other : q ≢ p = λ e. once (k, lt, get_or_default places k p d lt ∙ e) in
        let had = s.ahead (suc k) d (omega (arith, lt)) in
        (had.0, get_or-set_other cs p q None None other ∙ had.1);
  }

  -- places of which none is the emptied one hold what they held
  pub found-set : (cs : List (Option X)) (p : ℕ) (places : List ℕ) → (Contains places p → ⊥) → found (set cs p None) places ≡ found cs places
  found-set cs p [] once = refl
  found-set cs p (q ∷ places) once =
      let other : q ≢ p = λ e. once (0, omega arith, e) in
      let here : get_or (set cs p None) q None ≡ get_or cs q None = get_or-set_other cs p q None None other in
      let later : found (set cs p None) places ≡ found cs places = found-set cs p places (λ c. once (suc c.0, omega (arith, c.1), c.2)) in
      λ i. cons_option (here i) (later i)

  -- the first element to come, and the others once it was moved out
  pub found-next : (cs : List (Option X)) (p : ℕ) (places : List ℕ) (x : X) → get_or cs p None ≡ Some x → (Contains places p → ⊥) → found cs (p ∷ places) ≡ x ∷ found (set cs p None) places
  found-next cs p places x e once = ap (λ o. cons_option o (found cs places)) e ∙ ap (λ ys. x ∷ ys) (sym (found-set cs p places once))
