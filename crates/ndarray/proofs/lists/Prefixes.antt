-- Lists that are filled from the front.
use Rattle.std.proofs.Common.{◌≡◌, ℕ, ◌+◌, ◌<◌, ◌≤◌, ◌≢◌, List, length, get_or, set, sym, ◌∙◌, ap, arith, inl, inr, get_or-set_other}
use Rattle.std.proofs.lemmas.Bool.{cases_lt}
use Rattle.std.proofs.lemmas.Grind.{get_or-set_at}
use Rattle.std.proofs.lemmas.List.{length-set, same_lists, get_or_default}

-- xs is as long as ys, and has the first k of its elements
pub record IsFilledTo {X : Type 0} (ys : List X) (k : ℕ) (xs : List X) : Type 0 where
  pub as_long : length xs ≡ length ys
  pub same : (j : ℕ) (d : X) → j < k → get_or xs j d ≡ get_or ys j d

module _ {X : Type 0} where
  pub IsFilledTo-none : (ys xs : List X) → length xs ≡ length ys → IsFilledTo ys 0 xs
  IsFilledTo-none ys xs h = record { as_long = h; same = λ j d lt. absurd (omega arith) }

  -- the next element is written
  pub IsFilledTo-more : (ys : List X) (k : ℕ) (xs zs : List X) (x d : X) → IsFilledTo ys k xs → k < length ys → zs ≡ set xs k x → get_or ys k d ≡ x → IsFilledTo ys (k + 1) zs
  IsFilledTo-more ys k xs zs x d filled lt written next =
      let as_long = filled.as_long in
      record {
        as_long = ap length written ∙ (length-set xs k x ∙ as_long);
        same = λ j e h.
            elim (cases_lt j k) [
              | inl below ↦ (let other : j ≢ k = omega arith in ap (λ l. get_or l j e) written ∙ (get_or-set_other xs k j x e other ∙ filled.same j e below))
              | inr above ↦ (let here : j ≡ k = omega arith in
                  ap (λ l. get_or l j e) written
                  ∙ (get_or-set_at xs k j x e here (omega arith)
                  ∙ (sym next ∙ (get_or_default ys k d e lt ∙ ap (λ i. get_or ys i e) (sym here)))))
            ];
      }

  pub IsFilledTo-all : (ys : List X) (k : ℕ) (xs : List X) → IsFilledTo ys k xs → length ys ≤ k → xs ≡ ys
  IsFilledTo-all ys k xs filled h = same_lists xs ys filled.as_long (λ j d lt. filled.same j d (omega (arith, filled.as_long)))
