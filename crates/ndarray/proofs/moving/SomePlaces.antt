-- Cells at some places of a region, and those at the others.
use Rattle.std.proofs.Common.{◌≡◌, ◌≢◌, ℕ, ◌+◌, ◌<◌, ◌^◌, Bool, true, false, cond, List, ◌++◌, map, length, take, drop, get_or, Option, Some, None, refl, sym, ◌∙◌, ap, arith, subst}
use Rattle.std.specs.Prelude.{All, IsTrue, nat_eq, filter_map}
use Rattle.std.specs.Option.{is_some}
use Rattle.std.specs.List.{list_any}
use Rattle.std.proofs.lemmas.Bool.{eq-eqb, eqb-true}
use Rattle.std.proofs.lemmas.List.{get_or_append_left, get_or-append-add, get_or_default, length-append}
use Rattle.std.proofs.lemmas.List.Folds.{list_any_at, list_any_none}
use Rattle.ndarray.specs.base.Slots.{held_at, slots_in, slots_outside, IsRun}
use Rattle.ndarray.specs.base.Strided.{places_from, HaveElements}
use Rattle.ndarray.specs.places.ElementPlaces.{AreDistinctPlaces, mask_at}
use Rattle.ndarray.proofs.lists.Elements.{filter_map-same}
use Rattle.ndarray.proofs.regions.Masks.{kept_from, others_from}
use Rattle.ndarray.proofs.regions.Slots.{held-slice}
use Rattle.ndarray.proofs.strides.ContiguousCells.{IsRun-held, held-part}
use Rattle.ndarray.proofs.strides.Rows.{length-places_from}
use Rattle.ndarray.proofs.strides.SideBySide.{place-one, places-elements, places-there, slice-elements, slice-places}

-- ---- two lists of places

module _ {A : Type 0} (at : ℕ → Option A) (ps rest : List ℕ) (h : AreDistinctPlaces at (ps ++ rest)) where
  pub places-first : AreDistinctPlaces at ps
  places-first =
      let l = length-append ps rest in
      let left = λ (i : ℕ) (d : ℕ) (lt : i < length ps). get_or_append_left ps rest d i lt in
      record {
        held = λ k d lt. subst (λ p. IsTrue (is_some (at p))) (left k d lt) (h.held k d (omega arith));
        once = λ i j d lt lj e. h.once i j d lt (omega arith) (left i d (omega arith) ∙ (e ∙ sym (left j d lj)));
      }

  pub places-rest : AreDistinctPlaces at rest
  places-rest =
      let l = length-append ps rest in
      let right = λ (j : ℕ) (d : ℕ). get_or-append-add ps rest j d in
      record {
        held = λ k d lt. subst (λ p. IsTrue (is_some (at p))) (right k d) (h.held (length ps + k) d (omega arith));
        once = λ i j d lt lj e. h.once (length ps + i) (length ps + j) d (omega arith) (omega arith) (right i d ∙ (e ∙ sym (right j d)));
      }

  places-between : All (λ q. All (λ p. p ≢ q) ps) rest
  places-between j e lj i d li = λ same.
      let l = length-append ps rest in
      h.once i (length ps + j) d (omega arith) (omega arith) (get_or_append_left ps rest d i li ∙ (same ∙ (get_or_default rest j e d lj ∙ sym (get_or-append-add ps rest j d))))

-- where another storage has the same elements at the places
module _ {A : Type 0} (at after : ℕ → Option A) (ps : List ℕ) (same : All (λ p. after p ≡ at p) ps) where
  pub places-moved : AreDistinctPlaces at ps → AreDistinctPlaces after ps
  places-moved h = record {
    held = λ k d lt. subst (λ o. IsTrue (is_some o)) (sym (same k d lt)) (h.held k d lt);
    once = h.once;
  }

  pub found-moved : filter_map after ps ≡ filter_map at ps
  found-moved = filter_map-same after at (λ p. after p ≡ at p) ps (λ p e. e) same

-- ---- a region that is split by places

one_of : List ℕ → ℕ → Bool
one_of ps k = list_any (λ p. nat_eq p k) ps

one_of-own : (ps : List ℕ) (i d : ℕ) → i < length ps → one_of ps (get_or ps i d) ≡ true
unfolding one_of
one_of-own ps i d lt = list_any_at (λ p. nat_eq p (get_or ps i d)) ps i d lt (eq-eqb _ _ refl)

one_of-none : (ps : List ℕ) (k : ℕ) → All (λ p. p ≢ k) ps → one_of ps k ≡ false
unfolding one_of
one_of-none ps k never = list_any_none (λ p. nat_eq p k) ps (λ i d lt. differs (get_or ps i d) k (never i d lt))
  where
    differs : (a b : ℕ) → (a ≡ b → ⊥) → nat_eq a b ≡ false
    differs a b ne = elim (nat_eq a b) as (λ t. nat_eq a b ≡ t → t ≡ false) [ true ↦ (λ e. absurd (ne (eqb-true a b e))) | false ↦ (λ e. refl) ] refl

module _ {A : Type 0} (cs : List (Option A)) (ps : List ℕ) where
  at-taken : (k : ℕ) → held_at (slots_in (mask_at ps (length cs)) cs) k ≡ cond (one_of ps k) (held_at cs k) None
  unfolding mask_at one_of
  at-taken k = kept_from (λ j. list_any (λ p. nat_eq p j) ps) 0 (length cs) cs k refl ∙ ap (λ (j : ℕ). cond (list_any (λ p. nat_eq p j) ps) (held_at cs k) None) (omega arith)

  at-left : (k : ℕ) → held_at (slots_outside (mask_at ps (length cs)) cs) k ≡ cond (one_of ps k) None (held_at cs k)
  unfolding mask_at one_of
  at-left k = others_from (λ j. list_any (λ p. nat_eq p j) ps) 0 (length cs) cs k refl ∙ ap (λ (j : ℕ). cond (list_any (λ p. nat_eq p j) ps) None (held_at cs k)) (omega arith)

  taken-same : All (λ p. held_at (slots_in (mask_at ps (length cs)) cs) p ≡ held_at cs p) ps
  taken-same i d lt = at-taken (get_or ps i d) ∙ ap (λ t. cond t (held_at cs (get_or ps i d)) None) (one_of-own ps i d lt)

  pub taken-distinct : AreDistinctPlaces (held_at cs) ps → AreDistinctPlaces (held_at (slots_in (mask_at ps (length cs)) cs)) ps
  taken-distinct h = places-moved (held_at cs) (held_at (slots_in (mask_at ps (length cs)) cs)) ps taken-same h

  pub taken-found : filter_map (held_at (slots_in (mask_at ps (length cs)) cs)) ps ≡ filter_map (held_at cs) ps
  taken-found = found-moved (held_at cs) (held_at (slots_in (mask_at ps (length cs)) cs)) ps taken-same

  module _ (rest : List ℕ) (h : AreDistinctPlaces (held_at cs) (ps ++ rest)) where
    pub left-same : All (λ p. held_at (slots_outside (mask_at ps (length cs)) cs) p ≡ held_at cs p) rest
    left-same j d lt = at-left (get_or rest j d) ∙ ap (λ t. cond t None (held_at cs (get_or rest j d))) (one_of-none ps (get_or rest j d) (places-between (held_at cs) ps rest h j d lt))

    pub left-distinct : AreDistinctPlaces (held_at (slots_outside (mask_at ps (length cs)) cs)) rest
    left-distinct = places-moved (held_at cs) (held_at (slots_outside (mask_at ps (length cs)) cs)) rest left-same (places-rest (held_at cs) ps rest h)

-- ---- places that follow one another, and a slice of what they hold

module _ {A : Type 0} (cs : List (Option A)) (p s n : ℕ) (one : s ≡ 1) (some : 0 < n) (fits : p + n < 2 ^ 64) where
  pub places-run : HaveElements (held_at cs) (places_from p s n) → IsRun cs p n
  places-run h = IsRun-held cs p n some (places-there (held_at cs) s n p one fits h)

  pub run-found : (xs : List A) → IsRun cs p n → take n (drop p cs) ≡ map Some xs → filter_map (held_at cs) (places_from p s n) ≡ xs
  run-found xs r e = let h = held-part cs p n xs r.0 e in places-elements (held_at cs) s n p xs one fits h.0 h.1

-- all places of a slice
module _ {A : Type 0} (cs : List (Option A)) (xs : List A) (whole : cs ≡ map Some xs) (fits : length xs < 2 ^ 64) where
  pub slice-distinct : AreDistinctPlaces (held_at cs) (places_from 0 1 (length xs))
  slice-distinct =
      let l = length-places_from 0 1 (length xs) in
      record {
        held = slice-places (held_at cs) xs fits (held-slice cs xs whole);
        once = λ i j d lt lj e. let a = place-one (length xs) 0 i d (omega arith) (omega arith) in let b = place-one (length xs) 0 j d (omega arith) (omega arith) in absurd (omega arith);
      }

  pub slice-found : filter_map (held_at cs) (places_from 0 1 (length xs)) ≡ xs
  slice-found = slice-elements (held_at cs) xs fits (held-slice cs xs whole)
