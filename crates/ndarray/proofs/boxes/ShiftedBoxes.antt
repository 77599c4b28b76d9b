-- Index lists counted from a start, and the array of those of a box.
use Rattle.std.proofs.Common.{◌≡◌, ℕ, ◌+◌, ◌-◌, ◌<◌, ◌≤◌, suc, zero, List, [], ◌∷◌, length, take, set, get_or, replicate, Some, inl, inr, refl, sym, ◌∙◌, ap, arith, subst}
use Rattle.std.specs.Prelude.{◌↔◌}
use Rattle.std.proofs.lemmas.Bool.{cases_eq}
use Rattle.std.proofs.lemmas.Grind.{get_or-set_at}
use Rattle.std.proofs.lemmas.List.{set-get_or, set-set, get_or-set_same, get_or-set_other, length-set}
use Rattle.ndarray.specs.Index.{InBox}
use Rattle.ndarray.specs.Grid.{Grid, array_by, cell}
use Rattle.ndarray.specs.Views.{axis_part}
use Rattle.ndarray.specs.base.IndexLists.{shifted_index, StartsAt}
use Rattle.ndarray.proofs.boxes.Boxes.{InBox-get, InBox-set_both}
use Rattle.ndarray.proofs.cells.Cells.{array_by-cell, array_by-whole, tabulate-is}
use Rattle.ndarray.proofs.boxes.Sizes.{nonzero-set_le}

pub shifted_index-zeros : (n : ℕ) (is : List ℕ) → shifted_index (replicate n 0) is ≡ is
unfolding shifted_index
shifted_index-zeros zero is = refl
shifted_index-zeros (suc n) [] = refl
shifted_index-zeros (suc n) (i ∷ is) = ap (λ k. k ∷ shifted_index (replicate n 0) is) (omega arith) ∙ ap (λ js. i ∷ js) (shifted_index-zeros n is)

-- counted from a start on all axes
pub shifted_index-none : (is : List ℕ) → shifted_index [] is ≡ is
unfolding shifted_index
shifted_index-none is = refl

pub shifted_index-length : (ss is : List ℕ) → length (shifted_index ss is) ≡ length is
unfolding shifted_index
shifted_index-length [] is = refl
shifted_index-length (s ∷ ss) [] = refl
shifted_index-length (s ∷ ss) (i ∷ is) = ap (λ n. suc n) (shifted_index-length ss is)

-- it counted too
pub shifted_index-more : (ss is : List ℕ) (k : ℕ) → k < length ss → set (shifted_index (take k ss) is) k (get_or ss k 0 + get_or is k 0) ≡ shifted_index (take (suc k) ss) is
unfolding shifted_index
shifted_index-more [] is k lt = absurd (omega arith)
shifted_index-more (s ∷ ss) [] zero lt = refl
shifted_index-more (s ∷ ss) (i ∷ is) zero lt = refl
shifted_index-more (s ∷ ss) [] (suc k) lt = refl
shifted_index-more (s ∷ ss) (i ∷ is) (suc k) lt = ap (λ js. (s + i) ∷ js) (shifted_index-more ss is k (omega arith))

-- an index counted from another one is the start counted from it
pub shifted_index-set : (ss is : List ℕ) (k v : ℕ) → k < length ss → shifted_index ss (set is k (v + get_or is k 0)) ≡ shifted_index (set ss k (get_or ss k 0 + v)) is
unfolding shifted_index
shifted_index-set [] is k v lt = absurd (omega arith)
shifted_index-set (s ∷ ss) [] zero v lt = refl
shifted_index-set (s ∷ ss) [] (suc k) v lt = refl
shifted_index-set (s ∷ ss) (i ∷ is) zero v lt = ap (λ n. n ∷ shifted_index ss is) (omega arith)
shifted_index-set (s ∷ ss) (i ∷ is) (suc k) v lt = ap (λ js. (s + i) ∷ js) (shifted_index-set ss is k v (omega arith))

-- the part of an axis is the box of the shorter lengths, from a start further on
module _ (ss ns : List ℕ) (h : StartsAt ss ns) (k : ℕ) (lt : k < length ns) (from len : ℕ) (le : from + len ≤ get_or ns k 0) where
  image : (is : List ℕ) → InBox (set ns k len) is → InBox ns (set is k (from + get_or is k 0))
  image is b =
      let there = get_or-set_same ns k len 0 lt in
      let below = InBox-get (set ns k len) is k b (omega (arith, length-set {A = ℕ})) in
      let c = InBox-set_both (set ns k len) is k (get_or ns k 0) (from + get_or is k 0) b (omega arith) in
      subst (λ ms. InBox ms (set is k (from + get_or is k 0))) (set-set ns k len (get_or ns k 0) ∙ set-get_or ns k 0) c

  pub lists-part : array_by (set ns k len) (shifted_index (set ss k (get_or ss k 0 + from))) ≡ axis_part (array_by ns (shifted_index ss)) k from (from + len)
  lists-part =
      let ms = set ns k len in
      let part : Grid (List ℕ) = array_by ms (shifted_index (set ss k (get_or ss k 0 + from))) in
      let n = h.as_many in
      tabulate-is part (set ns k (from + len - from)) _ (array_by-whole ms _) (ap (set ns k) (omega arith))
      (λ is b.
      array_by-cell ms _ is b
      ∙ (ap (λ js. Some js) (sym (shifted_index-set ss is k from (omega arith))) ∙ sym (array_by-cell ns (shifted_index ss) _ (image is b))))

  pub StartsAt-part : StartsAt (set ss k (get_or ss k 0 + from)) (set ns k len)
  StartsAt-part = record {
    as_many = omega (arith, h.as_many, length-set {A = ℕ});
    limit = let m = nonzero-set_le ns k len lt (omega arith) in let l = h.limit in omega arith;
    room = λ j below.
        let n = h.as_many in
        let ln = length-set ns k len in
        let r = h.room j (omega arith) in
        elim (cases_eq j k) [
          | inl e ↦ (
              let a = get_or-set_at ss k j (get_or ss k 0 + from) 0 e (omega arith) in
              let b = get_or-set_at ns k j len 0 e lt in
              let c = ap (λ i. get_or ss i 0) e in
              let d = ap (λ i. get_or ns i 0) e in
              omega arith)
          | inr ne ↦ (
              let a = get_or-set_other ss k j (get_or ss k 0 + from) 0 ne in
              let b = get_or-set_other ns k j len 0 ne in
              omega arith)
        ];
  }

-- in the array of the index lists of a box, each stands at itself
pub lists-own : (g : Grid (List ℕ)) (ns : List ℕ) → g ≡ array_by ns (λ is. is) → (is : List ℕ) → InBox ns is → (xs : List ℕ) → (cell g is ≡ Some xs) ↔ (xs ≡ is)
lists-own g ns e is b xs =
    let own : cell g is ≡ Some is = ap (λ v. cell v is) e ∙ array_by-cell ns (λ js. js) is b in
    ((λ h. cc), (λ h. own ∙ ap (λ js. Some js) (sym h)))
