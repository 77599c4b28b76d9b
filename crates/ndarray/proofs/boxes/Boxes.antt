-- The index lists of a box.
use Rattle.std.proofs.Common.{◌≡◌, ℕ, ◌*◌, ◌<◌, suc, zero, List, [], ◌∷◌, ◌++◌, length, reverse, drop, set, get_or, replicate, inl, inr, refl, ap, arith, subst}
use Rattle.std.specs.Prelude.{remove}
use Rattle.std.proofs.Math.Nat.{one-le-mul}
use Rattle.std.proofs.lemmas.Bool.{cases_lt}
use Rattle.std.proofs.lemmas.List.{set-get_or}
use Rattle.ndarray.specs.Index.{InBox, size}
use Rattle.ndarray.proofs.lists.Elements.{reverse-cons}

pub InBox-length : (ns is : List ℕ) → InBox ns is → length is ≡ length ns
InBox-length [] [] h = refl
InBox-length [] (i ∷ is) h = absurd h
InBox-length (n ∷ ns) [] h = absurd h
InBox-length (n ∷ ns) (i ∷ is) h = ap (λ x. suc x) (InBox-length ns is h.1)

pub InBox-append : (ns ms is js : List ℕ) → InBox ns is → InBox ms js → InBox (ns ++ ms) (is ++ js)
InBox-append [] ms [] js h g = g
InBox-append [] ms (i ∷ is) js h g = absurd h
InBox-append (n ∷ ns) ms [] js h g = absurd h
InBox-append (n ∷ ns) ms (i ∷ is) js h g = (h.0, InBox-append ns ms is js h.1 g)

pub InBox-reverse : (ns is : List ℕ) → InBox ns is → InBox (reverse ns) (reverse is)
InBox-reverse [] [] h = tt
InBox-reverse [] (i ∷ is) h = absurd h
InBox-reverse (n ∷ ns) [] h = absurd h
InBox-reverse (n ∷ ns) (i ∷ is) h = rw (reverse-cons n ns, reverse-cons i is) (InBox-append (reverse ns) (n ∷ []) (reverse is) (i ∷ []) (InBox-reverse ns is h.1) (h.0, tt))

pub InBox-get : (ns is : List ℕ) (k : ℕ) → InBox ns is → k < length ns → get_or is k 0 < get_or ns k 0
InBox-get [] is k h l = absurd (omega arith)
InBox-get (n ∷ ns) [] k h l = absurd h
InBox-get (n ∷ ns) (i ∷ is) zero h l = h.0
InBox-get (n ∷ ns) (i ∷ is) (suc k) h l = InBox-get ns is k h.1 (omega arith)

pub InBox-set_both : (ns is : List ℕ) (k n v : ℕ) → InBox ns is → v < n → InBox (set ns k n) (set is k v)
InBox-set_both [] [] k n v h l = tt
InBox-set_both [] (i ∷ is) k n v h l = absurd h
InBox-set_both (m ∷ ns) [] k n v h l = absurd h
InBox-set_both (m ∷ ns) (i ∷ is) zero n v h l = (l, h.1)
InBox-set_both (m ∷ ns) (i ∷ is) (suc k) n v h l = (h.0, InBox-set_both ns is k n v h.1 l)

-- axes of length 1 have one index list
pub InBox-ones : (m : ℕ) → InBox (replicate m 1) (replicate m 0)
InBox-ones zero = tt
InBox-ones (suc m) = (omega arith, InBox-ones m)

pub InBox-set : (ns is : List ℕ) (k v : ℕ) → InBox ns is → v < get_or ns k 0 → InBox ns (set is k v)
InBox-set ns is k v h l = subst (λ ms. InBox ms (set is k v)) (set-get_or ns k 0) (InBox-set_both ns is k (get_or ns k 0) v h l)

-- zeros are in the box that is not empty, first of all
pub InBox-zeros : (ns : List ℕ) → 0 < size ns → InBox ns (replicate (length ns) 0)
InBox-zeros [] h = tt
InBox-zeros (zero ∷ ns) h = absurd (omega arith)
InBox-zeros (suc n ∷ ns) h = (omega arith, InBox-zeros ns (elim (cases_lt 0 (size ns)) [ inl p ↦ p | inr z ↦ absurd (let e : size ns ≡ 0 = omega arith in let e2 : suc n * size ns ≡ suc n * 0 = ap (λ x. suc n * x) e in omega arith) ]))

-- a box that has an index list is not empty
pub InBox-some : (ns is : List ℕ) → InBox ns is → 0 < size ns
InBox-some [] is h = omega arith
InBox-some (n ∷ ns) [] h = absurd h
InBox-some (n ∷ ns) (i ∷ is) h = let lt = h.0 in one-le-mul {a = n} {b = size ns} (omega arith) (InBox-some ns is h.1)

-- index lists with each index below its length are those of the box
pub InBox-from_each : (ns is : List ℕ) → length is ≡ length ns → ((k : ℕ) → k < length ns → get_or is k 0 < get_or ns k 0) → InBox ns is
InBox-from_each [] [] l h = tt
InBox-from_each [] (i ∷ is) l h = absurd (omega arith)
InBox-from_each (n ∷ ns) [] l h = absurd (omega arith)
InBox-from_each (n ∷ ns) (i ∷ is) l h = (h 0 (omega arith), InBox-from_each ns is (omega arith) (λ k lt. h (suc k) (omega arith)))

pub InBox-drop : (k : ℕ) (ns is : List ℕ) → InBox ns is → InBox (drop k ns) (drop k is)
InBox-drop zero ns is h = h
InBox-drop (suc k) [] [] h = tt
InBox-drop (suc k) [] (i ∷ is) h = absurd h
InBox-drop (suc k) (n ∷ ns) [] h = absurd h
InBox-drop (suc k) (n ∷ ns) (i ∷ is) h = InBox-drop k ns is h.1

-- an index list without one index is in the box without that axis
pub InBox-removed : (ns is : List ℕ) (k : ℕ) → k < length ns → InBox ns is → InBox (remove ns k) (remove is k)
InBox-removed [] is k lt h = absurd (omega arith)
InBox-removed (n ∷ ns) [] k lt h = absurd h
InBox-removed (n ∷ ns) (i ∷ is) zero lt h = h.1
InBox-removed (n ∷ ns) (i ∷ is) (suc k) lt h = (h.0, InBox-removed ns is k (omega arith) h.1)
