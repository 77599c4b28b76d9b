-- Slices of axes in turn.
use Rattle.std.proofs.Common.{◌≡◌, ◌∙◌, ◌+◌, ◌<◌, ◌≤◌, ℕ, List, [], ◌∷◌, ap, arith, drop, get_or, inl, inr, length, refl, set, subst, suc, sym, zero}
use Rattle.std.proofs.Math.Seq.{drop-cons}
use Rattle.std.proofs.lemmas.Bool.{cases_lt}
use Rattle.std.proofs.lemmas.List.{drop_all}
use Rattle.ndarray.specs.AxisSlices.{AreSlicesOf, axes_sliced}
use Rattle.ndarray.specs.Grid.{Grid}
use Rattle.ndarray.specs.Slices.{IsSliceOf, axis_slice, slice_length}
use Rattle.ndarray.specs.declared.base.slice.Slice.{Slice}

-- as many slices as lengths, each within its length
pub slices-length : (ns : List ℕ) (ss : List Slice) → AreSlicesOf ns ss → length ss ≡ length ns
slices-length [] [] h = refl
slices-length [] (s ∷ ss) h = absurd h
slices-length (n ∷ ns) [] h = absurd h
slices-length (n ∷ ns) (s ∷ ss) h = ap (λ n. suc n) (slices-length ns ss h.1)

pub slices-each : (ns : List ℕ) (ss : List Slice) (k : ℕ) (d : Slice) → AreSlicesOf ns ss → k < length ns → IsSliceOf (get_or ns k 0) (get_or ss k d)
slices-each [] ss k d h lt = absurd (omega arith)
slices-each (n ∷ ns) [] k d h lt = absurd h
slices-each (n ∷ ns) (s ∷ ss) zero d h lt = h.0
slices-each (n ∷ ns) (s ∷ ss) (suc k) d h lt = slices-each ns ss k d h.1 (omega arith)

pub slices-from_each : (ns : List ℕ) (ss : List Slice) → length ss ≡ length ns → ((k : ℕ) (s : Slice) → k < length ns → s ≡ get_or ss k s → IsSliceOf (get_or ns k 0) s) → AreSlicesOf ns ss
slices-from_each [] [] l each = tt
slices-from_each [] (s ∷ ss) l each = absurd (omega arith)
slices-from_each (n ∷ ns) [] l each = absurd (omega arith)
slices-from_each (n ∷ ns) (s ∷ ss) l each = (each 0 s (omega arith) refl, slices-from_each ns ss (omega arith) (λ k t lt here. each (suc k) t (omega arith) here))

drop-set_before : (xs : List ℕ) (k v : ℕ) → drop (suc k) (set xs k v) ≡ drop (suc k) xs
drop-set_before [] k v = refl
drop-set_before (x ∷ xs) zero v = refl
drop-set_before (x ∷ xs) (suc k) v = drop-set_before xs k v

-- the slice of the next axis
pub record IsNextSlice {A : Type 0} (g : Grid A) (k : ℕ) (ss : List Slice) (s : Slice) : Type 0 where
  pub axis : k < length g.lengths
  pub within : IsSliceOf (get_or g.lengths k 0) s
  pub rest : AreSlicesOf (drop (k + 1) (axis_slice g k s).lengths) (drop (k + 1) ss)
  pub same : axes_sliced k g (drop k ss) ≡ axes_sliced (k + 1) (axis_slice g k s) (drop (k + 1) ss)

pub next-slice : {A : Type 0} (g : Grid A) (k : ℕ) (ss : List Slice) (s : Slice) → k < length ss → s ≡ get_or ss k s → AreSlicesOf (drop k g.lengths) (drop k ss) → IsNextSlice g k ss s
next-slice g k ss s lt here h = by (drop k g.lengths) refl (subst (AreSlicesOf (drop k g.lengths)) front h)
  where
    more : k + 1 ≡ suc k
    more = omega arith

    front : drop k ss ≡ s ∷ drop (suc k) ss
    front = drop-cons ss k s lt ∙ ap (λ t. t ∷ drop (suc k) ss) (sym here)

    by : (ns : List ℕ) → drop k g.lengths ≡ ns → AreSlicesOf ns (s ∷ drop (suc k) ss) → IsNextSlice g k ss s
    by [] e held = absurd held
    by (n ∷ ns) e held = elim (cases_lt k (length g.lengths)) [
      | inl below ↦
          let split : n ∷ ns ≡ get_or g.lengths k 0 ∷ drop (suc k) g.lengths = sym e ∙ drop-cons g.lengths k 0 below in
          let first : n ≡ get_or g.lengths k 0 = cc in
          let later : ns ≡ drop (suc k) g.lengths = cc in
          let left : drop (k + 1) (axis_slice g k s).lengths ≡ ns = ap (λ j. drop j (axis_slice g k s).lengths) more ∙ (drop-set_before g.lengths k (slice_length (get_or g.lengths k 0) s) ∙ sym later) in
          let behind : drop (k + 1) ss ≡ drop (suc k) ss = ap (λ j. drop j ss) more in
          record {
            axis = below;
            within = subst (λ m. IsSliceOf m s) first held.0;
            rest = subst (AreSlicesOf (drop (k + 1) (axis_slice g k s).lengths)) (sym behind) (subst (λ ms. AreSlicesOf ms (drop (suc k) ss)) (sym left) held.1);
            same = ap (axes_sliced k g) front ∙ ap (axes_sliced (k + 1) (axis_slice g k s)) (sym behind);
          }
      | inr above ↦ absurd (let none : [] ≡ n ∷ ns = sym (drop_all k g.lengths above) ∙ e in cc)
    ]

-- behind the last slice
pub all-sliced : {A : Type 0} (g : Grid A) (k : ℕ) (ss : List Slice) → length ss ≤ k → axes_sliced k g (drop k ss) ≡ g
all-sliced g k ss all = ap (axes_sliced k g) (drop_all k ss all)
