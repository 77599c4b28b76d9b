-- Running products of an array with its axes reversed.
use Rattle.std.proofs.Common.{◌≡◌, ◌+◌, ◌-◌, ◌<◌, ℕ, zero, suc, List, [], ◌∷◌, ◌++◌, length, get_or, set, refl, ap, sym, ◌∙◌, subst, arith, inl, inr, remove, insert, reverse}
use Rattle.std.proofs.Math.Seq.{set-append_seam}
use Rattle.std.proofs.lemmas.Bool.{cases_eq}
use Rattle.std.proofs.lemmas.List.{get_or-reverse, length-reverse, reverse-reverse, set-append_left}
use Rattle.std.proofs.lemmas.List.Edits.{length-remove}
use Rattle.ndarray.specs.AlongAxis.{Cumulates, one_further}
use Rattle.ndarray.specs.Elementwise.{CanMap}
use Rattle.ndarray.specs.Grid.{Grid, IsGrid, array_by, cell}
use Rattle.ndarray.specs.Index.{InBox}
use Rattle.ndarray.specs.Subviews.{lane, lanes_of}
use Rattle.ndarray.specs.Views.{transpose_of}
use Rattle.ndarray.proofs.boxes.Boxes.{InBox-length, InBox-reverse, InBox-set}
use Rattle.ndarray.proofs.callers.Cells.{transpose-cell}
use Rattle.ndarray.proofs.callers.Collecting.{array_by-at, lanes_of-some}
use Rattle.ndarray.proofs.cells.Cells.{cell-inside}
use Rattle.ndarray.proofs.cells.LaneCells.{lane-among, lane-cell, lane-length, no-lane}
use Rattle.ndarray.proofs.lists.Elements.{remove-inserted, reverse-cons, same_from_slice_get}
use Rattle.ndarray.proofs.views.Items.{InBox-insert}

reverse-set : {X : Type 0} (xs : List X) (k : ℕ) (x : X) → k < length xs → reverse (set xs k x) ≡ set (reverse xs) (length xs - 1 - k) x
reverse-set [] k x lt = absurd (omega arith)
reverse-set (y ∷ xs) zero x lt =
    let l = length-reverse xs in
    let at : length (reverse xs) ≡ length (y ∷ xs) - 1 - 0 = omega (arith, l) in
    reverse-cons x xs ∙ (sym (set-append_seam (reverse xs) y [] x) ∙ (ap (λ i. set (reverse xs ++ y ∷ []) i x) at ∙ ap (λ l. set l (length (y ∷ xs) - 1 - 0) x) (sym (reverse-cons y xs))))
reverse-set (y ∷ xs) (suc k) x lt =
    let l = length-reverse xs in
    let at : length xs - 1 - k ≡ length (y ∷ xs) - 1 - suc k = omega arith in
    reverse-cons y (set xs k x)
    ∙ (ap (λ l. l ++ y ∷ []) (reverse-set xs k x (omega arith))
    ∙ (sym (set-append_left (reverse xs) (y ∷ []) (length xs - 1 - k) x (omega (arith, l, lt)))
    ∙ (ap (λ i. set (reverse xs ++ y ∷ []) i x) at ∙ ap (λ l. set l (length (y ∷ xs) - 1 - suc k) x) (sym (reverse-cons y xs)))))

-- t is g with its axes reversed, and its axis m is axis k of g
module _ {A : Type 0} (g t : Grid A) (whole : IsGrid g) (t_whole : IsGrid t) (is_t : t ≡ transpose_of g) (k m : ℕ) (axes : m + suc k ≡ length g.lengths) where
  same-lengths : t.lengths ≡ reverse g.lengths
  same-lengths = ap (λ w. w.lengths) is_t

  k-below : k < length g.lengths
  k-below = omega (arith, axes)

  m-below : m < length t.lengths
  m-below = let l = length-reverse g.lengths in let e = ap (length {A = ℕ}) same-lengths in omega (arith, axes, l, e)

  cell-back : (is : List ℕ) → InBox g.lengths is → cell t (reverse is) ≡ cell g is
  cell-back is b = ap (λ w. cell w (reverse is)) is_t ∙ transpose-cell g is (subst IsGrid is_t t_whole) b

  set-back : (is : List ℕ) → length is ≡ length g.lengths → (v : ℕ) → reverse (set is k v) ≡ set (reverse is) m v
  set-back is l v = reverse-set is k v (omega (arith, l, axes)) ∙ ap (λ i. set (reverse is) i v) (omega (arith, l, axes))

  get-back : (is : List ℕ) → length is ≡ length g.lengths → get_or (reverse is) m 0 ≡ get_or is k 0
  get-back is l = get_or-reverse is m 0 (omega (arith, l, axes)) ∙ ap (λ i. get_or is i 0) (omega (arith, l, axes))

  same-length : get_or t.lengths m 0 ≡ get_or g.lengths k 0
  same-length = ap (λ ns. get_or ns m 0) same-lengths ∙ get-back g.lengths refl

  lane-back : (is : List ℕ) → InBox g.lengths is → (lane t m (remove (reverse is) m)).cells ≡ (lane g k (remove is k)).cells
  lane-back is b =
      let c : InBox t.lengths (reverse is) = subst (λ ns. InBox ns (reverse is)) (sym same-lengths) (InBox-reverse g.lengths is b) in
      let here = lane-length t t_whole m m-below (reverse is) c in
      let there = lane-length g whole k k-below is b in
      same_from_slice_get (lane t m (remove (reverse is) m)).cells (lane g k (remove is k)).cells (here ∙ (same-length ∙ sym there))
      (λ j below.
      let low : j < get_or t.lengths m 0 = omega (arith, below, here) in
      let low' : j < get_or g.lengths k 0 = omega (arith, low, same-length) in
      lane-cell t t_whole m m-below (reverse is) c j low
      ∙ (ap (cell t) (sym (set-back is (InBox-length g.lengths is b) j))
      ∙ (cell-back (set is k j) (InBox-set g.lengths is k j b low') ∙ sym (lane-cell g whole k k-below is b j low'))))

  -- what holds of the cells of each lane of g holds of those of each lane of t
  pub lanes-reversed : (P : List A → Type 0) → P [] → CanMap (λ l. P l.cells) (lanes_of g k) → CanMap (λ l. P l.cells) (lanes_of t m)
  lanes-reversed P nil can js l e =
      let among : lanes_of t m ≡ array_by (remove t.lengths m) (lane t m) = lanes_of-some t.lengths t m (let b = m-below in omega (arith, b)) in
      let b : InBox (remove t.lengths m) js = subst (λ w. InBox w.lengths js) among (cell-inside (lanes_of t m) js l e) in
      let is_lane : l ≡ lane t m js = array_by-at (remove t.lengths m) (lane t m) (lanes_of t m) js l among (cell-inside (lanes_of t m) js l e) e in
      elim (cases_eq (get_or t.lengths m 0) 0) [
        | inl none ↦ subst P (sym (ap (λ w. w.cells) is_lane ∙ no-lane t m js none)) nil
        | inr some ↦
            (let is : List ℕ = insert js m 0 in
            let c : InBox t.lengths is = InBox-insert t.lengths js m 0 m-below (omega arith) b in
            let back : remove is m ≡ js = remove-inserted js m 0 (let n = InBox-length (remove t.lengths m) js b in let r : length (remove t.lengths m) + 1 ≡ length t.lengths = length-remove t.lengths m m-below in let lt = m-below in omega (arith, n, r, lt)) in
            let d : InBox g.lengths (reverse is) = subst (λ ns. InBox ns (reverse is)) (ap reverse same-lengths ∙ reverse-reverse g.lengths) (InBox-reverse t.lengths is c) in
            let same : l.cells ≡ (lane g k (remove (reverse is) k)).cells =
            ap (λ w. w.cells) is_lane ∙ (ap (λ ls. (lane t m ls).cells) (sym back ∙ ap (λ ls. remove ls m) (sym (reverse-reverse is))) ∙ lane-back (reverse is) d) in
            subst P (sym same) (can (remove (reverse is) k) (lane g k (remove (reverse is) k)) (lane-among g whole k k-below (reverse is) d)))
      ]

  -- running products of t, with their axes reversed, are those of g
  module _ (gives : A → A → A → Type 0) (r s : Grid A) (c : Cumulates gives m t r) (is_s : s ≡ transpose_of r) (s_whole : IsGrid s) where
    s-lengths : s.lengths ≡ g.lengths
    s-lengths = ap (λ w. w.lengths) is_s ∙ (ap reverse (c.lengths ∙ same-lengths) ∙ reverse-reverse g.lengths)

    seen : (is : List ℕ) → InBox g.lengths is → cell s is ≡ cell r (reverse is)
    seen is b =
        let d : InBox r.lengths (reverse is) = subst (λ ns. InBox ns (reverse is)) (sym (c.lengths ∙ same-lengths)) (InBox-reverse g.lengths is b) in
        ap (λ w. cell w is) is_s ∙ (ap (cell (transpose_of r)) (sym (reverse-reverse is)) ∙ transpose-cell r (reverse is) (subst IsGrid is_s s_whole) d)

    pub cumulates-reversed : Cumulates gives k g s
    cumulates-reversed = record {
      lengths = s-lengths;
      whole = s_whole;
      first = λ is x none e.
          let b = cell-inside g is x e in
          seen is b ∙ c.first (reverse is) x (get-back is (InBox-length g.lengths is b) ∙ none) (cell-back is b ∙ e);
      next = λ is x p z e f q.
          let b = cell-inside g (one_further k is) x e in
          let d : InBox g.lengths is = subst (λ ns. InBox ns is) s-lengths (cell-inside s is p f) in
          let l = InBox-length g.lengths is d in
          let further : one_further m (reverse is) ≡ reverse (one_further k is) = ap (λ v. set (reverse is) m (v + 1)) (get-back is l) ∙ sym (set-back is l (get_or is k 0 + 1)) in
          c.next (reverse is) x p z (ap (cell t) further ∙ (cell-back (one_further k is) b ∙ e)) (sym (seen is d) ∙ f) (ap (cell r) further ∙ (sym (seen (one_further k is) b) ∙ q));
    }
