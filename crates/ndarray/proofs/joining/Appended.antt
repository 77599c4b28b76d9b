-- Two arrays joined along an axis: with that axis exchanged with the first one, the cells of one array behind those of the other.
use Rattle.std.proofs.Common.{◌≡◌, ◌∙◌, ℕ, ◌+◌, ◌-◌, ◌*◌, ◌^◌, ◌<◌, ◌≢◌, true, if◌then◌else◌, inl, inr, List, [], ◌∷◌, ◌++◌, length, set, get_or, swap, remove, Option, None, ap, append-nil, sym, refl, arith, subst, get_or-set_other}
use Rattle.std.specs.Prelude.{nat_lt, not, slice_get, ◌&&◌}
use Rattle.std.specs.List.{list_all}
use Rattle.std.proofs.lemmas.Bool.{cases_eq, cases_lt, le-ltb, lt-ltb, not_from_true}
use Rattle.std.proofs.lemmas.Grind.{get_or-set_at}
use Rattle.std.proofs.lemmas.List.{get_or-set_same, length-append, length-set, same_lists, set-get_or, set-set}
use Rattle.std.proofs.lemmas.List.Edits.{length-swap, swapped_from_swap}
use Rattle.std.proofs.lemmas.List.Elements.{All-cons, All-nil}
use Rattle.ndarray.specs.Grid.{Grid, IsGrid, cell, grid, same_index}
use Rattle.ndarray.specs.Index.{InBox, size}
use Rattle.ndarray.specs.Joining.{concatenate_error, concatenation, concatenation_cell, concatenation_lengths, is_same_but_along, is_within_limit}
use Rattle.ndarray.specs.Limits.{IsWithinLimit, nonzero_size}
use Rattle.ndarray.specs.Views.{axes_swapped, axis_inserted}
use Rattle.ndarray.specs.base.Ranks.{rank}
use Rattle.ndarray.proofs.boxes.Boxes.{InBox-get, InBox-length, InBox-set_both}
use Rattle.ndarray.proofs.boxes.Sizes.{nonzero-swap}
use Rattle.ndarray.proofs.callers.Joining.{concatenation-cells}
use Rattle.ndarray.proofs.cells.Cells.{cell-within, tabulate-cell, tabulate-is}
use Rattle.ndarray.proofs.joining.Errors.{if-false, if-true}
use Rattle.ndarray.proofs.joining.Joined.{AreAlong, are-along}
use Rattle.ndarray.proofs.joining.OuterAxes.{InBox-other}
use Rattle.ndarray.proofs.lists.CellLookup.{same_index-refl}
use Rattle.ndarray.proofs.lists.Elements.{swap-swap}
use Rattle.ndarray.proofs.views.Swaps.{InBox-swap}

-- a number that was put in before two places are exchanged, or after
pub swap-set : (xs : List ℕ) (i j v : ℕ) → i < length xs → j < length xs → swap (set xs j v) i j ≡ set (swap xs i j) i v
swap-set xs i j v hi hj =
    let ys : List ℕ = set xs j v in
    let left : List ℕ = swap ys i j in
    let once : List ℕ = swap xs i j in
    let right : List ℕ = set once i v in
    let ls = length-set xs j v in
    let lw = length-swap xs i j in
    let l1 = length-swap ys i j in
    let l2 = length-set once i v in
    same_lists left right (omega (arith, ls, lw, l1, l2))
    (λ k d lt.
    let s = swapped_from_swap ys left i j d (omega (arith, ls, hi)) (omega (arith, ls, hj)) refl in
    let t = swapped_from_swap xs once i j d hi hj refl in
    elim (cases_eq k i) [
      | inl first ↦ ap (λ m. get_or left m d) first ∙ (s.0 ∙ (get_or-set_same xs j v d hj ∙ sym (get_or-set_at once i k v d first (omega (arith, lw, hi)))))
      | inr not_first ↦ elim (cases_eq k j) [
        | inl second ↦
            (let apart : i ≢ j = λ e. not_first (second ∙ sym e) in
            ap (λ m. get_or left m d) second ∙ (s.1 ∙ (get_or-set_other xs j i v d apart ∙ (sym t.1 ∙ (ap (λ m. get_or once m d) (sym second) ∙ sym (get_or-set_other once i k v d not_first))))))
        | inr not_second ↦ s.2 k not_first not_second ∙ (get_or-set_other xs j k v d not_second ∙ (sym (t.2 k not_first not_second) ∙ sym (get_or-set_other once i k v d not_first)))
      ]
    ])

-- the first of a list whose first place was exchanged with another
pub swap-first : (xs : List ℕ) (k : ℕ) → k < length xs → get_or (swap xs 0 k) 0 0 ≡ get_or xs k 0
swap-first xs k lt = (swapped_from_swap xs (swap xs 0 k) 0 k 0 (omega (arith, lt)) lt refl).0

-- boxes that differ in the first length alone
sizes-added : (ns : List ℕ) (n m : ℕ) → 0 < length ns → size (set ns 0 n) + size (set ns 0 m) ≡ size (set ns 0 (n + m))
sizes-added [] n m some = absurd (omega arith)
sizes-added (l ∷ ns) n m some = omega arith

module _ {A : Type 0} (k : ℕ) (g h : Grid A) (whole : IsGrid g) (whole_h : IsGrid h) (none : concatenate_error k (g.lengths ∷ h.lengths ∷ []) ≡ None) where
  abbrev ns : List ℕ
  ns = g.lengths

  abbrev ms : List ℕ
  ms = concatenation_lengths k (g.lengths ∷ h.lengths ∷ [])

  abbrev n : ℕ
  n = get_or g.lengths k 0

  abbrev m : ℕ
  m = get_or h.lengths k 0

  along : AreAlong k g.lengths (g ∷ h ∷ [])
  along = are-along k g (h ∷ []) none

  pub below : k < length g.lengths
  below = along.below

  other-lengths : h.lengths ≡ set g.lengths k m
  other-lengths = along.each 1 h (omega arith)

  as_many : length h.lengths ≡ length g.lengths
  as_many = ap length other-lengths ∙ length-set g.lengths k m

  pub below-other : k < length h.lengths
  below-other = let l = as_many in let b = below in omega (arith, l, b)

  sums : ms ≡ set g.lengths k (n + m)
  sums = let e : 0 + n + m ≡ n + m = omega arith in ap (set g.lengths k) e

  pub all-long : length ms ≡ length g.lengths
  all-long = ap length sums ∙ length-set g.lengths k (n + m)

  -- ---- nothing of length along the axis

  pub appended-none : m ≡ 0 → concatenation k (g ∷ h ∷ []) ≡ g
  appended-none empty =
      let same : g.lengths ≡ ms = sym (sums ∙ (let e : n + m ≡ n = omega (arith, empty) in ap (set g.lengths k) e ∙ set-get_or g.lengths k 0)) in
      sym (tabulate-is g ms (concatenation_cell k (g ∷ h ∷ [])) whole same
      (λ is b. sym (if-true (nat_lt (get_or is k 0) n) _ _ (lt-ltb (get_or is k 0) n (InBox-get g.lengths is k b below)))))

  -- ---- with the axis first

  module _ (s t : Grid A) (first : s ≡ axes_swapped g 0 k) (second : t ≡ axes_swapped h 0 k) (whole_s : IsGrid s) (whole_t : IsGrid t) where
    some : 0 < length g.lengths
    some = let b = below in omega (arith, b)

    s-lengths : s.lengths ≡ swap g.lengths 0 k
    s-lengths = ap (λ v. v.lengths) first

    t-lengths : t.lengths ≡ set (swap g.lengths 0 k) 0 m
    t-lengths = ap (λ v. v.lengths) second ∙ (ap (λ l. swap l 0 k) other-lengths ∙ swap-set g.lengths 0 k m some below)

    s-first : get_or s.lengths 0 0 ≡ n
    s-first = ap (λ l. get_or l 0 0) s-lengths ∙ swap-first g.lengths k below

    long : 0 < length (swap g.lengths 0 k)
    long = let l = length-swap g.lengths 0 k in let b = some in omega (arith, l, b)

    t-first : get_or t.lengths 0 0 ≡ m
    t-first = ap (λ l. get_or l 0 0) t-lengths ∙ get_or-set_same (swap g.lengths 0 k) 0 m 0 long

    own : set (swap g.lengths 0 k) 0 n ≡ swap g.lengths 0 k
    own = ap (set (swap g.lengths 0 k) 0) (sym (swap-first g.lengths k below)) ∙ set-get_or (swap g.lengths 0 k) 0 0

    swapped-sums : swap ms 0 k ≡ set (swap g.lengths 0 k) 0 (n + m)
    swapped-sums = ap (λ l. swap l 0 k) sums ∙ swap-set g.lengths 0 k (n + m) some below

    -- as many cells as both have
    pub appended-many : length s.cells + length t.cells ≡ size (swap ms 0 k)
    appended-many =
        let one : length s.cells ≡ size (set (swap g.lengths 0 k) 0 n) = whole_s ∙ ap size (s-lengths ∙ sym own) in
        let two : length t.cells ≡ size (set (swap g.lengths 0 k) 0 m) = whole_t ∙ ap size t-lengths in
        let both = sizes-added (swap g.lengths 0 k) n m long in
        let all = ap size swapped-sums in
        omega (arith, one, two, both, all)

    pub appended-limit : IsWithinLimit (swap ms 0 k)
    appended-limit =
        let same = nonzero-swap ms 0 k (let l = all-long in let b = below in omega (arith, l, b)) (let l = all-long in let b = below in omega (arith, l, b)) in
        let total = ap nonzero_size sums in
        let limit : nonzero_size (set g.lengths k (n + m)) < 2 ^ 63 = (let e : 0 + n + m ≡ n + m = omega arith in subst (λ x. nonzero_size (set g.lengths k x) < 2 ^ 63) e along.limit) in
        omega (arith, same, total, limit)

    joined-lengths : concatenation_lengths 0 (s.lengths ∷ t.lengths ∷ []) ≡ swap ms 0 k
    joined-lengths =
        let e : 0 + get_or s.lengths 0 0 + get_or t.lengths 0 0 ≡ n + m = (let p = s-first in let q = t-first in omega (arith, p, q)) in
        ap (set s.lengths 0) e ∙ (ap (λ l. set l 0 (n + m)) s-lengths ∙ sym swapped-sums)

    same-but : list_all (is_same_but_along 0 s.lengths) (t.lengths ∷ []) ≡ true
    same-but =
        let e : set t.lengths 0 (get_or s.lengths 0 0) ≡ s.lengths =
        ap (set t.lengths 0) s-first ∙ (ap (λ l. set l 0 n) t-lengths ∙ (set-set (swap g.lengths 0 k) 0 m n ∙ (own ∙ sym s-lengths))) in
        ap (λ l. same_index s.lengths l && true) e ∙ ap (λ b. b && true) (same_index-refl s.lengths)

    no-error : concatenate_error 0 (s.lengths ∷ t.lengths ∷ []) ≡ None
    no-error =
        let l : 0 < length s.lengths = (let e = ap length s-lengths in let b = long in omega (arith, e, b)) in
        if-false (not (nat_lt 0 (length s.lengths))) _ _ (not_from_true _ (lt-ltb 0 (length s.lengths) l))
        ∙ (if-false (not (list_all (is_same_but_along 0 s.lengths) (t.lengths ∷ []))) _ _ (not_from_true _ same-but)
        ∙ if-false (not (is_within_limit (concatenation_lengths 0 (s.lengths ∷ t.lengths ∷ [])))) _ _ (not_from_true _ (ap is_within_limit joined-lengths ∙ lt-ltb _ _ appended-limit)))

    -- along the first axis
    joined : concatenation 0 (s ∷ t ∷ []) ≡ grid (swap ms 0 k) (s.cells ++ t.cells)
    joined =
        let cells = concatenation-cells (s ∷ t ∷ []) (All-cons IsGrid s (t ∷ []) whole_s (All-cons IsGrid t [] whole_t (All-nil IsGrid))) no-error in
        ap (λ xs. grid (concatenation_lengths 0 (s.lengths ∷ t.lengths ∷ [])) xs) (cells ∙ ap (λ l. s.cells ++ l) (append-nil t.cells))
        ∙ ap (λ l. grid l (s.cells ++ t.cells)) joined-lengths

    module _ (r : Grid A) (back : r ≡ axes_swapped (grid (swap ms 0 k) (s.cells ++ t.cells)) 0 k) (whole_r : IsGrid r) where
      abbrev choice : ℕ → ℕ → Option A → Option A → Option A
      choice i p x y = if nat_lt i p then x else y

      -- the cell of an array with two axes exchanged
      at-swapped : (v w : Grid A) → w ≡ axes_swapped v 0 k → IsGrid w → length v.lengths ≡ length g.lengths → (is : List ℕ) → InBox v.lengths is → cell w (swap is 0 k) ≡ cell v is
      at-swapped v w e made many is b =
          let l = InBox-length v.lengths is b in
          let fits : k < length v.lengths = (let p = below in omega (arith, p, many)) in
          let inside = InBox-swap v.lengths is 0 k (omega (arith, fits)) fits b in
          ap (λ x. cell x (swap is 0 k)) e
          ∙ (tabulate-cell (swap v.lengths 0 k) (λ js. cell v (swap js 0 k)) (swap is 0 k) (subst IsGrid e made) inside
          ∙ ap (cell v) (swap-swap is 0 k (omega (arith, l, fits)) (omega (arith, l, fits))))

      each : (is : List ℕ) → InBox ms is → concatenation_cell 0 (s ∷ t ∷ []) (swap is 0 k) ≡ concatenation_cell k (g ∷ h ∷ []) is
      each is b =
          let c : InBox (set g.lengths k (n + m)) is = subst (λ l. InBox l is) sums b in
          let long_is : length is ≡ length g.lengths = InBox-length (set g.lengths k (n + m)) is c ∙ length-set g.lengths k (n + m) in
          let i : ℕ = get_or is k 0 in
          let axis : k < length is = (let p = below in omega (arith, p, long_is)) in
          let zeroth : 0 < length is = omega (arith, axis) in
          let lt : i < n + m = (let x = InBox-get (set g.lengths k (n + m)) is k c (let p = below in let l = length-set g.lengths k (n + m) in omega (arith, p, l)) in let v = get_or-set_same g.lengths k (n + m) 0 below in omega (arith, x, v)) in
          let here = swap-first is k axis in
          let turned : List ℕ = swap is 0 k in
          elim (cases_lt i n) [
            | inl front ↦
                (let inside : InBox g.lengths is = subst (λ l. InBox l is) (set-get_or g.lengths k 0) (InBox-other g.lengths is k (n + m) n c front) in
                ap (λ p. choice p (get_or s.lengths 0 0) (cell s turned) (concatenation_cell 0 (t ∷ []) (set turned 0 (p - get_or s.lengths 0 0)))) here
                ∙ (ap (λ p. choice i p (cell s turned) (concatenation_cell 0 (t ∷ []) (set turned 0 (i - p)))) s-first
                ∙ (if-true (nat_lt i n) _ _ (lt-ltb i n front)
                ∙ (at-swapped g s first whole_s refl is inside
                ∙ sym (if-true (nat_lt i n) _ _ (lt-ltb i n front))))))
            | inr later ↦
                (let d : ℕ = i - n in
                let js : List ℕ = set is k d in
                let less : d < m = omega (arith, lt, later) in
                let inside : InBox h.lengths js = subst (λ l. InBox l js) (set-set g.lengths k (n + m) m ∙ sym other-lengths) (InBox-set_both (set g.lengths k (n + m)) is k m d c less) in
                let moved : set turned 0 d ≡ swap js 0 k = sym (swap-set is 0 k d zeroth axis) in
                let zero_is : get_or (set turned 0 d) 0 0 ≡ d = get_or-set_same turned 0 d 0 (let l = length-swap is 0 k in omega (arith, l, zeroth)) in
                let k_is : get_or js k 0 ≡ d = get_or-set_same is k d 0 axis in
                ap (λ p. choice p (get_or s.lengths 0 0) (cell s turned) (concatenation_cell 0 (t ∷ []) (set turned 0 (p - get_or s.lengths 0 0)))) here
                ∙ (ap (λ p. choice i p (cell s turned) (concatenation_cell 0 (t ∷ []) (set turned 0 (i - p)))) s-first
                ∙ (if-false (nat_lt i n) _ _ (le-ltb i n later)
                ∙ (ap (λ p. choice p (get_or t.lengths 0 0) (cell t (set turned 0 d)) None) zero_is
                ∙ (ap (λ p. choice d p (cell t (set turned 0 d)) None) t-first
                ∙ (if-true (nat_lt d m) _ _ (lt-ltb d m less)
                ∙ (ap (cell t) moved
                ∙ (at-swapped h t second whole_t as_many js inside
                ∙ sym (if-false (nat_lt i n) _ _ (le-ltb i n later)
                ∙ (ap (λ p. choice p m (cell h js) None) k_is ∙ if-true (nat_lt d m) _ _ (lt-ltb d m less)))))))))))
          ]

      pub appended-is : r ≡ concatenation k (g ∷ h ∷ [])
      appended-is =
          let l = all-long in
          let p = below in
          let lengths : r.lengths ≡ ms = ap (λ v. v.lengths) back ∙ swap-swap ms 0 k (omega (arith, l, p)) (omega (arith, l, p)) in
          tabulate-is r ms (concatenation_cell k (g ∷ h ∷ [])) whole_r lengths
          (λ is b.
          let c : InBox ms is = subst (λ v. InBox v is) lengths b in
          let there = InBox-swap ms is 0 k (omega (arith, l, p)) (omega (arith, l, p)) c in
          let many : IsGrid (concatenation 0 (s ∷ t ∷ [])) = subst IsGrid (sym joined) (length-both ∙ appended-many) in
          ap (λ v. cell v is) back
          ∙ (tabulate-cell (swap (swap ms 0 k) 0 k) (λ js. cell (grid (swap ms 0 k) (s.cells ++ t.cells)) (swap js 0 k)) is (subst IsGrid back whole_r) (subst (λ v. InBox v is) (sym (swap-swap ms 0 k (omega (arith, l, p)) (omega (arith, l, p)))) c)
          ∙ (ap (λ v. cell v (swap is 0 k)) (sym joined)
          ∙ (tabulate-cell (concatenation_lengths 0 (s.lengths ∷ t.lengths ∷ [])) (concatenation_cell 0 (s ∷ t ∷ [])) (swap is 0 k) many (subst (λ v. InBox v (swap is 0 k)) (sym joined-lengths) there)
          ∙ each is c))))
        where
          length-both : length (s.cells ++ t.cells) ≡ length s.cells + length t.cells
          length-both = length-append s.cells t.cells

-- two axes exchanged twice
pub swapped-back : {A : Type 0} (g s r : Grid A) (i j : ℕ) → i < length g.lengths → j < length g.lengths → IsGrid g → s ≡ axes_swapped g i j → IsGrid s → r ≡ axes_swapped s i j → IsGrid r → r ≡ g
swapped-back g s r i j hi hj whole first made second whole_r =
    let ls : s.lengths ≡ swap g.lengths i j = ap (λ v. v.lengths) first in
    let back : swap s.lengths i j ≡ g.lengths = ap (λ l. swap l i j) ls ∙ swap-swap g.lengths i j hi hj in
    second
    ∙ sym (tabulate-is g (swap s.lengths i j) (λ is. cell s (swap is i j)) whole (sym back)
    (λ is b.
    let l = InBox-length g.lengths is b in
    sym (ap (λ v. cell v (swap is i j)) first
    ∙ (tabulate-cell (swap g.lengths i j) (λ js. cell g (swap js i j)) (swap is i j) (subst IsGrid first made) (InBox-swap g.lengths is i j hi hj b)
    ∙ ap (cell g) (swap-swap is i j (omega (arith, l, hi)) (omega (arith, l, hj)))))))

-- the cells of two arrays joined along the first axis
pub appended-cells : {A : Type 0} (g h : Grid A) → IsGrid g → IsGrid h → concatenate_error 0 (g.lengths ∷ h.lengths ∷ []) ≡ None → (concatenation 0 (g ∷ h ∷ [])).cells ≡ g.cells ++ h.cells
appended-cells g h whole whole_h none =
    concatenation-cells (g ∷ h ∷ []) (All-cons IsGrid g (h ∷ []) whole (All-cons IsGrid h [] whole_h (All-nil IsGrid))) none ∙ ap (λ l. g.cells ++ l) (append-nil h.cells)

-- ---- one more item along the first axis

rank-first : (ns : List ℕ) (i : ℕ) (js : List ℕ) → i < 1 → rank (1 ∷ ns) (i ∷ js) ≡ rank ns js
unfolding rank
rank-first ns i js lt = let zero_is : i ≡ 0 = omega (arith, lt) in ap (λ k. k * size ns + rank ns js) zero_is ∙ (let e : 0 * size ns + rank ns js ≡ rank ns js = omega arith in e)

-- an array seen with an axis of length 1 put in front has the same cells
pub inserted-first : {A : Type 0} (v w : Grid A) → IsGrid v → w ≡ axis_inserted v 0 → w.cells ≡ v.cells
inserted-first {A} v w whole e = ap (λ x. x.cells) (e ∙ sym (tabulate-is front (1 ∷ v.lengths) (λ is. cell v (remove is 0)) made refl each))
  where
    front : Grid A
    front = grid (1 ∷ v.lengths) v.cells

    made : length v.cells ≡ size (1 ∷ v.lengths)
    made = omega (arith, whole)

    each : (is : List ℕ) → InBox (1 ∷ v.lengths) is → cell front is ≡ cell v (remove is 0)
    each [] b = absurd b
    each (i ∷ js) b = cell-within front made (i ∷ js) b ∙ (ap (slice_get v.cells) (rank-first v.lengths i js b.0) ∙ sym (cell-within v whole js b.1))

-- a row below a table: its cells are behind those of the table
pub row-appended : {A : Type 0} (g v w r : Grid A) → IsGrid v → w ≡ axis_inserted v 0 → r ≡ concatenation 0 (g ∷ w ∷ []) → r.cells ≡ g.cells ++ w.cells → r ≡ grid (set g.lengths 0 (get_or g.lengths 0 0 + 1)) (g.cells ++ v.cells)
row-appended g v w r whole e joined cells =
    let one : get_or w.lengths 0 0 ≡ 1 = ap (λ x. get_or x.lengths 0 0) e in
    let more : 0 + get_or g.lengths 0 0 + get_or w.lengths 0 0 ≡ get_or g.lengths 0 0 + 1 = omega (arith, one) in
    ap (λ ns. grid ns r.cells) (ap (λ x. x.lengths) joined ∙ ap (set g.lengths 0) more)
    ∙ ap (grid (set g.lengths 0 (get_or g.lengths 0 0 + 1))) (cells ∙ ap (λ xs. g.cells ++ xs) (inserted-first v w whole e))
