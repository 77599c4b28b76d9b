-- One step of a walk.
use Rattle.std.proofs.Common.{◌≡◌, ℕ, ◌+◌, ◌-◌, ◌*◌, ◌<◌, ◌≤◌, ◌^◌, suc, zero, List, [], ◌∷◌, ◌++◌, length, take, drop, set, get_or, replicate, refl, sym, ◌∙◌, ap, arith, subst}
use Rattle.std.proofs.lemmas.List.{take-take, drop-drop, drop-take, take_all, drop_all, length-take-le, length-drop, get_or-take, get_or-drop, get_or_default, get_or-set_same, set-get_or}
use Rattle.std.proofs.Math.Seq.{take-suc, drop-cons}
use Rattle.std.specs.Prelude.{Contains}
use Rattle.ndarray.specs.Index.{InBox, size}
use Rattle.ndarray.specs.Limits.{IsWithinLimit}
use Rattle.ndarray.specs.Orders.{box_in}
use Rattle.ndarray.specs.base.Ranks.{rank, column_rank, rank_in, axis_in, block_in, row_from}
use Rattle.ndarray.specs.order.Walks.{walk_rest, WalksFrom}
use Rattle.ndarray.specs.declared.base.shape.Order.{Order}
use Rattle.ndarray.specs.declared.base.shape.Order.TheVariants.{RowMajor, ColumnMajor}
use Rattle.ndarray.proofs.boxes.Boxes.{InBox-length, InBox-get, InBox-set, InBox-zeros}
use Rattle.ndarray.proofs.boxes.Sizes.{size-append, size-le}
use Rattle.ndarray.proofs.boxes.Orders.{length-box_in, box_in-at, box_in-back}

pub axis_in-lt : (o : Order) (n p : ℕ) → p < n → axis_in o n p < n
axis_in-lt RowMajor n p h = omega arith
axis_in-lt ColumnMajor n p h = h

pub block_in-none : (o : Order) (ns : List ℕ) → block_in o ns 0 ≡ 1
block_in-none RowMajor ns = ap size (drop_all (length ns - 0) ns (omega arith))
block_in-none ColumnMajor ns = refl

pub block_in-more : (o : Order) (ns : List ℕ) (p : ℕ) → p < length ns → block_in o ns (p + 1) ≡ get_or ns (axis_in o (length ns) p) 0 * block_in o ns p
block_in-more RowMajor ns p h =
    let e : length ns - (p + 1) ≡ length ns - 1 - p = omega arith in
    let e2 : suc (length ns - 1 - p) ≡ length ns - p = omega arith in
    ap (λ x. size (drop x ns)) e
    ∙ (ap size (drop-cons ns (length ns - 1 - p) 0 (omega arith))
    ∙ ap (λ x. get_or ns (length ns - 1 - p) 0 * size (drop x ns)) e2)
block_in-more ColumnMajor ns p h =
    let e : p + 1 ≡ suc p = omega arith in
    ap (λ x. size (take x ns)) e
    ∙ (ap size (take-suc ns p 0 h)
    ∙ (size-append (take p ns) (get_or ns p 0 ∷ []) ∙ omega arith))

row_set : (ns is : List ℕ) (k v : ℕ) → length is ≡ length ns → k < length ns → rank ns (set is k v) + get_or is k 0 * size (drop (suc k) ns) ≡ rank ns is + v * size (drop (suc k) ns)
unfolding rank
row_set [] is k v l h = absurd (omega arith)
row_set (n ∷ ns) [] k v l h = absurd (omega arith)
row_set (n ∷ ns) (i ∷ is) zero v l h = omega arith
row_set (n ∷ ns) (i ∷ is) (suc k) v l h = let ih = row_set ns is k v (omega arith) (omega arith) in omega arith

column_set : (ns is : List ℕ) (k v : ℕ) → length is ≡ length ns → k < length ns → column_rank ns (set is k v) + get_or is k 0 * size (take k ns) ≡ column_rank ns is + v * size (take k ns)
unfolding column_rank
column_set [] is k v l h = absurd (omega arith)
column_set (n ∷ ns) [] k v l h = absurd (omega arith)
column_set (n ∷ ns) (i ∷ is) zero v l h = omega arith
column_set (n ∷ ns) (i ∷ is) (suc k) v l h = let ih = ap (λ x. n * x) (column_set ns is k v (omega arith) (omega arith)) in omega arith

-- a change of the axis that varies p-th fastest moves the rank by blocks
pub rank_in-set : (o : Order) (ns is : List ℕ) (p v : ℕ) → length is ≡ length ns → p < length ns → rank_in o ns (set is (axis_in o (length ns) p) v) + get_or is (axis_in o (length ns) p) 0 * block_in o ns p ≡ rank_in o ns is + v * block_in o ns p
rank_in-set RowMajor ns is p v l h =
    let e : suc (length ns - 1 - p) ≡ length ns - p = omega arith in
    rw (← e) (row_set ns is (length ns - 1 - p) v l (omega arith))
rank_in-set ColumnMajor ns is p v l h = column_set ns is p v l h

pub rank-zeros : (ns : List ℕ) (m : ℕ) → rank ns (replicate m 0) ≡ 0
unfolding rank
rank-zeros [] m = refl
rank-zeros (n ∷ ns) zero = refl
rank-zeros (n ∷ ns) (suc m) = let ih = rank-zeros ns m in omega arith

column_rank-zeros : (ns : List ℕ) → column_rank ns (replicate (length ns) 0) ≡ 0
unfolding column_rank
column_rank-zeros [] = refl
column_rank-zeros (n ∷ ns) = let ih = ap (λ x. n * x) (column_rank-zeros ns) in omega arith

pub rank_in-zeros : (o : Order) (ns : List ℕ) → rank_in o ns (replicate (length ns) 0) ≡ 0
rank_in-zeros RowMajor ns = rank-zeros ns (length ns)
rank_in-zeros ColumnMajor ns = column_rank-zeros ns

module _ (o : Order) (ns is js : List ℕ) (n p k i t : ℕ) (b : InBox ns is) (en : n ≡ length ns) (lt : p < n) (ek : k ≡ axis_in o n p) (ei : i ≡ get_or is k 0) (et : rank_in o ns is + block_in o ns p ≡ t) where
  at-lt : k < length ns
  at-lt = let a = axis_in-lt o n p lt in omega arith

  moved : (v : ℕ) → rank_in o ns (set is k v) + get_or is k 0 * block_in o ns p ≡ rank_in o ns is + v * block_in o ns p
  moved v =
      let e : k ≡ axis_in o (length ns) p = ek ∙ ap (λ x. axis_in o x p) en in
      let P : ℕ → Type 0 = λ x. rank_in o ns (set is x v) + get_or is x 0 * block_in o ns p ≡ rank_in o ns is + v * block_in o ns p in
      subst P (sym e) (rank_in-set o ns is p v (InBox-length ns is b) (omega arith))

  step-here : i + 1 < get_or ns k 0 → js ≡ set is k (i + 1) → InBox ns js × (rank_in o ns js ≡ t)
  step-here below ej =
      let P : List ℕ → Type 0 = λ x. InBox ns x × (rank_in o ns x ≡ t) in
      let m = moved (i + 1) in
      let q : get_or is k 0 * block_in o ns p ≡ i * block_in o ns p = ap (λ x. x * block_in o ns p) (sym ei) in
      subst P (sym ej) (InBox-set ns is k (i + 1) b below, omega arith)

  step-carry : get_or ns k 0 ≤ i + 1 → js ≡ set is k 0 → InBox ns js × (rank_in o ns js + block_in o ns (p + 1) ≡ t)
  step-carry above ej =
      let P : List ℕ → Type 0 = λ x. InBox ns x × (rank_in o ns x + block_in o ns (p + 1) ≡ t) in
      let m = moved 0 in
      let g = InBox-get ns is k b at-lt in
      let all : get_or ns k 0 ≡ i + 1 = omega arith in
      let q : get_or is k 0 * block_in o ns p ≡ i * block_in o ns p = ap (λ x. x * block_in o ns p) (sym ei) in
      let e : axis_in o (length ns) p ≡ k = sym (ek ∙ ap (λ x. axis_in o x p) en) in
      let more : block_in o ns (p + 1) ≡ (i + 1) * block_in o ns p =
      block_in-more o ns p (omega arith) ∙ ap (λ x. x * block_in o ns p) (ap (λ x. get_or ns x 0) e ∙ all) in
      subst P (sym ej) (InBox-set ns is k 0 b (omega arith), omega arith)

-- an axis where the carry ends, or with none
pub step-ends : (o : Order) (ns is js : List ℕ) (n p k i carry t : ℕ) → InBox ns is → n ≡ length ns → p < n → k ≡ axis_in o n p → i ≡ get_or is k 0 → carry ≤ 1
    → (carry ≡ 1 → rank_in o ns is + block_in o ns p ≡ t) → (carry ≡ 0 → rank_in o ns is ≡ t) → i + carry < get_or ns k 0 → js ≡ set is k (i + carry) → InBox ns js × (rank_in o ns js ≡ t)
step-ends o ns is js n p k i zero t b en lt ek ei bit carries done below ej =
    let e : i + 0 ≡ get_or is k 0 = omega arith in
    let same : js ≡ is = ej ∙ (ap (set is k) e ∙ set-get_or is k 0) in
    subst (λ x. InBox ns x × (rank_in o ns x ≡ t)) (sym same) (b, done refl)
step-ends o ns is js n p k i (suc zero) t b en lt ek ei bit carries done below ej = step-here o ns is js n p k i t b en lt ek ei (carries refl) below ej
step-ends o ns is js n p k i (suc (suc c)) t b en lt ek ei bit carries done below ej = absurd (omega arith)

-- an axis over which it goes on
pub step-on : (o : Order) (ns is js : List ℕ) (n p k i carry t : ℕ) → InBox ns is → n ≡ length ns → p < n → k ≡ axis_in o n p → i ≡ get_or is k 0 → carry ≤ 1
    → (carry ≡ 1 → rank_in o ns is + block_in o ns p ≡ t) → get_or ns k 0 ≤ i + carry → js ≡ set is k 0 → (carry ≡ 1) × (InBox ns js × (rank_in o ns js + block_in o ns (p + 1) ≡ t))
step-on o ns is js n p k i zero t b en lt ek ei bit carries above ej =
    let a = axis_in-lt o n p lt in
    let g = InBox-get ns is k b (omega arith) in
    absurd (omega arith)
step-on o ns is js n p k i (suc zero) t b en lt ek ei bit carries above ej = (refl, step-carry o ns is js n p k i t b en lt ek ei (carries refl) above ej)
step-on o ns is js n p k i (suc (suc c)) t b en lt ek ei bit carries above ej = absurd (omega arith)

tails : {X : Type 0} (n : ℕ) (xs : List X) (i j : ℕ) → (0 < n → i ≡ j) → take n (drop i xs) ≡ take n (drop j xs)
tails zero xs i j h = refl
tails (suc n) xs i j h = ap (λ x. take (suc n) (drop x xs)) (h (omega arith))

pub walk-new : (o : Order) (ns : List ℕ) → walk_rest o ns (replicate (length ns) 0) (size ns) ≡ box_in o ns
walk-new o ns =
    let z = rank_in-zeros o ns in
    let l = length-box_in o ns in
    ap (λ x. take (size ns) (drop x (box_in o ns))) z ∙ take_all (size ns) (box_in o ns) (omega arith)

pub walks-from_new : (o : Order) (ns : List ℕ) → IsWithinLimit ns → WalksFrom o ns (replicate (length ns) 0) (size ns)
walks-from_new o ns limit = record {
  limit = limit;
  within = λ h. InBox-zeros ns h;
  fits = λ h. let z = rank_in-zeros o ns in omega arith;
}

pub length-walk_rest : (o : Order) (ns is : List ℕ) (left : ℕ) → WalksFrom o ns is left → length (walk_rest o ns is left) ≡ left
length-walk_rest o ns is zero h = refl
length-walk_rest o ns is (suc left) h =
    let f = h.fits (omega arith) in
    let l = length-box_in o ns in
    length-take-le (suc left) (drop (rank_in o ns is) (box_in o ns)) (let e = length-drop (rank_in o ns is) (box_in o ns) in omega arith)

-- the first of what is left is the walk's index list, and one place on are the others
pub walk_rest-more : (o : Order) (ns is js : List ℕ) (left : ℕ) → WalksFrom o ns is (left + 1) → (0 < left → rank_in o ns js ≡ rank_in o ns is + 1) → walk_rest o ns is (left + 1) ≡ is ∷ walk_rest o ns js left
walk_rest-more o ns is js left h next =
    let inb = h.within (omega arith) in
    let f = h.fits (omega arith) in
    let l = length-box_in o ns in
    let e : left + 1 ≡ suc left = omega arith in
    let d = drop-cons (box_in o ns) (rank_in o ns is) is (omega arith) in
    let a : walk_rest o ns is (left + 1) ≡ get_or (box_in o ns) (rank_in o ns is) is ∷ take left (drop (suc (rank_in o ns is)) (box_in o ns)) =
    ap (λ x. take x (drop (rank_in o ns is) (box_in o ns))) e ∙ ap (take (suc left)) d in
    let b = box_in-at o ns is is inb in
    let t : take left (drop (suc (rank_in o ns is)) (box_in o ns)) ≡ walk_rest o ns js left = tails left (box_in o ns) (suc (rank_in o ns is)) (rank_in o ns js) (λ p. omega (arith, next p)) in
    a ∙ (ap (λ x. x ∷ take left (drop (suc (rank_in o ns is)) (box_in o ns))) b ∙ ap (λ x. is ∷ x) t)

pub walk_rest-next : (o : Order) (ns is js : List ℕ) (left rest : ℕ) → WalksFrom o ns is left → rest + 1 ≡ left → (0 < rest → rank_in o ns js ≡ rank_in o ns is + 1) → walk_rest o ns is left ≡ is ∷ walk_rest o ns js rest
walk_rest-next o ns is js left rest h e next =
    let P : ℕ → Type 0 = λ x. WalksFrom o ns is x in
    ap (λ x. walk_rest o ns is x) (sym e) ∙ walk_rest-more o ns is js rest (subst P (sym e) h) next

pub rank_in-one : (o : Order) (n i : ℕ) → rank_in o (n ∷ []) (i ∷ []) ≡ i
unfolding rank column_rank
rank_in-one RowMajor n i = omega arith
rank_in-one ColumnMajor n i = omega arith

-- with one axis, the last of what is left
pub walk_rest-back : (o : Order) (n i left rest : ℕ) → WalksFrom o (n ∷ []) (i ∷ []) left → rest + 1 ≡ left → walk_rest o (n ∷ []) (i ∷ []) left ≡ walk_rest o (n ∷ []) (i ∷ []) rest ++ ((i + rest) ∷ []) ∷ []
walk_rest-back o n i left rest h e =
    let ns : List ℕ = n ∷ [] in
    let r = rank_in-one o n i in
    let r2 = rank_in-one o n (i + rest) in
    let f = h.fits (omega arith) in
    let l = length-box_in o ns in
    let d : List (List ℕ) = drop (rank_in o ns (i ∷ [])) (box_in o ns) in
    let ld : length d ≡ size ns - rank_in o ns (i ∷ []) = length-drop (rank_in o ns (i ∷ [])) (box_in o ns) ∙ ap (λ x. x - rank_in o ns (i ∷ [])) l in
    let es : left ≡ suc rest = omega arith in
    let at : get_or d rest [] ≡ (i + rest) ∷ [] =
    get_or-drop (rank_in o ns (i ∷ [])) (box_in o ns) rest []
    ∙ (ap (λ x. get_or (box_in o ns) x []) (let q : rank_in o ns (i ∷ []) + rest ≡ rank_in o ns ((i + rest) ∷ []) = omega arith in q)
    ∙ box_in-at o ns ((i + rest) ∷ []) [] (omega arith, tt)) in
    ap (λ x. take x d) es ∙ (take-suc d rest [] (omega arith) ∙ ap (λ x. take rest d ++ x ∷ []) at)

-- the same of lists of one number
pub one-below : (o : Order) (ns is : List ℕ) (left : ℕ) → length is ≡ 1 → 0 < left → WalksFrom o ns is left → get_or is 0 0 + left ≤ get_or ns 0 0
one-below o ns [] left l p h = absurd (omega arith)
one-below o [] (i ∷ is) left l p h = absurd (h.within p)
one-below o (n ∷ m ∷ ns) (i ∷ []) left l p h = absurd ((h.within p).1)
one-below o (n ∷ []) (i ∷ []) left l p h = let f = h.fits p in let r = rank_in-one o n i in omega arith
one-below o (n ∷ ns) (i ∷ j ∷ is) left l p h = absurd (omega arith)

-- so its end fits a word
pub one-fits : (o : Order) (ns is : List ℕ) (left : ℕ) → length is ≡ 1 → 0 < left → WalksFrom o ns is left → get_or is 0 0 + left < 2 ^ 63
one-fits o [] is left l p h = let b = one-below o [] is left l p h in omega arith
one-fits o (n ∷ m ∷ ns) [] left l p h = absurd (omega arith)
one-fits o (n ∷ m ∷ ns) (i ∷ []) left l p h = absurd ((h.within p).1)
one-fits o (n ∷ m ∷ ns) (i ∷ j ∷ is) left l p h = absurd (omega arith)
one-fits o (n ∷ []) is left l p h = let b = one-below o (n ∷ []) is left l p h in let s = size-le (n ∷ []) in let m = h.limit in omega arith

pub walk_rest-back_one : (o : Order) (ns is : List ℕ) (i left rest : ℕ) → length is ≡ 1 → i ≡ get_or is 0 0 → WalksFrom o ns is left → rest + 1 ≡ left → walk_rest o ns is left ≡ walk_rest o ns is rest ++ ((i + rest) ∷ []) ∷ []
walk_rest-back_one o ns [] i left rest l e h q = absurd (omega arith)
walk_rest-back_one o [] (j ∷ is) i left rest l e h q = absurd (h.within (omega arith))
walk_rest-back_one o (n ∷ m ∷ ns) (j ∷ []) i left rest l e h q = absurd ((h.within (omega arith)).1)
walk_rest-back_one o (n ∷ []) (j ∷ []) i left rest l e h q = walk_rest-back o n j left rest h q ∙ ap (λ x. walk_rest o (n ∷ []) (j ∷ []) rest ++ ((x + rest) ∷ []) ∷ []) (sym e)
walk_rest-back_one o (n ∷ ns) (j ∷ k ∷ is) i left rest l e h q = absurd (omega arith)

pub WalksFrom-fewer : (o : Order) (ns is : List ℕ) (left rest : ℕ) → WalksFrom o ns is left → rest ≤ left → WalksFrom o ns is rest
WalksFrom-fewer o ns is left rest h le = record {
  limit = h.limit;
  within = λ p. h.within (omega arith);
  fits = λ p. let f = h.fits (omega arith) in omega arith;
}

-- with one axis, what is left after the first k
later : (o : Order) (n i k left rest j : ℕ) → WalksFrom o (n ∷ []) (i ∷ []) left → k + rest ≡ left → (0 < rest → j ≡ i + k) → WalksFrom o (n ∷ []) (j ∷ []) rest × (walk_rest o (n ∷ []) (j ∷ []) rest ≡ drop k (walk_rest o (n ∷ []) (i ∷ []) left))
later o n i k left zero j h e at =
    let l = length-walk_rest o (n ∷ []) (i ∷ []) left h in
    (record { limit = h.limit; within = λ p. absurd (omega arith); fits = λ p. absurd (omega arith) }, sym (drop_all k (walk_rest o (n ∷ []) (i ∷ []) left) (omega arith)))
later o n i k left (suc rest) j h e at =
    let ej = at (omega arith) in
    let f = h.fits (omega arith) in
    let ri = rank_in-one o n i in
    let rj = rank_in-one o n j in
    let box : List (List ℕ) = box_in o (n ∷ []) in
    let ranks : rank_in o (n ∷ []) (j ∷ []) ≡ rank_in o (n ∷ []) (i ∷ []) + k = omega arith in (
      record { limit = h.limit; within = λ p. (omega arith, tt); fits = λ p. omega arith },
      ap (λ r. take (suc rest) (drop r box)) ranks
          ∙ (ap (take (suc rest)) (sym (drop-drop k (rank_in o (n ∷ []) (i ∷ [])) box))
          ∙ (sym (drop-take k (suc rest) (drop (rank_in o (n ∷ []) (i ∷ [])) box))
          ∙ ap (λ m. drop k (take m (drop (rank_in o (n ∷ []) (i ∷ [])) box))) e)),
    )

pub walk-later : (o : Order) (ns is : List ℕ) (k left rest j : ℕ) → length is ≡ 1 → length ns ≡ 1 → WalksFrom o ns is left → k + rest ≡ left → (0 < rest → j ≡ get_or is 0 0 + k) → WalksFrom o ns (j ∷ []) rest × (walk_rest o ns (j ∷ []) rest ≡ drop k (walk_rest o ns is left))
walk-later o ns [] k left rest j li ln h e at = absurd (omega arith)
walk-later o [] (i ∷ is) k left rest j li ln h e at = absurd (omega arith)
walk-later o (n ∷ []) (i ∷ []) k left rest j li ln h e at = later o n i k left rest j h e at
walk-later o (n ∷ m ∷ ns) (i ∷ []) k left rest j li ln h e at = absurd (omega arith)
walk-later o (n ∷ ns) (i ∷ i2 ∷ is) k left rest j li ln h e at = absurd (omega arith)

pub walk-first : (o : Order) (ns is : List ℕ) (k left : ℕ) → k ≤ left → walk_rest o ns is k ≡ take k (walk_rest o ns is left)
walk-first o ns is k left le = sym (take-take k left (drop (rank_in o ns is) (box_in o ns)) le)

-- what is still to come, of a walk that has not ended: the index lists of the box with the ranks from the next one on
module _ (o : Order) (ns is js : List ℕ) (left : ℕ) (h : WalksFrom o ns is left) (some : 0 < left) where
  -- each stands as far behind the next one as its rank says
  rest-get : (k : ℕ) (d : List ℕ) → k < left → get_or (walk_rest o ns is left) k d ≡ get_or (box_in o ns) (rank_in o ns is + k) d
  rest-get k d lt = get_or-take left (drop (rank_in o ns is) (box_in o ns)) k d lt ∙ get_or-drop (rank_in o ns is) (box_in o ns) k d

  -- no other index list is to come
  pub to-come : Contains (walk_rest o ns is left) js → InBox ns js × (rank_in o ns is ≤ rank_in o ns js) × (rank_in o ns js < rank_in o ns is + left)
  to-come c =
      let l = length-walk_rest o ns is left h in
      let f = h.fits some in
      let size_is = length-box_in o ns in
      let lt : c.0 < left = omega (arith, c.1) in
      let k : ℕ = rank_in o ns is + c.0 in
      let there : get_or (box_in o ns) k [] ≡ js = get_or_default (box_in o ns) k [] js (omega arith) ∙ (sym (rest-get c.0 js lt) ∙ c.2) in
      let P : List ℕ → Type 0 = λ x. InBox ns x × (rank_in o ns x ≡ k) in
      let b = subst P there (box_in-back o ns k (omega arith)) in
      (b.0, omega (arith, b.1), omega (arith, b.1))

  -- and all of them are
  pub to-come_back : InBox ns js → rank_in o ns is ≤ rank_in o ns js → rank_in o ns js < rank_in o ns is + left → Contains (walk_rest o ns is left) js
  to-come_back b low high =
      let l = length-walk_rest o ns is left h in
      let k : ℕ = rank_in o ns js - rank_in o ns is in
      let e : rank_in o ns is + k ≡ rank_in o ns js = omega arith in
      (k, omega arith, rest-get k js (omega arith) ∙ (ap (λ x. get_or (box_in o ns) x js) e ∙ box_in-at o ns js js b))

-- ---- rows

-- what is left behind the first `count`
pub walk-skip : (o : Order) (ns is js : List ℕ) (count left rest : ℕ) → WalksFrom o ns is left → count + rest ≡ left → (0 < rest → rank_in o ns js ≡ rank_in o ns is + count) → walk_rest o ns js rest ≡ drop count (walk_rest o ns is left)
walk-skip o ns is js count left zero h e at =
    let l = length-walk_rest o ns is left h in
    sym (drop_all count (walk_rest o ns is left) (omega arith))
walk-skip o ns is js count left (suc rest) h e at =
    let ranks = at (omega arith) in
    let box : List (List ℕ) = box_in o ns in
    ap (λ r. take (suc rest) (drop r box)) ranks
    ∙ (ap (take (suc rest)) (sym (drop-drop count (rank_in o ns is) box))
    ∙ (sym (drop-take count (suc rest) (drop (rank_in o ns is) box))
    ∙ ap (λ m. drop count (take m (drop (rank_in o ns is) box))) e))

module _ (o : Order) (ns : List ℕ) (k : ℕ) (some : 0 < length ns) (ek : k ≡ axis_in o (length ns) 0) where
  -- the rank of another index list on the row
  pub row-rank : (is : List ℕ) (v : ℕ) → InBox ns is → rank_in o ns (set is k v) + get_or is k 0 ≡ rank_in o ns is + v
  row-rank is v b =
      let m = rank_in-set o ns is 0 v (InBox-length ns is b) some in
      let one = block_in-none o ns in
      let P : ℕ → Type 0 = λ x. rank_in o ns (set is x v) + get_or is x 0 ≡ rank_in o ns is + v in
      let here : ℕ = axis_in o (length ns) 0 in
      let a : get_or is here 0 * block_in o ns 0 ≡ get_or is here 0 * 1 = ap (λ x. get_or is here 0 * x) one in
      let c : v * block_in o ns 0 ≡ v * 1 = ap (λ x. v * x) one in
      subst P (sym ek) (omega arith)

  -- what is left on a row
  pub row-walk : (count : ℕ) (is : List ℕ) → WalksFrom o ns is count → get_or is k 0 + count ≤ get_or ns k 0 → walk_rest o ns is count ≡ row_from is k count
  row-walk zero is h room = refl
  row-walk (suc c) is h room =
      let inside = h.within (omega arith) in
      let f = h.fits (omega arith) in
      let js : List ℕ = set is k (get_or is k 0 + 1) in
      let r = row-rank is (get_or is k 0 + 1) inside in
      let next : rank_in o ns js ≡ rank_in o ns is + 1 = omega arith in
      let e : suc c ≡ c + 1 = omega arith in
      let l = InBox-length ns is inside in
      let a = axis_in-lt o (length ns) 0 some in
      let ij : get_or js k 0 ≡ get_or is k 0 + 1 = get_or-set_same is k (get_or is k 0 + 1) 0 (omega arith) in
      let stands : WalksFrom o ns js c = record { limit = h.limit; within = λ p. InBox-set ns is k (get_or is k 0 + 1) inside (omega arith); fits = λ p. omega arith } in
      let ih = row-walk c js stands (omega arith) in
      ap (λ x. walk_rest o ns is x) e ∙ (walk_rest-more o ns is js c (subst (WalksFrom o ns is) e h) (λ p. next) ∙ ap (λ x. is ∷ x) ih)

-- a box of no axes has one index list
pub walk-no_axes : (o : Order) (ns is : List ℕ) (left : ℕ) → length ns ≡ 0 → 0 < left → WalksFrom o ns is left → left ≡ 1
walk-no_axes o [] is left e some h = let f = h.fits some in omega arith
walk-no_axes o (n ∷ ns) is left e some h = absurd (omega arith)

-- a step to the next row
module _ (o : Order) (ns is : List ℕ) (left k end i count : ℕ) (h : WalksFrom o ns is left) (go : 0 < left) (some : 0 < length ns) (ek : k ≡ axis_in o (length ns) 0)
    (ee : end ≡ get_or ns k 0) (ei : i ≡ get_or is k 0) where
  axis-below : k < length ns
  axis-below = let a = axis_in-lt o (length ns) 0 some in omega arith

  pub row-inside : i < end
  row-inside = let g = InBox-get ns is k (h.within go) axis-below in omega arith

  pub row-taken : 0 < count → count ≤ end - i → count ≤ left → take count (walk_rest o ns is left) ≡ row_from is k count
  row-taken c room le = sym (walk-first o ns is count left le) ∙ row-walk o ns k some ek count is (WalksFrom-fewer o ns is left count h le) (let lt = row-inside in omega arith)

  -- the last index list of the row
  pub row-last : 0 < count → count ≤ end - i → 0 < left - count → InBox ns (set is k (i + count - 1)) × (rank_in o ns (set is k (i + count - 1)) + 1 ≡ rank_in o ns is + count) × (rank_in o ns (set is k (i + count - 1)) + 1 < size ns)
  row-last c room more =
      let lt = row-inside in
      let inside = h.within go in
      let f = h.fits go in
      let r = row-rank o ns k some ek is (i + count - 1) inside in
      (InBox-set ns is k (i + count - 1) inside (omega arith), omega arith, omega arith)
