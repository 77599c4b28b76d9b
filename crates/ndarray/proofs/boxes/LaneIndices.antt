-- Index lists on lanes: those of rows, and those of the same lanes at another index.
use Rattle.std.proofs.Common.{◌≡◌, ◌≢◌, ℕ, ◌+◌, ◌<◌, ◌≤◌, zero, suc, List, [], ◌∷◌, ◌++◌, length, map, get_or, set, remove, insert, refl, sym, ◌∙◌, ap, arith, inl, inr}
use Rattle.std.proofs.lemmas.Bool.{cases_lt}
use Rattle.std.proofs.lemmas.List.{get_or_past, get_or-set_other, set_past}
use Rattle.ndarray.specs.Index.{InBox}
use Rattle.ndarray.specs.Limits.{IsWithinLimit}
use Rattle.ndarray.specs.base.LaneScans.{AreOnLanes}
use Rattle.ndarray.specs.base.Ranks.{row_from}
use Rattle.ndarray.specs.order.Walks.{FitsOnAxis}
use Rattle.ndarray.proofs.boxes.Boxes.{InBox-length}
use Rattle.ndarray.proofs.boxes.ShiftedRows.{row-room}
use Rattle.ndarray.proofs.boxes.Sizes.{length-fits}
use Rattle.ndarray.proofs.cells.LaneCells.{insert-removed}
use Rattle.ndarray.proofs.lists.Parts.{All-first, All-second, AllPairs-first, AllPairs-second}
use Rattle.ndarray.proofs.strides.Rows.{row-first}

pub remove-set : (is : List ℕ) (k v : ℕ) → remove (set is k v) k ≡ remove is k
remove-set [] k v = refl
remove-set (i ∷ is) zero v = refl
remove-set (i ∷ is) (suc k) v = ap (λ l. i ∷ l) (remove-set is k v)

-- index lists of one lane are the same with the same index on its axis
pub same-lane : (is js : List ℕ) (k i : ℕ) → remove is k ≡ remove js k → k < length is → k < length js → set is k i ≡ set js k i
same-lane is js k i own lt lj = sym (insert-removed is k i lt) ∙ (ap (λ l. insert l k i) own ∙ insert-removed js k i lj)

set-other : (is : List ℕ) (k m v w : ℕ) → k ≢ m → set (set is k v) m w ≡ set (set is m w) k v
set-other [] k m v w ne = refl
set-other (i ∷ is) zero zero v w ne = absurd (ne refl)
set-other (i ∷ is) zero (suc m) v w ne = refl
set-other (i ∷ is) (suc k) zero v w ne = refl
set-other (i ∷ is) (suc k) (suc m) v w ne = ap (λ l. i ∷ l) (set-other is k m v w (λ e. ne (ap (λ x. suc x) e)))

-- a row at another index on another axis
row_from-set : (is : List ℕ) (k i axis n : ℕ) → k ≢ axis → row_from (set is k i) axis n ≡ map (λ js. set js k i) (row_from is axis n)
row_from-set is k i axis zero ne = refl
row_from-set is k i axis (suc n) ne =
    let next : set (set is k i) axis (get_or (set is k i) axis 0 + 1) ≡ set (set is axis (get_or is axis 0 + 1)) k i =
    ap (λ v. set (set is k i) axis (v + 1)) (get_or-set_other is k axis i 0 (λ e. ne (sym e))) ∙ set-other is k axis i (get_or is axis 0 + 1) ne in
    ap (λ l. set is k i ∷ l) (ap (λ js. row_from js axis n) next ∙ row_from-set (set is axis (get_or is axis 0 + 1)) k i axis n ne)

-- index lists on lanes of their own that are a row
module _ (ns : List ℕ) (k : ℕ) (first : List ℕ) (axis : ℕ) where
  -- where there are several, the row is along another axis
  pub row-across : (n : ℕ) → 2 ≤ n → AreOnLanes ns k (row_from first axis n) → (k ≢ axis) × (axis < length ns)
  row-across zero more on = absurd (omega (arith, more))
  row-across (suc zero) more on = absurd (omega (arith, more))
  row-across (suc (suc n)) more on =
      let many = InBox-length ns first (on.within 0 first (omega arith)) in
      let ne : remove first k ≢ remove (set first axis (get_or first axis 0 + 1)) k = on.apart 0 1 first (omega arith) (omega arith) in (
        λ e. ne (sym (remove-set first k (get_or first axis 0 + 1)) ∙ ap (λ a. remove (set first a (get_or first axis 0 + 1)) k) e),
        elim (cases_lt axis (length ns)) [
          | inl lt ↦ lt
          | inr past ↦ absurd (ne (ap (λ l. remove l k) (sym (set_past first axis (get_or first axis 0 + 1) (omega (arith, past, many))))))
        ],
      )

  pub row-at_index : (n i : ℕ) → AreOnLanes ns k (row_from first axis n) → row_from (set first k i) axis n ≡ map (λ js. set js k i) (row_from first axis n)
  row-at_index zero i on = refl
  row-at_index (suc zero) i on = refl
  row-at_index (suc (suc n)) i on = row_from-set first k i axis (suc (suc n)) (row-across (suc (suc n)) (omega arith) on).0

  pub row-fits : (n : ℕ) → 0 < n → IsWithinLimit ns → AreOnLanes ns k (row_from first axis n) → FitsOnAxis first axis n
  row-fits zero some limit on = absurd (omega (arith, some))
  row-fits (suc n) some limit on =
      let many = InBox-length ns first (row-first (InBox ns) first axis (suc n) (omega arith) on.within) in
      elim (cases_lt axis (length first)) [
        | inl lt ↦ (let room = row-room ns axis n first lt (omega (arith, lt, many)) on.within in
            let most = length-fits ns axis (omega (arith, lt, many)) limit in
            omega (arith, room, most))
        | inr past ↦ elim (cases_lt 0 n) [
          | inl more ↦ (let across = (row-across (suc n) (omega (arith, more)) on).1 in absurd (omega (arith, across, past, many)))
          | inr one ↦ (let none = get_or_past first axis 0 past in omega (arith, none, one))
        ]
      ]

-- parts of index lists on lanes of their own
module _ (ns : List ℕ) (k : ℕ) where
  pub AreOnLanes-first : (iss jss : List (List ℕ)) → AreOnLanes ns k (iss ++ jss) → AreOnLanes ns k iss
  AreOnLanes-first iss jss on = record { within = All-first (InBox ns) iss jss on.within; apart = AllPairs-first (λ is js. remove is k ≢ remove js k) iss jss on.apart }

  pub AreOnLanes-second : (iss jss : List (List ℕ)) → AreOnLanes ns k (iss ++ jss) → AreOnLanes ns k jss
  AreOnLanes-second iss jss on = record { within = All-second (InBox ns) iss jss on.within; apart = AllPairs-second (λ is js. remove is k ≢ remove js k) iss jss on.apart }
