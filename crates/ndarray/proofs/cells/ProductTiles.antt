-- General products that are made in part, one part after another.
use Rattle.std.proofs.Common.{◌≡◌, ◌⊎◌, ◌∙◌, ◌+◌, ◌-◌, ◌<◌, ◌≤◌, ℕ, zero, suc, List, [], ◌∷◌, Some, ap, arith, get_or, inl, inr, length, map, refl, set, subst, sym}
use Rattle.std.specs.Prelude.{slice_get}
use Rattle.std.proofs.lemmas.Bool.{cases_lt}
use Rattle.std.proofs.lemmas.List.{get_or-set_same}
use Rattle.std.proofs.lemmas.Option.{slice_get-get_or}
use Rattle.ndarray.specs.Grid.{Grid, IsGrid, cell}
use Rattle.ndarray.specs.Index.{InBox}
use Rattle.ndarray.specs.Matrices.{values_below}
use Rattle.ndarray.specs.Products.{Accumulates, AddsScaled, CanAccumulate, CanAddScaled, value_or}
use Rattle.ndarray.specs.linalg.ProductTiles.{AccumulatesIn, CanAccumulateIn, InRun, InTile, list_along, other_index}
use Rattle.ndarray.specs.Writes.{with_cell}
use Rattle.ndarray.specs.declared.elements.Valued.{Ghosts as ValuedGhosts}
use Rattle.ndarray.proofs.cells.Cells.{cell-inside}
use Rattle.ndarray.proofs.cells.Writes.{with_cell-elsewhere, with_cell-here, with_cell-whole}
use Rattle.ndarray.proofs.sums.RowSums.{value-at, values-length}

-- ---- runs and tiles

-- the place of an index list of a run, from the first one on
pub in-run : (ks : List ℕ) (axis j0 j1 j : ℕ) → axis < length ks → j0 ≤ j → j < j1 → InRun ks axis j0 j1 (set ks axis j)
in-run ks axis j0 j1 j lt from to =
    let at : get_or (set ks axis j) axis 0 ≡ j = get_or-set_same ks axis j 0 lt in
    record { from_column = omega (arith, at, from); to_column = omega (arith, at, to); others = ap (set ks axis) (sym at) }

-- a run is in the box where its row and its places are
pub run-inside : (ns : List ℕ) (axis i j0 j1 : ℕ) → length ns ≡ 2 → axis < 2 → i < other_index axis ns → j1 ≤ get_or ns axis 0 → (is : List ℕ) → InRun (i ∷ i ∷ []) axis j0 j1 is → InBox ns is
run-inside ns axis i j0 j1 two lt row columns is d = subst (InBox ns) (sym d.others) (inside ns axis (get_or is axis 0) two lt row (let to = d.to_column in omega (arith, to, columns)))
  where
    inside : (ns : List ℕ) (axis j : ℕ) → length ns ≡ 2 → axis < 2 → i < other_index axis ns → j < get_or ns axis 0 → InBox ns (set (i ∷ i ∷ []) axis j)
    inside [] axis j two lt row column = absurd (omega (arith, two))
    inside (n ∷ []) axis j two lt row column = absurd (omega (arith, two))
    inside (n ∷ m ∷ []) zero j two lt row column = (column, (row, tt))
    inside (n ∷ m ∷ []) (suc zero) j two lt row column = (row, (column, tt))
    inside (n ∷ m ∷ []) (suc (suc axis)) j two lt row column = absurd (omega (arith, lt))
    inside (n ∷ m ∷ l ∷ ns) axis j two lt row column = absurd (omega (arith, two))

pub run-in_vector : (ns : List ℕ) (j0 j1 : ℕ) → length ns ≡ 1 → j1 ≤ get_or ns 0 0 → (is : List ℕ) → InRun (0 ∷ []) 0 j0 j1 is → InBox ns is
run-in_vector [] j0 j1 one columns is d = absurd (omega (arith, one))
run-in_vector (n ∷ []) j0 j1 one columns is d = subst (InBox (n ∷ [])) (sym d.others) (let to = d.to_column in omega (arith, to, columns), tt)
run-in_vector (n ∷ m ∷ ns) j0 j1 one columns is d = absurd (omega (arith, one))

-- an index list of a run that lies in a row is in the tile of that row
pub run-in_tile : (axis i j0 j1 : ℕ) (is : List ℕ) → axis < 2 → InRun (i ∷ i ∷ []) axis j0 j1 is → InTile axis i (i + 1) j0 j1 is
run-in_tile axis i j0 j1 is lt d =
    let row = ap (other_index axis) d.others ∙ other axis (get_or is axis 0) lt in
    record { from_row = omega (arith, row); to_row = omega (arith, row); from_column = d.from_column; to_column = d.to_column }
  where
    other : (axis j : ℕ) → axis < 2 → other_index axis (set (i ∷ i ∷ []) axis j) ≡ i
    other zero j lt = refl
    other (suc zero) j lt = refl
    other (suc (suc axis)) j lt = absurd (omega (arith, lt))

pub tile-in_run : (axis i j0 j1 : ℕ) (is : List ℕ) → length is ≡ 2 → axis < 2 → InTile axis i (i + 1) j0 j1 is → InRun (i ∷ i ∷ []) axis j0 j1 is
tile-in_run axis i j0 j1 is two lt d =
    let row : other_index axis is ≡ i = (let from = d.from_row in let to = d.to_row in omega (arith, from, to)) in
    record { from_column = d.from_column; to_column = d.to_column; others = same is axis two lt row }
  where
    same : (is : List ℕ) (axis : ℕ) → length is ≡ 2 → axis < 2 → other_index axis is ≡ i → is ≡ set (i ∷ i ∷ []) axis (get_or is axis 0)
    same [] axis two lt row = absurd (omega (arith, two))
    same (a ∷ []) axis two lt row = absurd (omega (arith, two))
    same (a ∷ b ∷ []) zero two lt row = ap (λ k. a ∷ k ∷ []) row
    same (a ∷ b ∷ []) (suc zero) two lt row = ap (λ k. k ∷ b ∷ []) row
    same (a ∷ b ∷ []) (suc (suc axis)) two lt row = absurd (omega (arith, lt))
    same (a ∷ b ∷ c ∷ is) axis two lt row = absurd (omega (arith, two))

-- each index list of a box of two axes is in the tile of all of it, and of one axis in the run of all of it
pub all-in_tile : (ns is : List ℕ) (axis : ℕ) → length ns ≡ 2 → axis < 2 → InBox ns is → InTile axis 0 (other_index axis ns) 0 (get_or ns axis 0) is
all-in_tile [] is axis two lt b = absurd (omega (arith, two))
all-in_tile (n ∷ []) is axis two lt b = absurd (omega (arith, two))
all-in_tile (n ∷ m ∷ []) [] axis two lt b = absurd b
all-in_tile (n ∷ m ∷ []) (i ∷ []) axis two lt b = absurd b.1
all-in_tile (n ∷ m ∷ []) (i ∷ j ∷ []) zero two lt b = record { from_row = omega arith; to_row = b.1.0; from_column = omega arith; to_column = b.0 }
all-in_tile (n ∷ m ∷ []) (i ∷ j ∷ []) (suc zero) two lt b = record { from_row = omega arith; to_row = b.0; from_column = omega arith; to_column = b.1.0 }
all-in_tile (n ∷ m ∷ []) (i ∷ j ∷ []) (suc (suc axis)) two lt b = absurd (omega (arith, lt))
all-in_tile (n ∷ m ∷ []) (i ∷ j ∷ k ∷ is) axis two lt b = absurd b.1.1
all-in_tile (n ∷ m ∷ l ∷ ns) is axis two lt b = absurd (omega (arith, two))

pub all-in_run : (ns is : List ℕ) → length ns ≡ 1 → InBox ns is → InRun (0 ∷ []) 0 0 (get_or ns 0 0) is
all-in_run [] is one b = absurd (omega (arith, one))
all-in_run (n ∷ []) [] one b = absurd b
all-in_run (n ∷ []) (i ∷ []) one b = record { from_column = omega arith; to_column = b.0; others = refl }
all-in_run (n ∷ []) (i ∷ j ∷ is) one b = absurd b.1
all-in_run (n ∷ m ∷ ns) is one b = absurd (omega (arith, one))

module _ {A : Type 0} (e : ValuedGhosts A) (alpha beta : A) where
  -- ---- parts

  pub tile-start : (D : List ℕ → Type 0) (sum : List ℕ → e.Carrier) (g : Grid A) → IsGrid g → ((is : List ℕ) → D is → ⊥) → AccumulatesIn e D alpha beta sum g g
  tile-start D sum g whole none = record { lengths = refl; whole = whole; done = λ is z d s. absurd (none is d); left = λ is no_d. refl }

  -- two parts without a common place
  pub tiles-join : (D E F : List ℕ → Type 0) (sum : List ℕ → e.Carrier) (old mid new : Grid A) → ((is : List ℕ) → F is → D is ⊎ E is) → ((is : List ℕ) → D is → F is) → ((is : List ℕ) → E is → F is) → ((is : List ℕ) → D is → E is → ⊥)
      → AccumulatesIn e D alpha beta sum old mid → AccumulatesIn e E alpha beta sum mid new → AccumulatesIn e F alpha beta sum old new
  tiles-join D E F sum old mid new parts first second apart h k = record {
    lengths = k.lengths ∙ h.lengths;
    whole = k.whole;
    done = λ is z f s. elim (parts is f) [
      | inl d ↦ h.done is z d (sym (k.left is (apart is d)) ∙ s)
      | inr p ↦ (let (x, at, added) = k.done is z p s in (x, sym (h.left is (λ d. apart is d p)) ∙ at, added))
    ];
    left = λ is out. k.left is (λ p. out (second is p)) ∙ h.left is (λ d. out (first is d));
  }

  -- what may be done at places that are left
  pub tile-can : (D E : List ℕ → Type 0) (sum other : List ℕ → e.Carrier) (old mid : Grid A) → ((is : List ℕ) → D is → E is → ⊥) → AccumulatesIn e D alpha beta sum old mid → CanAccumulateIn e E alpha beta other old → CanAccumulateIn e E alpha beta other mid
  tile-can D E sum other old mid apart h can is x p s = can is x p (sym (h.left is (λ d. apart is d p)) ∙ s)

  -- the same of places of the box that are named in another way, and of sums
  pub tile-same : (D E : List ℕ → Type 0) (sum other : List ℕ → e.Carrier) (old new : Grid A) → ((is : List ℕ) → InBox old.lengths is → E is → D is) → ((is : List ℕ) → D is → E is) → ((is : List ℕ) → E is → sum is ≡ other is)
      → AccumulatesIn e D alpha beta sum old new → AccumulatesIn e E alpha beta other old new
  tile-same D E sum other old new back forth same h = record {
    lengths = h.lengths;
    whole = h.whole;
    done = λ is z p s. (let (x, at, added) = h.done is z (back is (subst (λ ns. InBox ns is) h.lengths (cell-inside new is z s)) p) s in (x, at, subst (λ t. AddsScaled e (e.meaning alpha) (e.meaning beta) (e.meaning x) t (e.meaning z)) (same is p) added));
    left = λ is out. h.left is (λ d. out (forth is d));
  }

  pub tile-sums : (D : List ℕ → Type 0) (sum other : List ℕ → e.Carrier) (old new : Grid A) → ((is : List ℕ) → D is → sum is ≡ other is) → AccumulatesIn e D alpha beta sum old new → AccumulatesIn e D alpha beta other old new
  tile-sums D sum other old new same h = tile-same D D sum other old new (λ is b d. d) (λ is d. d) same h

  -- all places
  pub tile-all : (D : List ℕ → Type 0) (sum : List ℕ → e.Carrier) (old new : Grid A) → ((is : List ℕ) → InBox old.lengths is → D is) → AccumulatesIn e D alpha beta sum old new → Accumulates e alpha beta sum old new
  tile-all D sum old new all h = record { lengths = h.lengths; whole = h.whole; cells = λ is z s. h.done is z (all is (subst (λ ns. InBox ns is) h.lengths (cell-inside new is z s))) s }

  -- sums that are equal in the box
  pub can-same : (sum other : List ℕ → e.Carrier) (old : Grid A) → ((is : List ℕ) → InBox old.lengths is → sum is ≡ other is) → CanAccumulate e alpha beta sum old → CanAccumulate e alpha beta other old
  can-same sum other old same can is x at = subst (CanAddScaled e (e.meaning alpha) (e.meaning beta) (e.meaning x)) (same is (cell-inside old is x at)) (can is x at)

  pub accumulates-same : (sum other : List ℕ → e.Carrier) (old new : Grid A) → ((is : List ℕ) → InBox old.lengths is → sum is ≡ other is) → Accumulates e alpha beta sum old new → Accumulates e alpha beta other old new
  accumulates-same sum other old new same h = record {
    lengths = h.lengths;
    whole = h.whole;
    cells = λ is z s. (let (x, at, added) = h.cells is z s in (x, at, subst (λ t. AddsScaled e (e.meaning alpha) (e.meaning beta) (e.meaning x) t (e.meaning z)) (same is (cell-inside old is x at)) added));
  }

  -- one cell
  pub tile-one : (sum : List ℕ → e.Carrier) (old new : Grid A) (ks : List ℕ) (x z : A) → IsGrid old → cell old ks ≡ Some x → AddsScaled e (e.meaning alpha) (e.meaning beta) (e.meaning x) (sum ks) (e.meaning z) → new ≡ with_cell old ks z
      → AccumulatesIn e (λ is. is ≡ ks) alpha beta sum old new
  tile-one sum old new ks x z whole at added written = record {
    lengths = ap (λ g. g.lengths) written;
    whole = subst IsGrid (sym written) (with_cell-whole old ks z whole);
    done = λ is y d s. (
        let here : cell new ks ≡ Some z = ap (λ g. cell g ks) written ∙ with_cell-here old ks z whole (cell-inside old ks x at) in
        let same : y ≡ z = (let both : Some y ≡ Some z = sym s ∙ (ap (cell new) d ∙ here) in cc) in
        (x, ap (cell old) d ∙ at, subst (λ k. AddsScaled e (e.meaning alpha) (e.meaning beta) (e.meaning x) (sum k) (e.meaning y)) (sym d) (subst (λ k. AddsScaled e (e.meaning alpha) (e.meaning beta) (e.meaning x) (sum ks) (e.meaning k)) (sym same) added)));
    left = λ is out. ap (λ g. cell g is) written ∙ with_cell-elsewhere old ks is z out;
  }

  -- a run, and the cell behind it
  pub run-next : (sum : List ℕ → e.Carrier) (old mid new : Grid A) (ks : List ℕ) (axis first t : ℕ) → axis < length ks → AccumulatesIn e (InRun ks axis first (first + t)) alpha beta sum old mid → AccumulatesIn e (λ is. is ≡ set ks axis (first + t)) alpha beta sum mid new → AccumulatesIn e (InRun ks axis first (first + (t + 1))) alpha beta sum old new
  run-next sum old mid new ks axis first t lt = tiles-join _ _ _ sum old mid new
      (λ is d. elim (cases_lt (get_or is axis 0) (first + t)) [
        | inl before ↦ inl (record { from_column = d.from_column; to_column = before; others = d.others })
        | inr behind ↦ inr (d.others ∙ ap (set ks axis) (omega (arith, d.to_column, behind)))
      ])
      (λ is d. record { from_column = d.from_column; to_column = omega (arith, d.to_column); others = d.others })
      (λ is d. subst (InRun ks axis first (first + (t + 1))) (sym d) (in-run ks axis first (first + (t + 1)) (first + t) lt (omega arith) (omega arith)))
      (λ is d p. let at = ap (λ l. get_or l axis 0) p ∙ get_or-set_same ks axis (first + t) 0 lt in absurd (omega (arith, d.to_column, at)))

  -- a run, and the run behind it
  pub runs-next : (sum : List ℕ → e.Carrier) (old mid new : Grid A) (ks : List ℕ) (axis first width : ℕ) → AccumulatesIn e (InRun ks axis 0 first) alpha beta sum old mid → AccumulatesIn e (InRun ks axis first (first + width)) alpha beta sum mid new → AccumulatesIn e (InRun ks axis 0 (first + width)) alpha beta sum old new
  runs-next sum old mid new ks axis first width = tiles-join _ _ _ sum old mid new
      (λ is d. elim (cases_lt (get_or is axis 0) first) [
        | inl before ↦ inl (record { from_column = d.from_column; to_column = before; others = d.others })
        | inr behind ↦ inr (record { from_column = behind; to_column = d.to_column; others = d.others })
      ])
      (λ is d. record { from_column = d.from_column; to_column = omega (arith, d.to_column); others = d.others })
      (λ is d. record { from_column = omega arith; to_column = d.to_column; others = d.others })
      (λ is d p. absurd (omega (arith, d.to_column, p.from_column)))

  -- some rows, and the one behind them
  pub rows-next : (sum : List ℕ → e.Carrier) (old mid new : Grid A) (axis i first last : ℕ) → AccumulatesIn e (InTile axis 0 i first last) alpha beta sum old mid → AccumulatesIn e (InTile axis i (i + 1) first last) alpha beta sum mid new → AccumulatesIn e (InTile axis 0 (i + 1) first last) alpha beta sum old new
  rows-next sum old mid new axis i first last = tiles-join _ _ _ sum old mid new
      (λ is d. elim (cases_lt (other_index axis is) i) [
        | inl before ↦ inl (record { from_row = d.from_row; to_row = before; from_column = d.from_column; to_column = d.to_column })
        | inr behind ↦ inr (record { from_row = behind; to_row = d.to_row; from_column = d.from_column; to_column = d.to_column })
      ])
      (λ is d. record { from_row = d.from_row; to_row = omega (arith, d.to_row); from_column = d.from_column; to_column = d.to_column })
      (λ is d. record { from_row = omega arith; to_row = d.to_row; from_column = d.from_column; to_column = d.to_column })
      (λ is d p. absurd (omega (arith, d.to_row, p.from_row)))

  -- some columns, and those behind them
  pub columns-next : (sum : List ℕ → e.Carrier) (old mid new : Grid A) (axis rows first width : ℕ) → AccumulatesIn e (InTile axis 0 rows 0 first) alpha beta sum old mid → AccumulatesIn e (InTile axis 0 rows first (first + width)) alpha beta sum mid new → AccumulatesIn e (InTile axis 0 rows 0 (first + width)) alpha beta sum old new
  columns-next sum old mid new axis rows first width = tiles-join _ _ _ sum old mid new
      (λ is d. elim (cases_lt (get_or is axis 0) first) [
        | inl before ↦ inl (record { from_row = d.from_row; to_row = d.to_row; from_column = d.from_column; to_column = before })
        | inr behind ↦ inr (record { from_row = d.from_row; to_row = d.to_row; from_column = behind; to_column = d.to_column })
      ])
      (λ is d. record { from_row = d.from_row; to_row = d.to_row; from_column = d.from_column; to_column = omega (arith, d.to_column) })
      (λ is d. record { from_row = d.from_row; to_row = d.to_row; from_column = omega arith; to_column = d.to_column })
      (λ is d p. absurd (omega (arith, d.to_column, p.from_column)))

module _ {A : Type 0} (e : ValuedGhosts A) where
  -- the value at a place of a list
  pub sum-at : (axis first : ℕ) (xs : List A) (t : ℕ) (ks : List ℕ) (s : A) → axis < length ks → t < length xs → s ≡ get_or xs t s → list_along e axis first xs (set ks axis (first + t)) ≡ e.meaning s
  sum-at axis first xs t ks s inside lt is =
      let at : get_or (set ks axis (first + t)) axis 0 ≡ first + t = get_or-set_same ks axis (first + t) 0 inside in
      let place : get_or (set ks axis (first + t)) axis 0 - first ≡ t = omega (arith, at) in
      ap (λ k. value_or e.meaning e.addition.unit (slice_get xs k)) place ∙ (ap (value_or e.meaning e.addition.unit) (slice_get-get_or xs t s lt) ∙ ap e.meaning (sym is))

  -- the values of a list that are known
  pub sums-known : (axis first n : ℕ) (xs : List A) (f : ℕ → e.Carrier) (d : A) → map e.meaning xs ≡ values_below n f → (is : List ℕ) → first ≤ get_or is axis 0 → get_or is axis 0 < first + n → list_along e axis first xs is ≡ f (get_or is axis 0 - first)
  sums-known axis first n xs f d known is from to =
      let long = values-length e.meaning xs n f known in
      ap (value_or e.meaning e.addition.unit) (slice_get-get_or xs (get_or is axis 0 - first) d (omega (arith, long, from, to))) ∙ value-at e.meaning xs n f (get_or is axis 0 - first) d known (omega (arith, from, to))
