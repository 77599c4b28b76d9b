-- A row of an array of which some diagonals are kept: zeros, cells, and zeros.
use Rattle.std.proofs.Common.{◌≡◌, ℕ, ◌+◌, ◌-◌, ◌<◌, ◌≤◌, List, ◌++◌, Some, Bool, true, false, length, sym, ◌∙◌, ap, arith}
use Rattle.std.specs.Prelude.{ℤ, pos, ◌+ℤ◌, ◌&&◌, int_le, filter_map, replicate, if◌then◌else◌}
use Rattle.std.proofs.lemmas.List.Elements.{filter_map-append}
use Rattle.ndarray.specs.Grid.{Grid, cell}
use Rattle.ndarray.specs.Triangles.{column_minus_row}
use Rattle.ndarray.specs.base.Ranks.{row_at, row_from}
use Rattle.ndarray.proofs.boxes.RowParts.{diagonal-along, row_at-further, row_at-none, row_from-append, row_from-constant, row_from-read}
use Rattle.ndarray.proofs.cells.Diagonals.{kept_at}

module _ {A : Type 0} (keeps : ℤ → Bool) (zero_cell : A) (g : Grid A) (is : List ℕ) (axis : ℕ) (axes : 2 ≤ length is) (last : axis ≡ length is - 1) where
  along : (from c : ℕ) → column_minus_row (row_at (row_at is axis from) axis c) ≡ column_minus_row is +ℤ pos (from + c)
  along from c = ap column_minus_row (row_at-further is axis from c) ∙ (ap (λ k. column_minus_row (row_at is k (from + c))) last ∙ diagonal-along is (from + c) axes)

  zeros : (from n : ℕ) → ((c : ℕ) → c < n → keeps (column_minus_row is +ℤ pos (from + c)) ≡ false) → filter_map (kept_at keeps zero_cell g) (row_from (row_at is axis from) axis n) ≡ replicate n zero_cell
  zeros from n none =
      row_from-read (kept_at keeps zero_cell g) (λ _. Some zero_cell) n (row_at is axis from) axis
      (λ c lt. ap (λ t. if t then cell g (row_at (row_at is axis from) axis c) else Some zero_cell) (ap keeps (along from c) ∙ none c lt))
      ∙ row_from-constant zero_cell n (row_at is axis from) axis

  cells : (from n : ℕ) → ((c : ℕ) → c < n → keeps (column_minus_row is +ℤ pos (from + c)) ≡ true)
      → filter_map (kept_at keeps zero_cell g) (row_from (row_at is axis from) axis n) ≡ filter_map (cell g) (row_from (row_at is axis from) axis n)
  cells from n all =
      row_from-read (kept_at keeps zero_cell g) (cell g) n (row_at is axis from) axis
      (λ c lt. ap (λ t. if t then cell g (row_at (row_at is axis from) axis c) else Some zero_cell) (ap keeps (along from c) ∙ all c lt))

  module _ (from to columns : ℕ) (order : from ≤ to) (within : to ≤ columns)
      (before : (c : ℕ) → c < from → keeps (column_minus_row is +ℤ pos c) ≡ false)
      (between : (c : ℕ) → from ≤ c → c < to → keeps (column_minus_row is +ℤ pos c) ≡ true)
      (after : (c : ℕ) → to ≤ c → c < columns → keeps (column_minus_row is +ℤ pos c) ≡ false)
    where
      pub kept-row : filter_map (kept_at keeps zero_cell g) (row_from is axis columns) ≡ replicate from zero_cell ++ (filter_map (cell g) (row_from (row_at is axis from) axis (to - from)) ++ replicate (columns - to) zero_cell)
      kept-row =
          let f = kept_at keeps zero_cell g in
          let parts : columns ≡ from + ((to - from) + (columns - to)) = omega (arith, order, within) in
          let there : from + (to - from) ≡ to = omega (arith, order) in
          let one = zeros 0 from (λ c lt. (let e : 0 + c ≡ c = omega arith in ap (λ k. keeps (column_minus_row is +ℤ pos k)) e) ∙ before c lt) in
          let two = cells from (to - from) (λ c lt. between (from + c) (omega arith) (omega (arith, lt, order))) in
          let three = zeros to (columns - to) (λ c lt. after (to + c) (omega arith) (omega (arith, lt, within))) in
          ap (λ n. filter_map f (row_from is axis n)) parts
          ∙ (ap (filter_map f) (row_from-append from ((to - from) + (columns - to)) is axis)
          ∙ (filter_map-append f (row_from is axis from) _
          ∙ (ap (λ l. filter_map f (row_from l axis from) ++ filter_map f (row_from (row_at is axis from) axis ((to - from) + (columns - to)))) (sym (row_at-none is axis))
          ∙ (ap (λ l. l ++ filter_map f (row_from (row_at is axis from) axis ((to - from) + (columns - to)))) one
          ∙ ap (λ l. replicate from zero_cell ++ l)
          (ap (filter_map f) (row_from-append (to - from) (columns - to) (row_at is axis from) axis)
          ∙ (filter_map-append f (row_from (row_at is axis from) axis (to - from)) _
          ∙ (ap (λ js. filter_map f (row_from (row_at is axis from) axis (to - from)) ++ filter_map f (row_from js axis (columns - to))) (row_at-further is axis from (to - from) ∙ ap (row_at is axis) there)
          ∙ (ap (λ l. filter_map f (row_from (row_at is axis from) axis (to - from)) ++ l) three
          ∙ ap (λ l. l ++ replicate (columns - to) zero_cell) two))))))))

-- which of a row's diagonals are between two bounds, by how many are below the first and how many at most the last
module _ (first last d : ℤ) (columns from up : ℕ)
    (below : (c : ℕ) → c < from → int_le first (d +ℤ pos c) ≡ false)
    (above : (c : ℕ) → from ≤ c → c < columns → int_le first (d +ℤ pos c) ≡ true)
    (within : (c : ℕ) → c < up → int_le (d +ℤ pos c) last ≡ true)
    (past : (c : ℕ) → up ≤ c → c < columns → int_le (d +ℤ pos c) last ≡ false)
  where
    abbrev pub keeps : ℤ → Bool
    keeps e = int_le first e && int_le e last

    pub before-kept : (c : ℕ) → c < from → keeps (d +ℤ pos c) ≡ false
    before-kept c lt = ap (λ t. t && int_le (d +ℤ pos c) last) (below c lt)

    pub between-kept : (to : ℕ) → to ≤ columns → ((c : ℕ) → from ≤ c → c < to → c < up) → (c : ℕ) → from ≤ c → c < to → keeps (d +ℤ pos c) ≡ true
    between-kept to fit reach c le lt = ap (λ t. t && int_le (d +ℤ pos c) last) (above c le (omega (arith, fit, lt))) ∙ within c (reach c le lt)

    pub after-kept : (to : ℕ) → from ≤ to → up ≤ to → (c : ℕ) → to ≤ c → c < columns → keeps (d +ℤ pos c) ≡ false
    after-kept to order reach c le lt = ap (λ t. t && int_le (d +ℤ pos c) last) (above c (omega (arith, order, le)) lt) ∙ past c (omega (arith, reach, le)) lt
