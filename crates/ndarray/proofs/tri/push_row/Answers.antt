use Rattle.std.proofs.Common.{◌≡◌, ◌-◌, ◌<◌, ◌≤◌, ◌++◌, ℕ, All, ap, append_assoc, arith, length, refl, subst, sym, ◌∙◌, replicate, w64, ℤ, Bool, true, false}
use Rattle.std.specs.Prelude.{filter_map, int_le, ◌&&◌, pos, ◌+ℤ◌}
use Rattle.std.specs.Int.{cast_signed, cast_unsigned}
use Rattle.std.proofs.lemmas.Int.{to_z-of_z}
use Rattle.std.proofs.lemmas.List.{length-append, length-replicate}
use Rattle.ndarray.specs.Grid.{cell}
use Rattle.ndarray.specs.Index.{InBox, size}
use Rattle.ndarray.specs.Triangles.{column_minus_row}
use Rattle.ndarray.specs.base.Builder.{pushed_all}
use Rattle.ndarray.specs.base.Ranks.{row_at, row_from}
use Rattle.ndarray.proofs.boxes.Boxes.{InBox-length}
use Rattle.ndarray.proofs.boxes.RowParts.{row_from-part}
use Rattle.ndarray.proofs.cells.DiagonalRows.{after-kept, before-kept, between-kept, kept-row}
use Rattle.ndarray.proofs.cells.Diagonals.{difference-word, indices-fit, kept_at}
use Rattle.ndarray.proofs.joining.Blocks.{pushed-more}
use Rattle.ndarray.proofs.lists.Elements.{length-filter_map-most}
use Rattle.ndarray.proofs.strides.Rows.{length-row_from, row-first}
use Rattle.ndarray.proofs.tri.push_row.Goals as goal
use Rattle.ndarray.proofs.tri.push_row.Goals.{After-column_minus_row-diagonal}

pub column_minus_row-diagonal-requires-clause-some : goal.column_minus_row-diagonal-requires-clause-some
column_minus_row-diagonal-requires-clause-some g c =
    let here = row-first (InBox c.args.array.now.lengths) _ _ _ c.requires.some c.requires.inside in
    let l = InBox-length _ _ here in
    let axes = c.requires.axes in
    omega (arith, l, axes)

pub column_minus_row-diagonal-requires-clause-fit : goal.column_minus_row-diagonal-requires-clause-fit
column_minus_row-diagonal-requires-clause-fit g c = indices-fit c.args.array.now.lengths _ c.requires.limit (row-first (InBox c.args.array.now.lengths) _ _ _ c.requires.some c.requires.inside)

pub push_cells-requires-clause-axes : goal.push_cells-requires-clause-axes
push_cells-requires-clause-axes g c =
    let here = row-first (InBox c.args.array.now.lengths) _ _ _ c.requires.some c.requires.inside in
    let l = InBox-length _ _ here in
    let axes = c.requires.axes in
    omega (arith, l, axes)

pub push_cells-requires-clause-fits : goal.push_cells-requires-clause-fits
push_cells-requires-clause-fits g c =
    let is = g.D.Lengths.numbers c.args.index.now in
    let here = row-first (InBox c.args.array.now.lengths) _ _ _ c.requires.some c.requires.inside in
    let l = InBox-length _ _ here in
    let axes = c.requires.axes in
    let fit = indices-fit c.args.array.now.lengths is c.requires.limit here (length is - 1) 0 (omega (arith, l, axes)) in
    let columns = c.requires.fits in
    let within = c.columns_below-from.ensures.within in
    omega (arith, fit, columns, within)

pub push_cells-requires-clause-inside : goal.push_cells-requires-clause-inside
push_cells-requires-clause-inside g c =
    let is = g.D.Lengths.numbers c.args.index.now in
    let ns = c.args.array.now.lengths in
    let l = InBox-length _ _ (row-first (InBox ns) _ _ _ c.requires.some c.requires.inside) in
    let axis : length ns - 1 ≡ length is - 1 = omega (arith, l) in
    let to = c.max-to.ensures in
    let from = c.columns_below-from.ensures.within in
    let up = c.columns_up_to.ensures.within in
    row_from-part (InBox ns) c.columns_below-from.result (c.max-to.result - c.columns_below-from.result) c.args.columns is (length is - 1) (omega (arith, to, from, up))
    (subst (λ k. All (InBox ns) (row_from is k c.args.columns)) axis c.requires.inside)

pub push_zeros-requires-2 : goal.push_zeros-requires-2
push_zeros-requires-2 g c =
    let is = g.D.Lengths.numbers c.args.index.now in
    let from = c.columns_below-from.result in
    let part = row_from (row_at is (length is - 1) from) (length is - 1) (c.max-to.result - from) in
    let zeros = ap (λ p. length p.cells) c.push_zeros.ensures in
    let more = length-append c.args.kept.now.cells (replicate from g.A.Zero.zero) in
    let many = length-replicate from g.A.Zero.zero in
    let cells = ap (λ p. length p.cells) c.in_ok-push_cells.ensures.pushed in
    let next = length-append c.push_zeros.new.self.cells (filter_map (cell c.args.array.now) part) in
    let most = length-filter_map-most (cell c.args.array.now) part in
    let long = length-row_from (row_at is (length is - 1) from) (length is - 1) (c.max-to.result - from) in
    let same = ap (λ p. size p.lengths) c.in_ok-push_cells.ensures.pushed ∙ ap (λ p. size p.lengths) c.push_zeros.ensures in
    let room = c.requires.room in
    let to = c.max-to.ensures in
    let within = c.columns_below-from.ensures.within in
    let up = c.columns_up_to.ensures.within in
    omega (arith, zeros, more, many, cells, next, most, long, same, room, to, within, up)

moved : (P : ℤ → ℤ → Type 0) (x x' y y' : ℤ) → x ≡ x' → y ≡ y' → P x y → P x' y'
moved P x x' y y' e f h = subst (P x') f (subst (λ z. P z y) e h)

pub returns : goal.returns
returns g c =
    let is = g.D.Lengths.numbers c.args.index.now in
    let ns = c.args.array.now.lengths in
    let here = row-first (InBox ns) _ _ _ c.requires.some c.requires.inside in
    let l = InBox-length _ _ here in
    let axes = c.requires.axes in
    let axis : length ns - 1 ≡ length is - 1 = omega (arith, l) in
    let columns = c.args.columns in
    let from = c.columns_below-from.result in
    let up = c.columns_up_to.result in
    let to = c.max-to.result in
    let most = c.max-to.ensures in
    let within = c.columns_below-from.ensures.within in
    let reach = c.columns_up_to.ensures.within in
    let zero = g.A.Zero.zero in
    let part = filter_map (cell c.args.array.now) (row_from (row_at is (length is - 1) from) (length is - 1) (to - from)) in
    let d = column_minus_row is in
    let low = to_z-of_z w64 c.args.first c.ranges.first in
    let high = to_z-of_z w64 c.args.last c.ranges.last in
    let at : cast_signed w64 (cast_unsigned w64 c.column_minus_row-diagonal.result) ≡ d =
    ap (λ z. cast_signed w64 (cast_unsigned w64 z)) c.column_minus_row-diagonal.ensures ∙ to_z-of_z w64 d (difference-word ns is c.requires.limit here axes) in
    let below = moved (λ x y. (k : ℕ) → k < from → int_le x (y +ℤ pos k) ≡ false) _ c.args.first _ d low at c.columns_below-from.ensures.below in
    let above = moved (λ x y. (k : ℕ) → from ≤ k → k < columns → int_le x (y +ℤ pos k) ≡ true) _ c.args.first _ d low at c.columns_below-from.ensures.others in
    let inside = moved (λ x y. (k : ℕ) → k < up → int_le (y +ℤ pos k) x ≡ true) _ c.args.last _ d high at c.columns_up_to.ensures.below in
    let past = moved (λ x y. (k : ℕ) → up ≤ k → k < columns → int_le (y +ℤ pos k) x ≡ false) _ c.args.last _ d high at c.columns_up_to.ensures.others in
    let keeps : ℤ → Bool = λ z. int_le c.args.first z && int_le z c.args.last in
    let kept = kept_at keeps zero c.args.array.now in
    let row : filter_map kept (row_from is (length ns - 1) columns) ≡ replicate from zero ++ (part ++ replicate (columns - to) zero) =
    ap (λ k. filter_map kept (row_from is k columns)) axis
    ∙ kept-row keeps zero c.args.array.now is (length is - 1) (omega (arith, l, axes)) refl from to columns (omega (arith, most)) (omega (arith, most, within, reach))
    (before-kept c.args.first c.args.last d columns from up below above inside past)
    (between-kept c.args.first c.args.last d columns from up below above inside past to (omega (arith, most, within, reach)) (λ k le lt. omega (arith, most, le, lt)))
    (after-kept c.args.first c.args.last d columns from up below above inside past to (omega (arith, most)) (omega (arith, most))) in
    let whole : c.push_zeros-2.new.self ≡ pushed_all c.args.kept.now (replicate from zero ++ (part ++ replicate (columns - to) zero)) =
    c.push_zeros-2.ensures
    ∙ (ap (λ p. pushed_all p (replicate (columns - to) zero)) (c.in_ok-push_cells.ensures.pushed ∙ ap (λ p. pushed_all p part) c.push_zeros.ensures)
    ∙ (ap (λ p. pushed_all p (replicate (columns - to) zero)) (pushed-more c.args.kept.now (replicate from zero) part)
    ∙ (pushed-more c.args.kept.now (replicate from zero ++ part) (replicate (columns - to) zero) ∙ ap (pushed_all c.args.kept.now) (append_assoc (replicate from zero) part (replicate (columns - to) zero))))) in
    record { pushed = whole ∙ sym (ap (pushed_all c.args.kept.now) row) }
