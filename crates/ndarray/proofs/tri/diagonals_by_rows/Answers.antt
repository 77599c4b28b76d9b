use Rattle.std.proofs.Common.{◌≡◌, ◌∙◌, [], ◌+◌, ◌-◌, ◌++◌, ◌<◌, get_or, All, ap, sym, subst, arith, length, refl, append-nil, append_assoc, set, w64, ℕ, ℤ, Bool, List}
use Rattle.std.specs.Prelude.{filter_map, flat_map, int_le, ◌&&◌}
use Rattle.std.specs.Int.{cast_signed, cast_unsigned}
use Rattle.std.proofs.lemmas.Int.{to_z-of_z}
use Rattle.std.proofs.lemmas.List.{length-append}
use Rattle.std.proofs.lemmas.List.Elements.{All-head, All-tail}
use Rattle.ndarray.specs.Index.{InBox, row_order, size}
use Rattle.ndarray.specs.Limits.{IsWithinLimit}
use Rattle.ndarray.specs.Orders.{cells_in}
use Rattle.ndarray.specs.order.Rows.{one_if_some}
use Rattle.ndarray.specs.Triangles.{diagonals_kept}
use Rattle.ndarray.specs.base.Ranks.{row_from}
use Rattle.ndarray.proofs.boxes.Boxes.{InBox-some}
use Rattle.ndarray.proofs.boxes.RowParts.{filter_map-rows}
use Rattle.ndarray.proofs.boxes.Rows.{firsts-limit, last-begin, last-rows}
use Rattle.ndarray.proofs.boxes.Sizes.{length-fits}
use Rattle.ndarray.proofs.cells.Cells.{along-row_order}
use Rattle.ndarray.proofs.cells.Diagonals.{diagonals-of, kept_at, length-all_kept, length-kept}
use Rattle.ndarray.proofs.strides.Rows.{length-row_from, row-first}
use Rattle.ndarray.proofs.tri.diagonals_by_rows.Goals as goal

-- whether a diagonal is kept, by the bounds as the loop holds them
abbrev is_between : ℤ → ℤ → ℤ → Bool
is_between first last d = int_le (cast_signed w64 (cast_unsigned w64 first)) d && int_le d (cast_signed w64 (cast_unsigned w64 last))

-- what the code reads of the lengths: the last axis, its length, and the lengths of the box of the first index lists
module _ (ns ms fs : List ℕ) (ndim columns some : ℕ) (same : ms ≡ ns) (many : ndim ≡ length ms) (along : columns ≡ get_or ms (ndim - 1) 0) (one : some ≡ one_if_some columns) (put : fs ≡ set ms (ndim - 1) some) where
  axis_is : ndim - 1 ≡ length ns - 1
  axis_is = ap (λ k. k - 1) (many ∙ ap length same)

  columns_are : columns ≡ get_or ns (length ns - 1) 0
  columns_are = along ∙ (ap (λ l. get_or l (ndim - 1) 0) same ∙ ap (λ k. get_or ns k 0) axis_is)

  firsts_are : fs ≡ set ns (length ns - 1) (one_if_some columns)
  firsts_are = put ∙ (ap (λ l. set l (ndim - 1) some) same ∙ (ap (λ k. set ns k some) axis_is ∙ ap (set ns (length ns - 1)) one))

pub new-index-items-requires : goal.new-index-items-requires
new-index-items-requires g c =
    let ns = c.args.array.now.lengths in
    let columns = columns_are _ _ _ _ _ _ c.raw_dim-firsts.ensures.lengths c.ndim-axis.ensures.value c.axis-columns.ensures c.one_if_some.ensures c.set_axis.ensures in
    let firsts = firsts_are _ _ _ _ _ _ c.raw_dim-firsts.ensures.lengths c.ndim-axis.ensures.value c.axis-columns.ensures c.one_if_some.ensures c.set_axis.ensures in
    subst IsWithinLimit (sym (firsts ∙ ap (λ v. set ns (length ns - 1) (one_if_some v)) columns)) (firsts-limit ns (length ns - 1) c.raw_dim.ensures.limit)

pub loop-index-init : goal.loop-index-init
loop-index-init g c =
    let ns = c.args.array.now.lengths in
    let axes = c.requires.axes in
    let n = c.axis-columns.result in
    let columns = columns_are _ _ _ _ _ _ c.raw_dim-firsts.ensures.lengths c.ndim-axis.ensures.value c.axis-columns.ensures c.one_if_some.ensures c.set_axis.ensures in
    let firsts = firsts_are _ _ _ _ _ _ c.raw_dim-firsts.ensures.lengths c.ndim-axis.ensures.value c.axis-columns.ensures c.one_if_some.ensures c.set_axis.ensures in
    let walked : c.into_iter-index-iterator.result ≡ row_order (set ns (length ns - 1) (one_if_some n)) = c.into_iter-index-iterator.ensures.into_iter_gives ∙ (c.new-index-items.ensures.list ∙ ap row_order firsts) in
    let some : 0 < length ns = omega (arith, axes) in
    let kept = kept_at (is_between c.args.first c.args.last) g.A.Zero.zero c.args.array.now in
    let row : List ℕ → List (List ℕ) = λ is. row_from is (length ns - 1) n in
    let made = c.in_ok-kept.ensures.room in
    let long = length-fits ns (length ns - 1) (omega (arith, axes)) c.raw_dim.ensures.limit in
    record {
      lengths = ap (λ p. p.lengths) made ∙ c.raw_dim.ensures.lengths;
      order = ap (λ p. p.order) made;
      cells =
          ap (λ p. p.cells ++ flat_map (λ is. filter_map kept (row is)) c.into_iter-index-iterator.result) made
          ∙ (ap (flat_map (λ is. filter_map kept (row is))) walked
          ∙ (sym (filter_map-rows kept row (row_order (set ns (length ns - 1) (one_if_some n)))) ∙ ap (filter_map kept) (last-rows ns (length ns - 1) n some refl columns)));
      within = subst (All (λ is. (0 < n) × All (InBox ns) (row is))) (sym walked) (last-begin ns (length ns - 1) n some refl columns);
      fits = omega (arith, long, columns);
    }

pub push_row-requires-clause-some : goal.push_row-requires-clause-some
push_row-requires-clause-some g c =
    let P : List ℕ → Type 0 = λ is. (0 < c.axis-columns.result) × All (InBox c.args.array.now.lengths) (row_from is (length c.args.array.now.lengths - 1) c.axis-columns.result) in
    (All-head P (g.D.Lengths.numbers c.in-Some.index) c.next.new.self (subst (All P) c.in-Some.ensures.steps c.loop-index.invariant.within)).0

pub push_row-requires-clause-fits : goal.push_row-requires-clause-fits
push_row-requires-clause-fits g c = c.loop-index.invariant.fits

pub push_row-requires-clause-inside : goal.push_row-requires-clause-inside
push_row-requires-clause-inside g c =
    let P : List ℕ → Type 0 = λ is. (0 < c.axis-columns.result) × All (InBox c.args.array.now.lengths) (row_from is (length c.args.array.now.lengths - 1) c.axis-columns.result) in
    (All-head P (g.D.Lengths.numbers c.in-Some.index) c.next.new.self (subst (All P) c.in-Some.ensures.steps c.loop-index.invariant.within)).1

pub push_row-requires-clause-room : goal.push_row-requires-clause-room
push_row-requires-clause-room g c =
    let ns = c.args.array.now.lengths in
    let n = c.axis-columns.result in
    let is = g.D.Lengths.numbers c.in-Some.index in
    let i = c.loop-index.invariant in
    let keeps = is_between c.args.first c.args.last in
    let f : List ℕ → List g.row.A.Denot = λ js. filter_map (kept_at keeps g.A.Zero.zero c.args.array.now) (row_from js (length ns - 1) n) in
    let P : List ℕ → Type 0 = λ js. (0 < n) × All (InBox ns) (row_from js (length ns - 1) n) in
    let inside = (All-head P is c.next.new.self (subst (All P) c.in-Some.ensures.steps i.within)).1 in
    let all = sym (length-append c.loop-index.kept.cells (flat_map f c.loop-index.index-iterator)) ∙ (ap length i.cells ∙ length-all_kept keeps g.A.Zero.zero c.args.array.now c.raw_dim.ensures.whole) in
    let one : length (flat_map f c.loop-index.index-iterator) ≡ length (f is) + length (flat_map f c.next.new.self) = ap (λ l. length (flat_map f l)) c.in-Some.ensures.steps ∙ length-append (f is) (flat_map f c.next.new.self) in
    let here = length-kept keeps g.A.Zero.zero c.args.array.now c.raw_dim.ensures.whole (row_from is (length ns - 1) n) inside ∙ length-row_from is (length ns - 1) n in
    let same = ap size i.lengths in
    omega (arith, all, one, here, same)

pub returns-in_err-push_row-clause-empty : goal.returns-in_err-push_row-clause-empty
returns-in_err-push_row-clause-empty g c none =
    let ns = c.args.array.now.lengths in
    let P : List ℕ → Type 0 = λ js. (0 < c.axis-columns.result) × All (InBox ns) (row_from js (length ns - 1) c.axis-columns.result) in
    let each = All-head P (g.D.Lengths.numbers c.in-Some.index) c.next.new.self (subst (All P) c.in-Some.ensures.steps c.loop-index.invariant.within) in
    let some = InBox-some ns _ (row-first (InBox ns) _ _ _ each.0 each.1) in
    absurd (omega (arith, none, some))

pub loop-index-preserved : goal.loop-index-preserved
loop-index-preserved g c =
    let ns = c.args.array.now.lengths in
    let n = c.axis-columns.result in
    let is = g.D.Lengths.numbers c.in-Some.index in
    let i = c.loop-index.invariant in
    let f : List ℕ → List g.row.A.Denot = λ js. filter_map (kept_at (is_between c.args.first c.args.last) g.A.Zero.zero c.args.array.now) (row_from js (length ns - 1) n) in
    let P : List ℕ → Type 0 = λ js. (0 < n) × All (InBox ns) (row_from js (length ns - 1) n) in
    let pushed = c.in_ok-push_row.ensures.pushed in
    record {
      lengths = ap (λ p. p.lengths) pushed ∙ i.lengths;
      order = ap (λ p. p.order) pushed ∙ i.order;
      cells =
          ap (λ p. p.cells ++ flat_map f c.next.new.self) pushed
          ∙ (append_assoc c.loop-index.kept.cells (f is) (flat_map f c.next.new.self)
          ∙ (ap (λ l. c.loop-index.kept.cells ++ flat_map f l) (sym c.in-Some.ensures.steps) ∙ i.cells));
      within = All-tail P is c.next.new.self (subst (All P) c.in-Some.ensures.steps i.within);
      fits = i.fits;
    }

-- with no row to come
all-pushed : {A : Type 0} (f : List ℕ → List A) (xs whole : List A) (left : List (List ℕ)) → left ≡ [] → xs ++ flat_map f left ≡ whole → xs ≡ whole
all-pushed f xs whole left none all = sym (append-nil xs) ∙ (ap (λ l. xs ++ flat_map f l) (sym none) ∙ all)

pub finish-requires : goal.finish-requires
finish-requires g c =
    let i = c.loop-index.invariant in
    ap length (all-pushed _ _ _ _ c.in-None.ensures.steps.0 i.cells) ∙ (length-all_kept (is_between c.args.first c.args.last) g.A.Zero.zero c.args.array.now c.raw_dim.ensures.whole ∙ sym (ap size i.lengths))

pub returns-clause-cells : goal.returns-clause-cells
returns-clause-cells g c =
    let a = c.args.array.now in
    let i = c.loop-index.invariant in
    let r = c.finish.result in
    diagonals-of (is_between c.args.first c.args.last) g.A.Zero.zero a c.raw_dim.ensures.whole r c.requires.axes (c.finish.ensures.lengths ∙ i.lengths)
    (sym (along-row_order r c.finish.ensures.whole) ∙ (ap (λ o. cells_in o r) (sym i.order) ∙ (c.finish.ensures.list ∙ all-pushed _ _ _ _ c.in-None.ensures.steps.0 i.cells)))
    ∙ (ap (λ z. diagonals_kept (λ d. int_le z d && int_le d (cast_signed w64 (cast_unsigned w64 c.args.last))) g.A.Zero.zero a) (to_z-of_z w64 c.args.first c.ranges.first)
    ∙ ap (λ z. diagonals_kept (λ d. int_le c.args.first d && int_le d z) g.A.Zero.zero a) (to_z-of_z w64 c.args.last c.ranges.last))

pub returns-clause-lengths : goal.returns-clause-lengths
returns-clause-lengths g c = c.finish.ensures.lengths ∙ c.loop-index.invariant.lengths
