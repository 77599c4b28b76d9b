use Rattle.std.proofs.Common.{◌≡◌, ◌<◌, ◌+◌, ◌++◌, ◌∙◌, [], ◌∷◌, All, List, ℕ, ap, arith, filter_map, length, subst, sym}
use Rattle.std.specs.Prelude.{flat_map}
use Rattle.std.proofs.lemmas.Grind.{flat_map-append}
use Rattle.std.proofs.lemmas.List.{length-append}
use Rattle.std.proofs.lemmas.List.Elements.{All-head, All-tail}
use Rattle.ndarray.specs.Grid.{cell}
use Rattle.ndarray.specs.Index.{InBox, size}
use Rattle.ndarray.specs.order.Rows.{joined}
use Rattle.ndarray.specs.base.Builder.{pushed_all}
use Rattle.ndarray.specs.base.Ranks.{row_from}
use Rattle.ndarray.specs.stacking.Blocks.{all_blocks, blocks_at, by_turns}
use Rattle.ndarray.specs.declared.base.shape.Order.TheVariants.{RowMajor}
use Rattle.ndarray.proofs.boxes.Rows.{rows-joined, rows-within}
use Rattle.ndarray.proofs.joining.Blocks.{pushed-length, pushed-more}
use Rattle.ndarray.proofs.joining.Pairs.{pairs-row}
use Rattle.ndarray.proofs.strides.Rows.{length-row_from}
use Rattle.ndarray.proofs.stacking.blocks.push_pairs.Goals as goal

pub loop-row-init : goal.loop-row-init
loop-row-init g c =
    let f : List ℕ → List g.row.A.Denot = λ is. blocks_at c.args.axis is (c.args.left.now ∷ c.args.right.now ∷ []) in
    let os = g.D.Lengths.numbers c.args.outer in
    record {
      pushed = ap (λ l. pushed_all c.args.builder.now (flat_map f l)) (ap joined c.new-rows.ensures ∙ rows-joined RowMajor os);
      within = subst (All (λ row. (0 < length row) × All (InBox os) row)) (sym c.new-rows.ensures) (rows-within RowMajor os);
    }

pub cells_along-ys-requires-clause-some : goal.cells_along-ys-requires-clause-some
cells_along-ys-requires-clause-some g c =
    let P = λ (row : List (List ℕ)). (0 < length row) × All (InBox (g.D.Lengths.numbers c.args.outer)) row in
    let row = row_from (g.D.Lengths.numbers c.in-Some.row.first) c.in-Some.row.axis c.in-Some.row.count in
    let here = All-head P row c.next.new.self (subst (All P) c.in-Some.ensures c.loop-row.invariant.within) in
    let many = length-row_from (g.D.Lengths.numbers c.in-Some.row.first) c.in-Some.row.axis c.in-Some.row.count in
    omega (arith, here.0, many)

pub cells_along-ys-requires-clause-within : goal.cells_along-ys-requires-clause-within
cells_along-ys-requires-clause-within g c =
    let P = λ (row : List (List ℕ)). (0 < length row) × All (InBox (g.D.Lengths.numbers c.args.outer)) row in
    let row = row_from (g.D.Lengths.numbers c.in-Some.row.first) c.in-Some.row.axis c.in-Some.row.count in
    let here = All-head P row c.next.new.self (subst (All P) c.in-Some.ensures c.loop-row.invariant.within) in
    λ k d lt. (c.requires.second _ (here.1 k d lt)).within

pub push_by_turns-requires-clause-room : goal.push_by_turns-requires-clause-room
push_by_turns-requires-clause-room g c =
    let f : List ℕ → List g.row.A.Denot = λ is. blocks_at c.args.axis is (c.args.left.now ∷ c.args.right.now ∷ []) in
    let P = λ (row : List (List ℕ)). (0 < length row) × All (InBox (g.D.Lengths.numbers c.args.outer)) row in
    let row = row_from (g.D.Lengths.numbers c.in-Some.row.first) c.in-Some.row.axis c.in-Some.row.count in
    let here = All-head P row c.next.new.self (subst (All P) c.in-Some.ensures c.loop-row.invariant.within) in
    let turns = pairs-row c.args.axis c.args.left.now c.args.right.now row (λ k d lt. (c.requires.first _ (here.1 k d lt), c.requires.second _ (here.1 k d lt)))
    ∙ (ap (λ l. by_turns l (filter_map (cell c.args.right.now) row)) (sym c.cells_along-xs.ensures) ∙ ap (by_turns c.cells_along-xs.result) (sym c.cells_along-ys.ensures)) in
    let one = ap (λ rs. length (flat_map f (joined rs))) c.in-Some.ensures ∙ (ap length (flat_map-append f row (joined c.next.new.self)) ∙ (length-append (flat_map f row) (flat_map f (joined c.next.new.self)) ∙ ap (λ l. length l + length (flat_map f (joined c.next.new.self))) turns)) in
    let all : length c.loop-row.builder.cells + length (flat_map f (joined c.loop-row.rows)) ≡ length c.args.builder.now.cells + length (all_blocks c.args.axis (g.D.Lengths.numbers c.args.outer) (c.args.left.now ∷ c.args.right.now ∷ [])) =
    pushed-length _ _ _ _ c.loop-row.invariant.pushed in
    let same : size c.loop-row.builder.lengths ≡ size c.args.builder.now.lengths = ap (λ p. size p.lengths) c.loop-row.invariant.pushed in
    omega (arith, one, all, same, c.requires.room)

pub loop-row-preserved : goal.loop-row-preserved
loop-row-preserved g c =
    let f : List ℕ → List g.row.A.Denot = λ is. blocks_at c.args.axis is (c.args.left.now ∷ c.args.right.now ∷ []) in
    let P = λ (row : List (List ℕ)). (0 < length row) × All (InBox (g.D.Lengths.numbers c.args.outer)) row in
    let row = row_from (g.D.Lengths.numbers c.in-Some.row.first) c.in-Some.row.axis c.in-Some.row.count in
    let rest = flat_map f (joined c.next.new.self) in
    let rows = subst (All P) c.in-Some.ensures c.loop-row.invariant.within in
    let here = All-head P row c.next.new.self rows in
    let turns = pairs-row c.args.axis c.args.left.now c.args.right.now row (λ k d lt. (c.requires.first _ (here.1 k d lt), c.requires.second _ (here.1 k d lt)))
    ∙ (ap (λ l. by_turns l (filter_map (cell c.args.right.now) row)) (sym c.cells_along-xs.ensures) ∙ ap (by_turns c.cells_along-xs.result) (sym c.cells_along-ys.ensures)) in
    let next = ap (λ rs. flat_map f (joined rs)) c.in-Some.ensures ∙ (flat_map-append f row (joined c.next.new.self) ∙ ap (λ l. l ++ rest) turns) in
    record {
      pushed =
          ap (λ p. pushed_all p rest) c.in_ok-push_by_turns.ensures
          ∙ (pushed-more c.loop-row.builder (by_turns c.cells_along-xs.result c.cells_along-ys.result) rest
          ∙ (ap (pushed_all c.loop-row.builder) (sym next) ∙ c.loop-row.invariant.pushed));
      within = All-tail P row c.next.new.self rows;
    }
