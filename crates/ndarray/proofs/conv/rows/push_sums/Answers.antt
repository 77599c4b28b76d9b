use Rattle.std.proofs.Common.{◌≡◌, ◌∙◌, ◌+◌, ◌++◌, List, ℕ, ap, append-nil, append_assoc, arith, length, map, subst, sym}
use Rattle.std.specs.Prelude.{All}
use Rattle.std.proofs.lemmas.List.{length-append, length-map, map-append}
use Rattle.std.proofs.lemmas.List.Elements.{All-drop, All-take}
use Rattle.ndarray.specs.Convolution.{valid_counts}
use Rattle.ndarray.specs.Index.{InBox, row_order}
use Rattle.ndarray.specs.conv.WindowSums.{window_sum, window_sums}
use Rattle.ndarray.specs.base.Ranks.{row_from}
use Rattle.ndarray.specs.order.Walks.{TakesRow}
use Rattle.ndarray.proofs.boxes.Orders.{length-row_order, row_order-is}
use Rattle.ndarray.proofs.strides.Rows.{length-row_from, taken-parts}
use Rattle.ndarray.proofs.conv.rows.push_sums.Goals as goal

-- a row and the positions behind it are all that are left
taken-many : (ys zs : List (List ℕ)) (is : List ℕ) (axis count : ℕ) → TakesRow ys zs is axis count → count + length zs ≡ length ys
taken-many ys zs is axis count t =
    let all = ap length (taken-parts ys zs is axis count t) in
    let both = length-append (row_from is axis count) zs in
    let one = length-row_from is axis count in
    omega (arith, all, both, one)

pub loop-tile-init : goal.loop-tile-init
loop-tile-init g c =
    let ns = g.D.Lengths.numbers c.args.positions.now in
    let walk = c.new-left.ensures.list ∙ ap row_order c.copied.ensures.value in
    record {
      values = ap (λ l. map g.A.Valued.meaning l ++ window_sums g.A.Valued c.args.a.now c.args.mirrored.now c.new-left.result) c.requires.none ∙ ap (window_sums g.A.Valued c.args.a.now c.args.mirrored.now) walk;
      within = subst (All (InBox (valid_counts c.args.a.now.lengths c.args.mirrored.now.lengths))) (sym walk) (subst (λ ms. All (InBox ms) (row_order ns)) c.requires.counts (row_order-is ns).within);
      capacity = omega arith;
    }

pub push_tile-requires-clause-row : goal.push_tile-requires-clause-row
push_tile-requires-clause-row g c κs lives = record {
  some = c.in-Some.ensures.some;
  within = subst (All (InBox (valid_counts c.args.a.now.lengths c.args.mirrored.now.lengths))) c.in-Some.ensures.row (All-take (InBox (valid_counts c.args.a.now.lengths c.args.mirrored.now.lengths)) c.in-Some.tile.count c.loop-tile.left c.loop-tile.invariant.within);
}

pub push_tile-requires-clause-room : goal.push_tile-requires-clause-room
push_tile-requires-clause-room g c =
    let v = g.A.Valued in
    let ns = g.D.Lengths.numbers c.args.positions.now in
    let f = window_sum v c.args.a.now c.args.mirrored.now in
    let all = ap length c.loop-tile.invariant.values in
    let both = length-append (map v.meaning c.loop-tile.sums.items) (map f c.loop-tile.left) in
    let pushed = length-map c.loop-tile.sums.items v.meaning in
    let left = length-map c.loop-tile.left f in
    let whole = length-map (row_order ns) f in
    let size = length-row_order ns in
    let parts = taken-many _ _ _ _ _ c.in-Some.ensures in
    omega (arith, all, both, pushed, left, whole, size, parts, c.requires.room, c.loop-tile.invariant.capacity)

pub loop-tile-smaller : goal.loop-tile-smaller
loop-tile-smaller g c = let parts = taken-many _ _ _ _ _ c.in-Some.ensures in let some = c.in-Some.ensures.some in omega (arith, parts, some)

pub loop-tile-preserved : goal.loop-tile-preserved
loop-tile-preserved g c =
    let v = g.A.Valued in
    let f = window_sum v c.args.a.now c.args.mirrored.now in
    let rest = c.next_part.new.self in
    let row = row_from (g.D.Lengths.numbers c.in-Some.tile.first) c.in-Some.tile.axis c.in-Some.tile.count in
    record {
      values =
          ap (λ l. l ++ map f rest) c.push_tile.ensures.values
          ∙ (append_assoc (map v.meaning c.loop-tile.sums.items) (map f row) (map f rest)
          ∙ (ap (λ l. map v.meaning c.loop-tile.sums.items ++ l) (sym (map-append f row rest))
          ∙ (ap (λ l. map v.meaning c.loop-tile.sums.items ++ map f l) (sym (taken-parts _ _ _ _ _ c.in-Some.ensures)) ∙ c.loop-tile.invariant.values)));
      within = subst (All (InBox (valid_counts c.args.a.now.lengths c.args.mirrored.now.lengths))) (sym c.in-Some.ensures.rest) (All-drop (InBox (valid_counts c.args.a.now.lengths c.args.mirrored.now.lengths)) c.in-Some.tile.count c.loop-tile.left c.loop-tile.invariant.within);
      capacity = (let before = c.loop-tile.invariant.capacity in let after = c.push_tile.ensures.capacity in omega (arith, before, after));
    }

pub returns : goal.returns
returns g c =
    let v = g.A.Valued in
    sym (append-nil (map v.meaning c.loop-tile.sums.items))
    ∙ (ap (λ l. map v.meaning c.loop-tile.sums.items ++ window_sums v c.args.a.now c.args.mirrored.now l) (sym c.in_default.ensures.0) ∙ c.loop-tile.invariant.values)
