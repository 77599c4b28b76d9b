use Rattle.std.proofs.Common.{[], ◌∷◌, refl, ◌≡◌, ◌<◌, ◌∙◌, ◌++◌, ap, sym, arith, length, suc, zero, List, ℕ}
use Rattle.std.specs.Prelude.{flat_map}
use Rattle.ndarray.specs.Index.{row_order, size}
use Rattle.ndarray.specs.Orders.{cells_in}
use Rattle.ndarray.specs.stacking.Blocks.{all_blocks, blocks_at}
use Rattle.ndarray.specs.declared.base.shape.Order.TheVariants.{RowMajor}
use Rattle.ndarray.proofs.boxes.Orders.{length-row_order}
use Rattle.ndarray.proofs.cells.Cells.{along-row_order}
use Rattle.ndarray.proofs.stacking.blocks.joined_blocks.Goals as goal

none-of : {X : Type 0} (xs : List X) → length xs ≡ 0 → xs ≡ []
none-of [] e = refl
none-of (x ∷ xs) e = absurd (omega (arith, e))

pub finish-requires : goal.finish-requires
finish-requires g c =
    let made = c.in_ok-builder.ensures.room in
    ap (λ q. length q.cells) made ∙ sym (ap (λ q. size q.lengths) made ∙ (sym c.size-size.ensures ∙ c.if-size-eq0.true))

pub returns-then-size-eq0-clause-lengths : goal.returns-then-size-eq0-clause-lengths
returns-then-size-eq0-clause-lengths g c = c.finish.ensures.lengths ∙ ap (λ q. q.lengths) c.in_ok-builder.ensures.room

positive : (n : ℕ) → (n ≡ 0 → ⊥) → 0 < n
positive zero some = absurd (some refl)
positive (suc n) some = omega arith

pub push_all_blocks-requires-clause-some : goal.push_all_blocks-requires-clause-some
push_all_blocks-requires-clause-some g c =
    let os = g.D.Lengths.numbers c.args.shape.outer in
    let index_lists = length-row_order os in
    let none : size os ≡ 0 → size (g.E.Lengths.numbers c.args.shape.dim) ≡ 0 = λ empty.
    sym c.requires.may.many ∙ ap (λ l. length (flat_map (λ is. blocks_at c.args.axis is c.args.arrays.now) l)) (none-of (row_order os) (index_lists ∙ empty)) in
    positive (size os) (λ empty. c.if-size-eq0.false (c.size-size.ensures ∙ none empty))

pub push_all_blocks-requires-clause-room : goal.push_all_blocks-requires-clause-room
push_all_blocks-requires-clause-room g c =
    let made = c.in_ok-builder.ensures.room in
    let none : length c.in_ok-builder.builder.cells ≡ 0 = ap (λ p. length p.cells) made in
    let all : size c.in_ok-builder.builder.lengths ≡ size (g.E.Lengths.numbers c.args.shape.dim) = ap (λ p. size p.lengths) made in
    omega (arith, none, all, c.requires.may.many)

pub finish-requires-2 : goal.finish-requires-2
finish-requires-2 g c =
    let made = c.in_ok-builder.ensures.room in
    let pushed = c.in_ok-push_all_blocks.ensures in
    let cells = ap (λ q. length q.cells) pushed ∙ ap (λ q. length (q.cells ++ all_blocks c.args.axis (g.D.Lengths.numbers c.args.shape.outer) c.args.arrays.now)) made in
    let lengths = ap (λ q. size q.lengths) pushed ∙ ap (λ q. size q.lengths) made in
    cells ∙ (c.requires.may.many ∙ sym lengths)

pub returns-clause-lengths : goal.returns-clause-lengths
returns-clause-lengths g c = c.finish-2.ensures.lengths ∙ (ap (λ q. q.lengths) c.in_ok-push_all_blocks.ensures ∙ ap (λ q. q.lengths) c.in_ok-builder.ensures.room)

pub returns-clause-cells : goal.returns-clause-cells
returns-clause-cells g c =
    let made = c.in_ok-builder.ensures.room in
    let pushed = c.in_ok-push_all_blocks.ensures in
    let order : c.push_all_blocks.new.builder.order ≡ RowMajor = ap (λ q. q.order) pushed ∙ ap (λ q. q.order) made in
    sym (along-row_order c.finish-2.result c.finish-2.ensures.whole)
    ∙ (ap (λ o. cells_in o c.finish-2.result) (sym order)
    ∙ (c.finish-2.ensures.list ∙ (ap (λ q. q.cells) pushed ∙ ap (λ q. q.cells ++ all_blocks c.args.axis (g.D.Lengths.numbers c.args.shape.outer) c.args.arrays.now) made)))

pub returns-then-size-eq0-clause-cells : goal.returns-then-size-eq0-clause-cells
returns-then-size-eq0-clause-cells g c =
    let made = c.in_ok-builder.ensures.room in
    let r = c.finish.result in
    let none = none-of (all_blocks c.args.axis (g.D.Lengths.numbers c.args.shape.outer) c.args.arrays.now) (c.requires.may.many ∙ (sym c.size-size.ensures ∙ c.if-size-eq0.true)) in
    sym (along-row_order r c.finish.ensures.whole)
    ∙ (ap (λ o. cells_in o r) (sym (ap (λ q. q.order) made)) ∙ (c.finish.ensures.list ∙ (ap (λ q. q.cells) made ∙ sym none)))
