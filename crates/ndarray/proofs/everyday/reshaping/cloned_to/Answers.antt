use Rattle.std.proofs.Common.{◌≡◌, ◌∙◌, List, ap, arith, length, refl, sym}
use Rattle.ndarray.specs.Grid.{Grid, IsGrid}
use Rattle.ndarray.specs.Index.{size}
use Rattle.ndarray.specs.Orders.{cells_in}
use Rattle.ndarray.specs.base.Builder.{BuilderState, pushed_all}
use Rattle.ndarray.specs.declared.base.shape.Order.TheVariants.{RowMajor}
use Rattle.ndarray.proofs.cells.Cells.{cells-row_major}
use Rattle.ndarray.proofs.cells.ListedCells.{grid-listed}
use Rattle.ndarray.proofs.everyday.reshaping.cloned_to.Goals as goal

own-rows : {A : Type 0} (g : Grid A) (rows : List A) → IsGrid g → rows ≡ cells_in RowMajor g → rows ≡ g.cells
own-rows g rows whole e = e ∙ sym (cells-row_major RowMajor g (cells_in RowMajor g) whole refl refl)

filled : {A : Type 0} (old new start : BuilderState A) (rows : List A) → new ≡ pushed_all old rows → old ≡ start → new ≡ pushed_all start rows
filled old new start rows e f = e ∙ ap (λ b. pushed_all b rows) f

pub push_clones-requires-clause-room : goal.push_clones-requires-clause-room
push_clones-requires-clause-room g c =
    let rows = ap length (own-rows c.args.view c.in_order.result c.raw_dim-whole.ensures.whole c.in_order.ensures) in
    let none = ap (λ b. length b.cells) c.in_ok-builder.ensures.room in
    let sizes = ap (λ b. size b.lengths) c.in_ok-builder.ensures.room in
    omega (arith, rows, none, sizes, c.requires.same)

pub returns-in_err-push_clones-clause-empty : goal.returns-in_err-push_clones-clause-empty
returns-in_err-push_clones-clause-empty g c none =
    let rows = ap length (own-rows c.args.view c.in_order.result c.raw_dim-whole.ensures.whole c.in_order.ensures) in
    absurd (let pushed = c.in_err-push_clones.ensures.none (omega (arith, rows, none, c.requires.same)) in cc)

pub finish-array-requires : goal.finish-array-requires
finish-array-requires g c =
    let rows = ap length (own-rows c.args.view c.in_order.result c.raw_dim-whole.ensures.whole c.in_order.ensures) in
    let full = filled _ _ _ _ c.in_ok-push_clones.ensures.pushed c.in_ok-builder.ensures.room in
    ap (λ b. length b.cells) full ∙ (rows ∙ (sym c.requires.same ∙ sym (ap (λ b. size b.lengths) full)))

pub returns-clause-value : goal.returns-clause-value
returns-clause-value g c =
    let rows = own-rows c.args.view c.in_order.result c.raw_dim-whole.ensures.whole c.in_order.ensures in
    let full = filled _ _ _ _ c.in_ok-push_clones.ensures.pushed c.in_ok-builder.ensures.room in
    grid-listed c.finish-array.result _ _ (c.finish-array.ensures.lengths ∙ ap (λ b. b.lengths) full)
    (cells-row_major _ c.finish-array.result _ c.finish-array.ensures.whole c.finish-array.ensures.list (ap (λ b. b.order) full) ∙ (ap (λ b. b.cells) full ∙ rows))
