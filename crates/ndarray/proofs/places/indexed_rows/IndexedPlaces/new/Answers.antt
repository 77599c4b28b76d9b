use Rattle.std.proofs.Common.{◌≡◌, ◌∙◌, ◌<◌, ℕ, List, All, ap, arith, length, subst, sym}
use Rattle.ndarray.specs.Index.{InBox}
use Rattle.ndarray.specs.order.Rows.{joined, rows_in}
use Rattle.ndarray.specs.places.ElementPlaces.{with_places}
use Rattle.ndarray.proofs.boxes.Orders.{length-box_in}
use Rattle.ndarray.proofs.boxes.Rows.{rows-joined, rows-within}
use Rattle.ndarray.proofs.boxes.Sizes.{size-le}
use Rattle.ndarray.proofs.places.indexed_rows.IndexedPlaces.new.Goals as goal

pub invariant_of-result-2 : goal.invariant_of-result-2
invariant_of-result-2 g c =
    let ns = g.D.Lengths.numbers c.args.layout.dim in
    let o = c.args.order in
    let rows : c.new-rows.result ≡ rows_in o ns = c.new-rows.ensures ∙ ap (rows_in o) c.copied.ensures.value in
    let is_row : List (List ℕ) → Type 0 = λ row. (0 < length row) × All (InBox ns) row in
    let many = ap (λ l. length (joined l)) rows ∙ (ap length (rows-joined o ns) ∙ length-box_in o ns) in
    let s = size-le ns in
    let l = c.requires.limit in
    record { each = subst (All is_row) (sym rows) (rows-within o ns); as_many = c.requires.as_many; limit = l; few = omega (arith, many, s, l) }

pub returns : goal.returns
returns g c =
    let ns = g.D.Lengths.numbers c.args.layout.dim in
    let bs = g.D.Lengths.numbers c.args.layout.strides in
    let o = c.args.order in
    ap (λ l. with_places c.args.layout.start bs (joined l)) (c.new-rows.ensures ∙ ap (rows_in o) c.copied.ensures.value) ∙ ap (with_places c.args.layout.start bs) (rows-joined o ns)
