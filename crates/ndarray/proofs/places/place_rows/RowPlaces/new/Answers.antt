use Rattle.std.proofs.Common.{◌≡◌, ◌∙◌, ap, arith, length, subst, sym}
use Rattle.std.specs.Prelude.{All}
use Rattle.ndarray.specs.Orders.{box_in}
use Rattle.ndarray.specs.places.ElementPlaces.{places_along}
use Rattle.ndarray.proofs.boxes.Boxes.{InBox-length}
use Rattle.ndarray.proofs.boxes.Orders.{box_in-within, length-box_in}
use Rattle.ndarray.proofs.boxes.Sizes.{size-le}
use Rattle.ndarray.proofs.places.place_rows.RowPlaces.new.Goals as goal
use Rattle.ndarray.proofs.places.place_rows.RowPlaces.new.Goals.{After-new-walk}

walked : (g : _) (c : After-new-walk g) → c.new-walk.result ≡ box_in c.args.order (g.D.Lengths.numbers c.args.layout.dim)
walked g c = c.new-walk.ensures.list ∙ ap (box_in c.args.order) c.copied.ensures.value

pub over-requires-clause-as_many : goal.over-requires-clause-as_many
over-requires-clause-as_many g c =
    let axes = g.D.Lengths.numbers in
    let ns = axes c.args.layout.dim in
    let m = c.requires.as_many in
    subst (All (λ is. length (axes c.args.layout.strides) ≡ length is)) (sym (walked g ((goal.at.over-requires-clause-as_many g c).After-new-walk)))
    (λ k d lt. let b = InBox-length ns _ (box_in-within c.args.order ns k d lt) in omega arith)

pub over-requires-clause-fits : goal.over-requires-clause-fits
over-requires-clause-fits g c =
    let ns = g.D.Lengths.numbers c.args.layout.dim in
    let e = ap length (walked g ((goal.at.over-requires-clause-fits g c).After-new-walk)) in
    let n = length-box_in c.args.order ns in
    let s = size-le ns in
    let l = c.requires.limit in
    omega arith

pub returns : goal.returns
returns g c = c.over.ensures ∙ ap (places_along c.args.layout.start (g.D.Lengths.numbers c.args.layout.strides)) (walked g ((goal.at.returns g c).After-new-walk))
