use Rattle.std.proofs.Common.{◌++◌, ◌∙◌, ap, arith, length, sym}
use Rattle.std.proofs.lemmas.List.{length-map}
use Rattle.ndarray.specs.base.Places.{place}
use Rattle.ndarray.specs.base.Ranks.{row_from}
use Rattle.ndarray.specs.places.ElementPlaces.{places_along}
use Rattle.ndarray.proofs.strides.Rows.{row-as_many, rest-as_many, places-split, places-count, length-row_from}
use Rattle.ndarray.proofs.places.place_rows.next_row.Goals as goal

pub along-requires : goal.along-requires
along-requires g c =
    let axes = g.D.Lengths.numbers in
    let r = c.in-Some.row in
    row-as_many c.args.layout.start (axes c.args.layout.strides) c.args.walk c.next_row.new.self (axes r.first) r.axis r.count c.requires c.in-Some.ensures

pub returns : goal.returns
returns g c =
    let axes = g.D.Lengths.numbers in
    let start = c.args.layout.start in
    let bs = axes c.args.layout.strides in
    let r = c.in-Some.row in
    let zs = c.next_row.new.self in
    let n = places-count start bs c.args.walk zs (axes r.first) r.axis r.count c.requires c.in-Some.ensures in
    let l = ap length c.along.ensures ∙ (length-map (row_from (axes r.first) r.axis r.count) (place start bs) ∙ length-row_from (axes r.first) r.axis r.count) in
    let s = c.in-Some.ensures.some in
    record {
      rest = rest-as_many start bs c.args.walk zs (axes r.first) r.axis r.count c.requires c.in-Some.ensures;
      some = omega arith;
      split = places-split start bs c.args.walk zs (axes r.first) r.axis r.count c.requires c.in-Some.ensures ∙ ap (λ m. m ++ places_along start bs zs) (sym c.along.ensures);
      count = omega arith;
    }
