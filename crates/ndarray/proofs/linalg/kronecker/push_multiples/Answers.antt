use Rattle.std.proofs.Common.{◌≡◌, ◌∙◌, ◌++◌, All, ap, arith, map, subst}
use Rattle.std.proofs.lemmas.List.{length-append, length-map}
use Rattle.std.proofs.lemmas.List.Elements.{All-head, All-tail}
use Rattle.ndarray.specs.linalg.BlockRows.{CanMultiply}
use Rattle.ndarray.specs.Index.{size}
use Rattle.ndarray.proofs.lists.Pushes.{one-pushed, one-room}
use Rattle.ndarray.proofs.linalg.kronecker.push_multiples.Goals as goal

pub multiply-requires : goal.multiply-requires
multiply-requires g c =
    let can = CanMultiply g.A.Valued c.args.factor in
    (c.type_bounds.static-A, All-head can c.in-Some-cell.cell.now c.next.new.self (subst (All can) c.in-Some-cell.ensures.steps c.loop-cell.invariant.can))

pub push-requires : goal.push-requires
push-requires g c =
    let value = g.A.Valued.meaning in
    let f : g.row.A.Denot → g.A.Valued.Carrier = λ y. g.A.Valued.multiplication.op (value c.args.factor) (value y) in
    let i = c.loop-cell.invariant in
    let room = one-room value (map value c.args.products.now.cells ++ map f c.args.cells) c.loop-cell.products.cells c.loop-cell.cell-iterator c.next.new.self c.in-Some-cell.cell.now c.in-Some-cell.ensures.steps f i.values in
    let both = length-append (map value c.args.products.now.cells) (map f c.args.cells) in
    let old = length-map c.args.products.now.cells value in
    let more = length-map c.args.cells f in
    let same : size c.loop-cell.products.lengths ≡ size c.args.products.now.lengths = ap size i.lengths in
    omega (arith, room, both, old, more, same, c.requires.room)

pub loop-cell-preserved : goal.loop-cell-preserved
loop-cell-preserved g c =
    let value = g.A.Valued.meaning in
    let f : g.row.A.Denot → g.A.Valued.Carrier = λ y. g.A.Valued.multiplication.op (value c.args.factor) (value y) in
    let can = CanMultiply g.A.Valued c.args.factor in
    let i = c.loop-cell.invariant in
    record {
      lengths = ap (λ p. p.lengths) c.push.ensures ∙ i.lengths;
      order = ap (λ p. p.order) c.push.ensures ∙ i.order;
      values =
          ap (λ p. map value p.cells ++ map f c.next.new.self) c.push.ensures
          ∙ one-pushed value (map value c.args.products.now.cells ++ map f c.args.cells) c.loop-cell.products.cells c.loop-cell.cell-iterator c.next.new.self c.in-Some-cell.cell.now c.in-Some-cell.ensures.steps f i.values c.multiply.result c.multiply.ensures;
      can = All-tail can c.in-Some-cell.cell.now c.next.new.self (subst (All can) c.in-Some-cell.ensures.steps i.can);
    }
