use Rattle.std.proofs.Common.{◌≡◌, ◌∙◌, ◌++◌, All, ap, arith, length, map, subst}
use Rattle.std.proofs.lemmas.List.{length-append, length-map}
use Rattle.std.proofs.lemmas.List.Elements.{All-tail}
use Rattle.ndarray.specs.linalg.BlockRows.{CanMultiply, multiples, multiples_by}
use Rattle.ndarray.specs.Index.{size}
use Rattle.ndarray.proofs.lists.Pushes.{some-pushed, some-room}
use Rattle.ndarray.proofs.linalg.kronecker.push_products.Goals as goal

pub push_multiples-requires-clause-room : goal.push_multiples-requires-clause-room
push_multiples-requires-clause-room g c κs within =
    let e = g.A.Valued in
    let i = c.loop-factor.invariant in
    let row = c.args.row.now.cells in
    let below = c.args.below.now.cells in
    let room = some-room e.meaning (map e.meaning c.args.products.now.cells ++ multiples_by e row below) c.loop-factor.products.cells c.loop-factor.factor-iterator c.next.new.self c.in-Some.factor.now c.in-Some.ensures.steps (λ x. multiples e x below) i.values in
    let both = length-append (map e.meaning c.args.products.now.cells) (multiples_by e row below) in
    let old = length-map c.args.products.now.cells e.meaning in
    let each = length-map below (λ y. e.multiplication.op (e.meaning c.in-Some.factor.now) (e.meaning y)) in
    let cells = ap length (c.again-in-loop-factor.ensures ∙ (c.cells_of-cells.ensures ∙ ap (λ w. w.cells) c.again.ensures.same)) in
    let same : size c.loop-factor.products.lengths ≡ size c.args.products.now.lengths = ap size i.lengths in
    omega (arith, room, both, old, each, cells, same, c.requires.room)

pub loop-factor-preserved : goal.loop-factor-preserved
loop-factor-preserved g c =
    let e = g.A.Valued in
    let i = c.loop-factor.invariant in
    let row = c.args.row.now.cells in
    let below = c.args.below.now.cells in
    let cells = c.again-in-loop-factor.ensures ∙ (c.cells_of-cells.ensures ∙ ap (λ w. w.cells) c.again.ensures.same) in
    record {
      lengths = c.push_multiples.ensures.lengths ∙ i.lengths;
      order = c.push_multiples.ensures.order ∙ i.order;
      values =
          some-pushed e.meaning (map e.meaning c.args.products.now.cells ++ multiples_by e row below) c.loop-factor.products.cells c.loop-factor.factor-iterator c.next.new.self c.in-Some.factor.now c.in-Some.ensures.steps (λ x. multiples e x below) i.values c.push_multiples.new.products.cells
          (c.push_multiples.ensures.values ∙ ap (λ l. map e.meaning c.loop-factor.products.cells ++ multiples e c.in-Some.factor.now l) cells);
      can = All-tail (λ x. All (CanMultiply e x) below) c.in-Some.factor.now c.next.new.self (subst (All (λ x. All (CanMultiply e x) below)) c.in-Some.ensures.steps i.can);
    }
