use Rattle.std.proofs.Common.{◌≡◌, ◌∙◌, ◌+◌, ◌≤◌, All, List, ℕ, ap, append-nil, arith, length, subst, sym}
use Rattle.std.specs.Prelude.{flat_map}
use Rattle.std.proofs.lemmas.List.{length-append}
use Rattle.std.proofs.lemmas.List.Elements.{All-head, All-tail}
use Rattle.ndarray.specs.Index.{InBox, row_order, size}
use Rattle.ndarray.specs.base.Builder.{pushed_all}
use Rattle.ndarray.specs.stacking.Blocks.{blocks_at}
use Rattle.ndarray.proofs.joining.Blocks.{pushed-length, pushed-more}
use Rattle.ndarray.proofs.stacking.blocks.push_each_block.Goals as goal

pub push_blocks-requires-clause-blocks : goal.push_blocks-requires-clause-blocks
push_blocks-requires-clause-blocks g c =
    let os = g.D.Lengths.numbers c.args.outer.now in
    let here = All-head (InBox os) (g.D.Lengths.numbers c.in-Some.index) c.next.new.self (subst (All (InBox os)) c.in-Some.ensures.steps c.loop-index.invariant.within) in
    c.requires.blocks (g.D.Lengths.numbers c.in-Some.index) here

pub push_blocks-requires-clause-room : goal.push_blocks-requires-clause-room
push_blocks-requires-clause-room g c =
    let f : List ℕ → List g.row.A.Denot = λ is. blocks_at c.args.axis is c.args.arrays.now in
    let i = c.loop-index.invariant in
    let is = g.D.Lengths.numbers c.in-Some.index in
    let all : length c.loop-index.builder.cells + length (flat_map f c.loop-index.index-iterator) ≡ length c.args.builder.now.cells + length (flat_map f c.into_iter-index-iterator.result) = pushed-length _ _ _ _ i.pushed in
    let one : length (flat_map f c.loop-index.index-iterator) ≡ length (f is) + length (flat_map f c.next.new.self) = ap (λ l. length (flat_map f l)) c.in-Some.ensures.steps ∙ length-append (f is) (flat_map f c.next.new.self) in
    let whole = ap (λ l. length (flat_map f l)) (c.into_iter-index-iterator.ensures.into_iter_gives ∙ (c.new-index-items.ensures.list ∙ ap row_order c.copied.ensures.value)) in
    let same : size c.loop-index.builder.lengths ≡ size c.args.builder.now.lengths = ap (λ p. size p.lengths) i.pushed in
    let room = c.requires.room in
    let next : length c.loop-index.builder.cells + length (f is) ≤ size c.loop-index.builder.lengths = omega (arith, all, one, whole, same, room) in
    next

pub loop-index-preserved : goal.loop-index-preserved
loop-index-preserved g c =
    let f : List ℕ → List g.row.A.Denot = λ is. blocks_at c.args.axis is c.args.arrays.now in
    let i = c.loop-index.invariant in
    let is = g.D.Lengths.numbers c.in-Some.index in
    let os = g.D.Lengths.numbers c.args.outer.now in
    record {
      pushed =
          ap (λ p. pushed_all p (flat_map f c.next.new.self)) c.in_ok-push_blocks.ensures.pushed
          ∙ (pushed-more c.loop-index.builder (f is) (flat_map f c.next.new.self)
          ∙ (ap (λ l. pushed_all c.loop-index.builder (flat_map f l)) (sym c.in-Some.ensures.steps) ∙ i.pushed));
      within = All-tail (InBox os) is c.next.new.self (subst (All (InBox os)) c.in-Some.ensures.steps i.within);
    }

pub returns : goal.returns
returns g c =
    let f : List ℕ → List g.row.A.Denot = λ is. blocks_at c.args.axis is c.args.arrays.now in
    let p = c.loop-index.builder in
    sym (ap (λ l. record { lengths = p.lengths; order = p.order; cells = l }) (append-nil p.cells))
    ∙ (ap (λ l. pushed_all p (flat_map f l)) (sym c.in-None.ensures.steps.0)
    ∙ (c.loop-index.invariant.pushed
    ∙ ap (λ l. pushed_all c.args.builder.now (flat_map f l)) (c.into_iter-index-iterator.ensures.into_iter_gives ∙ (c.new-index-items.ensures.list ∙ ap row_order c.copied.ensures.value))))
