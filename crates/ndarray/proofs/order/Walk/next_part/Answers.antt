use Rattle.std.proofs.Common.{arith, refl, ◌≡◌, ◌+◌, ◌-◌, ◌<◌, ◌∷◌, [], ap, sym, ◌∙◌, length, take, drop, get_or, subst}
use Rattle.std.proofs.lemmas.List.{get_or_past}
use Rattle.ndarray.specs.base.Ranks.{axis_in, row_from, rank_in}
use Rattle.ndarray.specs.Index.{InBox, size}
use Rattle.ndarray.proofs.boxes.Boxes.{InBox-length}
use Rattle.ndarray.proofs.boxes.Walks.{walk-skip, walk-no_axes, row-inside, row-taken, row-last, length-walk_rest, walk_rest-next}
use Rattle.ndarray.proofs.order.Walk.next_part.Goals as goal
use Rattle.ndarray.proofs.order.Walk.next_part.Goals.{then-self-gt0, else-self-gt0, After-axis-i}

pub returns-then-ndim-eq0 : goal.returns-then-ndim-eq0
returns-then-ndim-eq0 g c =
    let axes = g.D.Lengths.numbers in
    let w = c.self.inside in
    let one = walk-no_axes w.order (axes w.dim) (axes w.index) w.left (omega arith) (omega (arith, c.if-self-eq0.false)) c.self.invariant in
    let l = length-walk_rest w.order (axes w.dim) (axes w.index) w.left c.self.invariant in
    let s = walk_rest-next w.order (axes w.dim) (axes w.index) (axes w.index) w.left 0 c.self.invariant (omega arith) (λ p. absurd (omega arith)) in
    let e : c.args.self.now ≡ axes w.index ∷ [] = sym c.self.view_is ∙ s in
    let n = InBox-length (axes w.dim) (axes w.index) (c.self.invariant.within (omega (arith, c.if-self-eq0.false))) in
    let d = c.ndim-ndim.ensures.value in
    let none : get_or (axes w.index) 0 0 ≡ 0 = get_or_past (axes w.index) 0 0 (omega (arith, c.if-ndim-eq0.true)) in
    rw (e, c.copied-first.ensures.value) (record { some = omega arith; room = omega arith; row = refl; rest = refl })

pub axis-i-requires : goal.axis-i-requires
axis-i-requires g c =
    let axes = g.D.Lengths.numbers in
    let w = c.self.inside in
    let l = InBox-length (axes w.dim) (axes w.index) (c.self.invariant.within (omega (arith, c.if-self-eq0.false))) in
    let e = ap length c.copied-first.ensures.value in
    let b = c.axis_at-axis.ensures.below in
    omega arith

start : (g : _) (c : After-axis-i g) → c.axis-i.result < c.axis-end.result
start g c =
    let axes = g.D.Lengths.numbers in
    let w = c.self.inside in
    row-inside w.order (axes w.dim) (axes w.index) w.left c.axis_at-axis.result c.axis-end.result c.axis-i.result 0
    c.self.invariant (omega (arith, c.if-self-eq0.false)) (omega (arith, c.if-ndim-eq0.false)) (c.axis_at-axis.ensures.value ∙ ap (λ n. axis_in w.order n 0) c.ndim-ndim.ensures.value) c.axis-end.ensures (c.axis-i.ensures ∙ ap (λ is. get_or is c.axis_at-axis.result 0) c.copied-first.ensures.value)

pub overflow_sub-end : goal.overflow_sub-end
overflow_sub-end g c = let s = start g c in omega arith

pub row_len-requires : goal.row_len-requires
row_len-requires g c = let s = start g c in omega arith

pub set_axis-requires : goal.set_axis-requires
set_axis-requires g c =
    let axes = g.D.Lengths.numbers in
    let w = c.self.inside in
    let l = InBox-length (axes w.dim) (axes w.index) (c.self.invariant.within (omega (arith, c.if-self-eq0.false))) in
    let b = c.axis_at-axis.ensures.below in
    omega arith

pub advance-requires-clause-within : goal.advance-requires-clause-within
advance-requires-clause-within g c =
    let axes = g.D.Lengths.numbers in
    let w = c.self.inside in
    let s = row-last w.order (axes w.dim) (axes w.index) w.left c.axis_at-axis.result c.axis-end.result c.axis-i.result c.min-count.result c.self.invariant (omega (arith, c.if-self-eq0.false)) (omega (arith, c.if-ndim-eq0.false)) (c.axis_at-axis.ensures.value ∙ ap (λ n. axis_in w.order n 0) c.ndim-ndim.ensures.value) c.axis-end.ensures (c.axis-i.ensures ∙ ap (λ is. get_or is c.axis_at-axis.result 0) c.copied-first.ensures.value) (omega (arith, c.min-count.ensures, c.min.ensures, c.row_len.ensures.some, c.if-self-eq0.false)) (omega (arith, c.min-count.ensures, c.min.ensures, c.row_len.ensures.within)) c.if-self-gt0.true in
    subst (InBox (axes w.dim)) (sym c.set_axis.ensures) s.0

pub advance-requires-clause-more : goal.advance-requires-clause-more
advance-requires-clause-more g c =
    let axes = g.D.Lengths.numbers in
    let w = c.self.inside in
    let s = row-last w.order (axes w.dim) (axes w.index) w.left c.axis_at-axis.result c.axis-end.result c.axis-i.result c.min-count.result c.self.invariant (omega (arith, c.if-self-eq0.false)) (omega (arith, c.if-ndim-eq0.false)) (c.axis_at-axis.ensures.value ∙ ap (λ n. axis_in w.order n 0) c.ndim-ndim.ensures.value) c.axis-end.ensures (c.axis-i.ensures ∙ ap (λ is. get_or is c.axis_at-axis.result 0) c.copied-first.ensures.value) (omega (arith, c.min-count.ensures, c.min.ensures, c.row_len.ensures.some, c.if-self-eq0.false)) (omega (arith, c.min-count.ensures, c.min.ensures, c.row_len.ensures.within)) c.if-self-gt0.true in
    subst (λ is. rank_in w.order (axes w.dim) is + 1 < size (axes w.dim)) (sym c.set_axis.ensures) s.2

pub invariant_of-self-then-self-gt0 : goal.invariant_of-self-then-self-gt0
invariant_of-self-then-self-gt0 g c =
    let axes = g.D.Lengths.numbers in
    let w = c.self.inside in
    let s = row-last w.order (axes w.dim) (axes w.index) w.left c.axis_at-axis.result c.axis-end.result c.axis-i.result c.min-count.result c.self.invariant (omega (arith, c.if-self-eq0.false)) (omega (arith, c.if-ndim-eq0.false)) (c.axis_at-axis.ensures.value ∙ ap (λ n. axis_in w.order n 0) c.ndim-ndim.ensures.value) c.axis-end.ensures (c.axis-i.ensures ∙ ap (λ is. get_or is c.axis_at-axis.result 0) c.copied-first.ensures.value) (omega (arith, c.min-count.ensures, c.min.ensures, c.row_len.ensures.some, c.if-self-eq0.false)) (omega (arith, c.min-count.ensures, c.min.ensures, c.row_len.ensures.within)) c.if-self-gt0.true in
    let at : rank_in w.order (axes w.dim) (axes c.advance.new.index) ≡ rank_in w.order (axes w.dim) (axes w.index) + c.min-count.result = c.advance.ensures.next ∙ (ap (λ is. rank_in w.order (axes w.dim) is + 1) c.set_axis.ensures ∙ s.1) in
    let f = c.self.invariant.fits (omega (arith, c.if-self-eq0.false)) in
    record { limit = c.self.invariant.limit; within = λ p. c.advance.ensures.within; fits = λ p. omega arith }

pub returns : goal.returns
returns g c =
    let axes = g.D.Lengths.numbers in
    let w = c.self.inside in
    let t = row-taken w.order (axes w.dim) (axes w.index) w.left c.axis_at-axis.result c.axis-end.result c.axis-i.result c.min-count.result c.self.invariant (omega (arith, c.if-self-eq0.false)) (omega (arith, c.if-ndim-eq0.false)) (c.axis_at-axis.ensures.value ∙ ap (λ n. axis_in w.order n 0) c.ndim-ndim.ensures.value) c.axis-end.ensures (c.axis-i.ensures ∙ ap (λ is. get_or is c.axis_at-axis.result 0) c.copied-first.ensures.value) (omega (arith, c.min-count.ensures, c.min.ensures, c.row_len.ensures.some, c.if-self-eq0.false)) (omega (arith, c.min-count.ensures, c.min.ensures, c.row_len.ensures.within)) (omega (arith, c.min-count.ensures, c.min.ensures)) in
    let le : c.min-count.result + (w.left - c.min-count.result) ≡ w.left = omega (arith, c.min-count.ensures, c.min.ensures) in
    let gone = ap (drop c.min-count.result) c.self.view_is in
    let lt = row-inside w.order (axes w.dim) (axes w.index) w.left c.axis_at-axis.result c.axis-end.result c.axis-i.result 0 c.self.invariant (omega (arith, c.if-self-eq0.false)) (omega (arith, c.if-ndim-eq0.false)) (c.axis_at-axis.ensures.value ∙ ap (λ n. axis_in w.order n 0) c.ndim-ndim.ensures.value) c.axis-end.ensures (c.axis-i.ensures ∙ ap (λ is. get_or is c.axis_at-axis.result 0) c.copied-first.ensures.value) in
    record {
      room = omega (arith, c.min-count.ensures, c.min.ensures, c.row_len.ensures.within, c.axis-i.ensures);
      some = omega (arith, c.min-count.ensures, c.min.ensures, c.row_len.ensures.some, c.if-self-eq0.false);
      row = ap (take c.min-count.result) (sym c.self.view_is) ∙ (t ∙ ap (λ is. row_from is c.axis_at-axis.result c.min-count.result) (sym c.copied-first.ensures.value));
      rest = elim c.if-self-gt0.branch [
        | then-self-gt0 b ↦ (let s = row-last w.order (axes w.dim) (axes w.index) w.left c.axis_at-axis.result c.axis-end.result c.axis-i.result c.min-count.result c.self.invariant (omega (arith, c.if-self-eq0.false)) (omega (arith, c.if-ndim-eq0.false)) (c.axis_at-axis.ensures.value ∙ ap (λ n. axis_in w.order n 0) c.ndim-ndim.ensures.value) c.axis-end.ensures (c.axis-i.ensures ∙ ap (λ is. get_or is c.axis_at-axis.result 0) c.copied-first.ensures.value) (omega (arith, c.min-count.ensures, c.min.ensures, c.row_len.ensures.some, c.if-self-eq0.false)) (omega (arith, c.min-count.ensures, c.min.ensures, c.row_len.ensures.within)) b.if-self-gt0.true in
            b.self-is ∙ (walk-skip w.order (axes w.dim) (axes w.index) (axes b.advance.new.index) c.min-count.result w.left (w.left - c.min-count.result) c.self.invariant le
            (λ p. b.advance.ensures.next ∙ (ap (λ is. rank_in w.order (axes w.dim) is + 1) b.set_axis.ensures ∙ s.1)) ∙ gone))
        | else-self-gt0 b ↦ b.self-is ∙ (walk-skip w.order (axes w.dim) (axes w.index) (axes w.index) c.min-count.result w.left (w.left - c.min-count.result) c.self.invariant le (λ p. absurd (omega (arith, b.if-self-gt0.false))) ∙ gone)
      ];
    }
