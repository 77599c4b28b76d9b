use Rattle.std.proofs.Common.{◌≡◌, ◌+◌, suc, set, take, get_or, length, arith, sym, ◌∙◌, ap}
use Rattle.std.proofs.lemmas.List.{take_all}
use Rattle.ndarray.specs.base.IndexLists.{shifted_index}
use Rattle.ndarray.proofs.boxes.ShiftedBoxes.{shifted_index-none, shifted_index-length, shifted_index-more}
use Rattle.ndarray.proofs.base.index_lists.counted_from.Goals as goal

pub loop-k-init : goal.loop-k-init
loop-k-init g c = c.copied-list.ensures.value ∙ sym (shifted_index-none _)

pub set_axis-requires : goal.set_axis-requires
set_axis-requires g c =
    let l = shifted_index-length (take c.loop-k.k (g.D.Lengths.numbers c.args.start.now)) (g.D.Lengths.numbers c.args.index.now) in
    let e = ap length c.loop-k.invariant in
    omega arith

pub overflow_add-axis : goal.overflow_add-axis
overflow_add-axis g c = let r = c.requires.room c.loop-k.k (omega arith) in omega (arith, r, c.axis.ensures, c.axis-in-loop-k.ensures)

pub loop-k-preserved : goal.loop-k-preserved
loop-k-preserved g c =
    let ss = g.D.Lengths.numbers c.args.start.now in
    let is = g.D.Lengths.numbers c.args.index.now in
    let k : suc c.loop-k.k ≡ c.loop-k.k + 1 = omega arith in
    c.set_axis.ensures
    ∙ (ap (λ x. set (g.D.Lengths.numbers c.loop-k.list) c.loop-k.k (x + c.axis-in-loop-k.result)) c.axis.ensures
    ∙ (ap (λ x. set (g.D.Lengths.numbers c.loop-k.list) c.loop-k.k (get_or ss c.loop-k.k 0 + x)) c.axis-in-loop-k.ensures
    ∙ (ap (λ js. set js c.loop-k.k (get_or ss c.loop-k.k 0 + get_or is c.loop-k.k 0)) c.loop-k.invariant
    ∙ (shifted_index-more ss is c.loop-k.k (omega arith) ∙ ap (λ j. shifted_index (take j ss) is) k))))

pub returns : goal.returns
returns g c = c.loop-k.invariant ∙ ap (λ ss. shifted_index ss (g.D.Lengths.numbers c.args.index.now)) (take_all c.loop-k.k (g.D.Lengths.numbers c.args.start.now) (omega arith))
