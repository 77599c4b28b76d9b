use Rattle.std.proofs.Common.{◌≡◌, ◌∙◌, ◌-◌, get_or, set, ap, sym, arith}
use Rattle.ndarray.specs.Index.{size}
use Rattle.ndarray.proofs.boxes.Sizes.{size-set_none}
use Rattle.ndarray.proofs.callers.Collecting.{if_ok-both}
use Rattle.ndarray.proofs.cells.Differences.{neighbours-at, part-lengths, difference-of}
use Rattle.ndarray.proofs.reduce.diff.difference.Goals as goal

pub collect_of_both-requires-clause-same : goal.collect_of_both-requires-clause-same
collect_of_both-requires-clause-same g c =
    let same = c.view-view.ensures.same in
    part-lengths c.args.array.now _ _ c.args.axis.0 1 _ same c.part.ensures.value ∙ sym (part-lengths c.args.array.now _ _ c.args.axis.0 0 _ same c.part-2.ensures.value)

pub collect_of_both-requires-clause-callable : goal.collect_of_both-requires-clause-callable
collect_of_both-requires-clause-callable g c = λ o.
    let at = neighbours-at c.args.array.now _ _ _ c.args.axis.0 _ c.view-view.ensures.same c.part.ensures.value c.part-2.ensures.value c.part.ensures.whole c.part-2.ensures.whole in
    record { at = λ done i rest q e f x s. let p = at i x.0.now x.1.now s.0 s.1 in c.requires.defined i x.0.now x.1.now p.0 p.1 }

pub returns-clause-made : goal.returns-clause-made
returns-clause-made g c =
    let at = neighbours-at c.args.array.now _ _ _ c.args.axis.0 _ c.view-view.ensures.same c.part.ensures.value c.part-2.ensures.value c.part.ensures.whole c.part-2.ensures.whole in
    let rest : c.len_of-rest.result - 1 ≡ get_or c.args.array.now.lengths c.args.axis.0 0 - 1 = ap (λ n. n - 1) c.len_of-rest.ensures.value ∙ ap (λ v. get_or v.lengths c.args.axis.0 0 - 1) c.view-view.ensures.same in
    if_ok-both c.collect_of_both.result _ _ _
    (λ r ran whole. difference-of g.A.Sub.sub_gives c.args.axis.0 c.args.array.now _ _ (λ x. x.0.now) (λ x. x.1.now) (λ i x s. at i x.0.now x.1.now s.0 s.1) (λ f x z h s. s) ran.0 _ _
    (part-lengths c.args.array.now _ _ c.args.axis.0 1 _ c.view-view.ensures.same c.part.ensures.value ∙ ap (set c.args.array.now.lengths c.args.axis.0) rest) r whole ran.1)
    c.collect_of_both.ensures.ran c.collect_of_both.ensures.whole

pub returns-clause-empty : goal.returns-clause-empty
returns-clause-empty g c = λ none.
    let fewer : c.len_of-rest.result ≡ get_or c.args.array.now.lengths c.args.axis.0 0 = c.len_of-rest.ensures.value ∙ ap (λ v. get_or v.lengths c.args.axis.0 0) c.view-view.ensures.same in
    c.collect_of_both.ensures.empty (ap size (part-lengths c.args.array.now _ _ c.args.axis.0 1 _ c.view-view.ensures.same c.part.ensures.value) ∙ size-set_none c.args.array.now.lengths c.args.axis.0 (c.len_of-rest.result - 1) (omega (arith, fewer)) none)
