use Rattle.std.proofs.Common.{rules, ◌≡◌, ◌∷◌, All, subst, sym}
use Rattle.std.specs.List.{FoldsTo}
use Rattle.std.proofs.lemmas.List.Elements.{All-tail}
use Rattle.ndarray.specs.Everyday.{ReturnsAtBoth, TakesAtBoth}
use Rattle.ndarray.proofs.everyday.folding.FoldLaneItemCallArrayViewIx1.call.Goals as goal

pub loop-x-preserved : goal.loop-x-preserved
loop-x-preserved g c =
    let step = ReturnsAtBoth g.F.Fn c.args.self.now.f in
    let rest = c.next.new.self in
    let more : c.loop-x.x-iterator ≡ c.in-Some.x.now ∷ rest = c.in-Some.ensures.steps in
    let here : ReturnsAtBoth g.F.Fn c.args.self.now.f c.loop-x.total c.in-Some.x.now c.f-total.result = search rules in
    record {
      can = λ b.
          let can = TakesAtBoth g.F.Fn c.args.self.now.f b in
          All-tail can c.in-Some.x.now rest (subst (All can) more (c.loop-x.invariant.can b));
      folds = λ t ran. c.loop-x.invariant.folds t (subst (λ xs. FoldsTo step c.loop-x.total xs t) (sym more) (c.f-total.result, here, ran));
    }
