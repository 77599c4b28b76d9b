use Rattle.std.proofs.Common.{◌≡◌, List, length, map, subst}
use Rattle.std.specs.Iterator.{ActsAs, Drains}
use Rattle.std.specs.Iterator.Adapters.{map_steps}
use Rattle.std.specs.Iterator.Runs.{WholeRun}
use Rattle.std.proofs.lemmas.Result.{IfOk-weaker}
use Rattle.ndarray.specs.Collected.{GivesEach}
use Rattle.ndarray.proofs.lists.Collections.{mapped-drains, mapped-runs}
use Rattle.ndarray.proofs.iter.vectors.to_vec_mapped.Goals as goal
use Rattle.ndarray.proofs.iter.vectors.to_vec_mapped.Goals.{After-to_vec}

-- what the vector's elements were made of
made : (g : _) (c : After-to_vec g) (ys : List g.row.B.Denot) → Drains (map_steps g.I.Iterator.next_gives g.F.FnMut) c.map.result ys → (xs : List g.row.I-Item.Denot) × (last : g.row.F.Denot) × Drains g.I.Iterator.next_gives c.args.iter xs × GivesEach g.F.FnMut c.args.f xs ys last
made g c ys d =
    let m = mapped-drains g.I.Iterator.next_gives g.F.FnMut c.map.result ys d in
    (m.0, m.1, subst (λ s. Drains g.I.Iterator.next_gives s m.0) c.map.ensures.source m.2, subst (λ f. GivesEach g.F.FnMut f m.0 ys m.1) c.map.ensures.closure m.3)

pub returns-clause-ran : goal.returns-clause-ran
returns-clause-ran g c =
    IfOk-weaker c.to_vec.result (λ v. Drains (map_steps g.I.Iterator.next_gives g.F.FnMut) c.map.result v.items)
    (λ v. (xs : List g.row.I-Item.Denot) × (last : g.row.F.Denot) × Drains g.I.Iterator.next_gives c.args.iter xs × GivesEach g.F.FnMut c.args.f xs v.items last)
    (λ v d. made g c v.items d) c.to_vec.ensures.ran

pub returns-clause-runs : goal.returns-clause-runs
returns-clause-runs g c =
    IfOk-weaker c.to_vec.result (λ v. Drains (map_steps g.I.Iterator.next_gives g.F.FnMut) c.map.result v.items)
    (λ v. WholeRun g.I.Iterator.next_gives c.args.iter (λ p. (length v.items ≡ p.len) × ((h : g.row.I-Item.Denot → g.row.B.Denot) → ActsAs g.F.FnMut c.args.f h → v.items ≡ map h p.items)))
    (λ v d. mapped-runs g.I.Iterator.next_gives g.F.FnMut c.args.iter c.args.f v.items (made g c v.items d)) c.to_vec.ensures.ran
