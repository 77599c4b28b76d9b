use Rattle.std.proofs.Common.{rules, ◌≡◌, ◌∙◌, Some, ap, refl}
use Rattle.std.specs.Fn.{FnReturnsAt}
use Rattle.std.proofs.lemmas.Result.{IfOk-weaker}
use Rattle.ndarray.specs.Elementwise.{Maps}
use Rattle.ndarray.specs.Grid.{cell}
use Rattle.ndarray.proofs.callers.Collecting.{collect-each, may-gather, if_ok-both}
use Rattle.ndarray.proofs.cells.Mapped.{maps-mapped}
use Rattle.ndarray.proofs.base.array.ArrayBase.map.Goals as goal

pub map_collect-requires : goal.map_collect-requires
map_collect-requires g c =
    let first : c.from.result.nested ≡ c.args.self.now = c.from.ensures in
    record { callable = λ o. may-gather _ _ c.args.f _ (λ i x r k shown call. search (rules, call)) _ o (λ i x inside shown. c.requires.callable i x.now (rw first at shown) x refl) }

pub returns-clause-cells : goal.returns-clause-cells
returns-clause-cells g c =
    let a = c.args.self.now in
    let first : c.from.result.nested ≡ a = c.from.ensures in
    if_ok-both c.map_collect.result _ _ (Maps (λ x r. FnReturnsAt g.F.Fn c.args.f x r) a)
    (λ b ran whole. record {
      lengths = ran.1.lengths ∙ ap (λ v. v.lengths) first;
      whole = whole;
      cells = collect-each _ _ _ (λ i r. (x : _) × (cell a i ≡ Some x) × FnReturnsAt g.F.Fn c.args.f x r) _
          (λ i x r k inside shown call.
          let there : cell a i ≡ Some x.now = rw first at shown in
          let met : g.F.Fn.post c.args.f (x, tt) r = search (rules, call) in
          (search (rules, call), (x.now, there, record { shown = x; shows = refl; says = record { met = met } })))
          ran.0 b ran.1;
    })
    c.map_collect.ensures.ran c.map_collect.ensures.whole

pub returns-clause-values : goal.returns-clause-values
returns-clause-values g c h acts =
    IfOk-weaker c.map_collect.result _ _
    (λ b made. maps-mapped c.args.self.now b _ h c.raw_dim-whole.ensures.whole (λ x r k. acts k.shown r k.says.met ∙ ap h k.shows) made)
    (returns-clause-cells g c)
