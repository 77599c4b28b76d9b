use Rattle.std.proofs.Common.{rules, ◌≡◌, ◌++◌, ◌∷◌, [], sym, ap, ◌∙◌, subst, append_assoc, Some}
use Rattle.std.proofs.lemmas.List.{append-nil}
use Rattle.std.specs.Prelude.{All, filter_map}
use Rattle.std.specs.Option.{option_copied}
use Rattle.ndarray.specs.Grid.{cell}
use Rattle.ndarray.specs.Index.{InBox, column_order}
use Rattle.ndarray.specs.declared.base.shape.Order.TheVariants.{ColumnMajor}
use Rattle.ndarray.proofs.callers.Cells.{HasCells-first, along-first}
use Rattle.ndarray.proofs.callers.IndexLists.{box_in-within}
use Rattle.ndtables.proofs.table.in_column_order.Goals as goal

pub loop-index-init : goal.loop-index-init
loop-index-init g c =
    let a = c.args.array.now in
    let all : c.into_iter-index-iterator.result ≡ column_order a.lengths =
    c.into_iter-index-iterator.ensures.into_iter_gives ∙ (c.new-index-items.ensures.list ∙ ap column_order c.raw_dim.ensures.lengths) in
    record {
      within = record { whole = c.raw_dim.ensures.whole; within = subst (λ z. All (InBox a.lengths) z) (sym all) (box_in-within ColumnMajor a.lengths) };
      same = ap (λ z. z ++ filter_map (cell a) c.into_iter-index-iterator.result) (c.in_ok-cells.ensures.items) ∙ ap (filter_map (cell a)) all;
    }

pub unwrap-requires : goal.unwrap-requires
unwrap-requires g c = c.get.ensures.within.1 (HasCells-first _ _ _ _ c.in-Some.ensures.steps c.loop-index.invariant.within).0

pub loop-index-preserved : goal.loop-index-preserved
loop-index-preserved g c =
    let a = c.args.array.now in
    let is = g.D.Lengths.numbers c.in-Some.index in
    let x = c.unwrap.result.now in
    let here : cell a is ≡ Some x = sym (c.get.ensures.value) ∙ ap option_copied c.unwrap.ensures in
    let more = along-first a c.loop-index.index-iterator c.next.new.self is x c.in-Some.ensures.steps here in
    let pushed : c.push.new.self.items ≡ c.loop-index.cells.items ++ x ∷ [] = search rules in
    record {
      within = (HasCells-first _ _ _ _ c.in-Some.ensures.steps c.loop-index.invariant.within).1;
      same = ap (λ z. z ++ filter_map (cell a) c.next.new.self) pushed
          ∙ (append_assoc c.loop-index.cells.items (x ∷ []) (filter_map (cell a) c.next.new.self)
          ∙ (ap (λ z. c.loop-index.cells.items ++ z) (sym more)
          ∙ c.loop-index.invariant.same));
    }

pub returns : goal.returns
returns g c =
    let a = c.args.array.now in
    let ended : c.loop-index.index-iterator ≡ [] = search rules in
    sym (append-nil c.loop-index.cells.items)
    ∙ (ap (λ z. c.loop-index.cells.items ++ filter_map (cell a) z) (sym ended)
    ∙ c.loop-index.invariant.same)
