use Rattle.std.proofs.Common.{rules, ◌≡◌, ◌∷◌, ◌++◌, [], ◌<◌, length, ap, sym, subst, arith}
use Rattle.std.proofs.lemmas.List.{length-append}
use Rattle.ndtables.specs.Reading.{ReadsNumbers}
use Rattle.std.proofs.lemmas.Result.{err_from_is_err_and}
use Rattle.ndtables.proofs.WordsRead.{not-all_cells, reads-none, reads-more}
use Rattle.ndtables.proofs.words.Words.cells.Goals as goal

pub loop-init : goal.loop-init
loop-init c = record {
  as_many = ap length c.in_ok-cells.ensures.items;
  read = reads-none _ _ c.in_ok-cells.ensures.items;
  left = omega (arith, c.requires);
}

pub loop-preserved : goal.loop-preserved
loop-preserved c =
    let x = c.in_ok-cell.field-0 in
    let pushed : c.push.new.self.items ≡ c.loop.cells.items ++ x ∷ [] = search rules in
    record {
      as_many = (let e = ap length pushed in let f = length-append c.loop.cells.items (x ∷ []) in let h = c.loop.invariant.as_many in omega arith);
      read = subst (ReadsNumbers c.args.self.now c.word.new.self) (sym pushed)
          (reads-more _ _ _ _ _ x c.loop.invariant.read c.in_ok-word.ensures.cases c.in_ok-cell.ensures.value.0 c.in_ok-cell.ensures.value.1);
      left = (let e = ap length c.in_ok-word.ensures.cases in let h = c.loop.invariant.left in omega (arith, e, h));
    }

pub returns-in_err-cell-clause-err : goal.returns-in_err-cell-clause-err
returns-in_err-cell-clause-err c =
    let p = err_from_is_err_and c.from_residual-in_err-cell.result c.from_residual-in_err-cell.ensures.1 in
    let before : length c.loop.cells.items < c.args.count = (let h = c.loop.invariant.as_many in let lt = c.loop-test.true in omega (arith, h, lt)) in
    rw (p.1, p.2, c.in_err-cell.ensures.err) (
      c.requires,
      not-all_cells c.args.count c.args.self.now c.loop.self c.word.new.self c.in_ok-word.field-0.now c.loop.cells.items c.loop.invariant.read before c.in_ok-word.ensures.cases c.in_err-cell.ensures.value,
    )
