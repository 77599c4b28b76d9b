use Rattle.std.proofs.Common.{rules, ◌≡◌, ◌∙◌, ◌∷◌, ◌+◌, ◌++◌, [], Some, ap, append_assoc, arith, length, refl, subst, sym}
use Rattle.std.specs.Prelude.{IfSome}
use Rattle.std.specs.Fmt.{◌++?◌, HasWritten, WritesOnOk}
use Rattle.std.specs.Result.{is_ok}
use Rattle.std.proofs.Output.{has_written_append}
use Rattle.ndarray.specs.every_day.Breaks.{cells_text, lead_text}
use Rattle.ndarray.proofs.texts.NestedTexts.{append-parts}
use Rattle.ndarray.proofs.everyday.display.write_cells.Goals as goal

pub loop-cell-preserved : goal.loop-cell-preserved
loop-cell-preserved g c =
    let show = g.T.CellText.text in
    let took = g.W.Write.write_str_gives in
    let lead = lead_text 0 c.args.lengths.now in
    let j = c.loop-cell.j in
    let later = c.next.new.self in
    let more : c.loop-cell.cell-iterator ≡ c.in-Some.cell.now ∷ later = c.in-Some.ensures.steps in
    let fewer = ap length more in
    record {
      many = omega (arith, fewer, c.loop-cell.invariant.many);
      so_far = λ all total plain.
          let (written, rest, now, same, wrote) = c.loop-cell.invariant.so_far all total plain in
          let (a, b, first, behind, parts) = append-parts (Some (lead j) ++? show c.in-Some.cell.now) (cells_text show lead (j + 1) later) rest (ap (cells_text show lead j) (sym more) ∙ now) in
          let put : HasWritten took c.loop-cell.f a c.write_cell.new.f =
          subst (λ o. IfSome o (λ text. WritesOnOk took c.loop-cell.f c.write_cell.result text c.write_cell.new.f)) first c.write_cell.ensures wrote.plain (ap is_ok c.in_ok-write_cell.was) in
          (written ++ a, b, behind, same ∙ (ap (λ l. written ++ l) parts ∙ sym (append_assoc written a b)), has_written_append took _ _ _ _ _ wrote put);
    }

pub loop-cell-init : goal.loop-cell-init
loop-cell-init g c =
    let same : c.into_iter-cell-iterator.result ≡ c.args.cells = search rules in
    record {
      many = let few = ap length same in omega (arith, few, c.requires.counted);
      so_far = λ all total plain. ([], all, ap (cells_text g.T.CellText.text (lead_text 0 c.args.lengths.now) 0) same ∙ total, refl, record { wrote = record { parts = []; calls = refl; whole = refl }; plain = plain });
    }
