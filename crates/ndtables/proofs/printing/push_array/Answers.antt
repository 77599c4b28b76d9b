use Rattle.std.proofs.Common.{◌≡◌, ◌++◌, ◌∷◌, [], take, length, sym, ap, ◌∙◌, append_assoc, arith}
use Rattle.std.specs.Prelude.{string_bytes}
use Rattle.ndarray.specs.Index.{size}
use Rattle.ndtables.specs.Printing.{array_text_by, cells_text}
use Rattle.ndtables.proofs.PrintedCells.{array_text-line, array_text-lines}
use Rattle.ndtables.proofs.printing.push_array.Goals.{else-len-eq0-via-then-len-eq0+else-ndim-gt1, else-len-eq0-via-else-len-eq0}
use Rattle.ndtables.proofs.printing.push_array.Goals as goal

pub returns : goal.returns
returns c =
    let a = c.args.array.now in
    let b = c.args.between.now in
    let old = string_bytes c.args.text.now in
    let whole : length a.cells ≡ size a.lengths = sym c.len.ensures.cells ∙ c.len.ensures.size in
    let lines : cells_text b a.lengths (take (size a.lengths) a.cells) ++ 10 ∷ [] ≡ array_text_by b a = elim c.else-len-eq0.branch [
      | else-len-eq0-via-then-len-eq0+else-ndim-gt1 w ↦ array_text-line b a whole (let e = w.ndim.ensures.value in let h = w.if-ndim-gt1.false in omega arith)
      | else-len-eq0-via-else-len-eq0 w ↦ array_text-lines b a whole (let e = c.len.ensures.cells in let h = w.if-len-eq0.false in omega arith)
    ] in
    let cells : string_bytes c.push_cells.new.text ≡ old ++ cells_text b a.lengths (take (size a.lengths) a.cells) =
    c.in_ok-push_cells.ensures.text
    ∙ (ap (λ xs. old ++ cells_text b c.shape.result.now (take (size c.shape.result.now) xs)) c.iter.ensures.cells
    ∙ ap (λ ns. old ++ cells_text b ns (take (size ns) a.cells)) c.shape.ensures.value) in
    c.in_ok-push.ensures.bytes
    ∙ (ap (λ z. string_bytes c.push_cells.new.text ++ z) (c.in_ok-push.ensures.ascii (omega arith))
    ∙ (ap (λ z. z ++ 10 ∷ []) cells
    ∙ (append_assoc old (cells_text b a.lengths (take (size a.lengths) a.cells)) (10 ∷ []) ∙ ap (λ z. old ++ z) lines)))
