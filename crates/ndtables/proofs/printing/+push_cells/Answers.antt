use Rattle.std.proofs.Common.{rules, ◌≡◌, ◌++◌, ◌∷◌, ◌-◌, ◌+◌, ◌*◌, take, drop, sym, ap, ◌∙◌}
use Rattle.std.specs.Prelude.{string_bytes}
use Rattle.std.proofs.lemmas.List.{append-nil}
use Rattle.std.specs.List.{join_by}
use Rattle.ndarray.specs.Index.{size}
use Rattle.ndtables.specs.Printing.{pieces, cells_text, separator_text}
use Rattle.ndtables.proofs.PrintedCells.{all-made, none-behind, none-made, joined_after, joined-from_nothing, joined-more, pieces-left, cells-left, cells_text-first}
use Rattle.ndtables.proofs.printing.+push_cells.Goals as goal

pub loop-init : goal.loop-init
loop-init g t c =
    let b = c.args.between.now in
    let ns = c.in-Some.rest.now in
    let n = c.in-Some.length.now in
    let xs = c.args.cells.now in
    let first = string_bytes c.args.text.now in
    record {
      utf8 = search rules;
      text = ap (λ z. first ++ z) (joined-from_nothing (cells_text b ns) (separator_text b ns) (pieces (n - 0) (size ns) xs)) ∙ ap (λ m. first ++ join_by (cells_text b ns) (separator_text b ns) (pieces m (size ns) xs)) (none-made n);
      rest = ap (λ m. drop (m * size ns) xs) (none-made n);
    }

pub loop-preserved : goal.loop-preserved
loop-preserved g t c =
    let b = c.args.between.now in
    let ns = c.in-Some.rest.now in
    let s = size ns in
    let n = c.in-Some.length.now in
    let k = c.loop.counter in
    let xs = c.loop.cells in
    let before = string_bytes c.push_str.new.self in
    let now = string_bytes c.push_cells.new.text in
    let told : before ≡ string_bytes c.loop.text ++ c.loop.before.now = search rules in
    let more : now ≡ before ++ cells_text b ns (take s xs) = c.in_ok-push_cells.ensures.text in
    let cells : c.push_cells.new.cells ≡ drop s xs = c.in_ok-push_cells.ensures.rest in
    record {
      utf8 = search rules;
      text = ap (λ z. now ++ joined_after (cells_text b ns) (separator_text b ns) z (pieces (n - (k + 1)) s c.push_cells.new.cells)) c.separator-before.ensures
          ∙ (ap (λ ys. now ++ joined_after (cells_text b ns) (separator_text b ns) (separator_text b ns) (pieces (n - (k + 1)) s ys)) cells
          ∙ (joined-more (cells_text b ns) (separator_text b ns) before now (string_bytes c.loop.text) c.loop.before.now (take s xs) (pieces (n - (k + 1)) s (drop s xs)) (pieces (n - k) s xs) (pieces-left n k s xs c.loop-test.true) told more
          ∙ c.loop.invariant.text));
      rest = ap (drop ((n - (k + 1)) * s)) cells ∙ (cells-left n k s xs c.loop-test.true ∙ c.loop.invariant.rest);
    }

pub returns-clause-text : goal.returns-clause-text
returns-clause-text g t c =
    let b = c.args.between.now in
    let ns = c.in-Some.rest.now in
    let n = c.in-Some.length.now in
    let f = cells_text b ns in
    let ended = all-made n c.loop.counter c.loop-test.false in
    let lengths : c.args.lengths.now ≡ n ∷ ns = c.in-Some.ensures.cases.0 in
    let cells = c.args.cells.now in
    sym (append-nil (string_bytes c.loop.text))
    ∙ (ap (λ m. string_bytes c.loop.text ++ joined_after f (separator_text b ns) c.loop.before.now (pieces m (size ns) c.loop.cells)) (sym ended)
    ∙ (c.loop.invariant.text
    ∙ (ap (λ z. string_bytes c.args.text.now ++ z) (sym (cells_text-first b n ns cells))
    ∙ ap (λ ms. string_bytes c.args.text.now ++ cells_text b ms (take (size ms) cells)) (sym lengths))))

pub returns-clause-rest : goal.returns-clause-rest
returns-clause-rest g t c =
    let b = c.args.between.now in
    let ns = c.in-Some.rest.now in
    let n = c.in-Some.length.now in
    let lengths : c.args.lengths.now ≡ n ∷ ns = c.in-Some.ensures.cases.0 in
    sym (none-behind (n - c.loop.counter) (size ns) c.loop.cells (all-made n c.loop.counter c.loop-test.false))
    ∙ (c.loop.invariant.rest ∙ ap (λ ms. drop (size ms) c.args.cells.now) (sym lengths))
