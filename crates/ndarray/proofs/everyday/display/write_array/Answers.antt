use Rattle.std.proofs.Common.{◌∙◌, ◌++◌, List, ℕ, Option, Some, None, ap, refl, subst, sym, true}
use Rattle.std.specs.Prelude.{IfSome, IsOk}
use Rattle.std.specs.Result.{is_ok}
use Rattle.std.specs.Fmt.{◌++?◌, HasWritten, IsPlainFormatter, WritesOnOk}
use Rattle.std.specs.declared.fmt.Formatter.{Formatter}
use Rattle.std.proofs.lemmas.Grind.{put_three}
use Rattle.ndarray.specs.every_day.Breaks.{cells_text, lead_text}
use Rattle.ndarray.proofs.texts.NestedTexts.{array-cells}
use Rattle.ndarray.proofs.everyday.display.write_array.Goals as goal

-- what is written between two texts, where it has one
between-texts : {W : Type 0} (took : W → List ℕ → W → Type 0) (f g h i : Formatter W) (a b : List ℕ) (o : Option (List ℕ)) (goes ends : Type 0)
    → (IsPlainFormatter f → HasWritten took f a g) → goes → IfSome o (λ t. IsPlainFormatter g → goes → HasWritten took g t h) → (IsPlainFormatter h → ends → HasWritten took h b i)
    → IfSome (Some a ++? (o ++? Some b)) (λ t. IsPlainFormatter f → ends → HasWritten took f t i)
between-texts took f g h i a b None goes ends first went middle last = tt
between-texts took f g h i a b (Some t) goes ends first went middle last = λ plain ended.
    let opened = first plain in
    let shown = middle opened.plain went in
    put_three took f g h i a t b (a ++ (t ++ b)) opened shown (last shown.plain ended) refl

pub returns : goal.returns
returns g c =
    let ns = c.args.lengths.now in
    let show = g.T.CellText.text in
    subst (λ t. IfSome t (λ text. WritesOnOk g.W.Write.write_str_gives c.args.f.now c.write_many-2.result text c.write_many-2.new.f))
    (sym (array-cells show ns c.args.cells (sym c.requires.counted ∙ c.requires.many)))
    (between-texts g.W.Write.write_str_gives _ _ _ _ _ _ (cells_text show (lead_text 0 ns) 0 c.args.cells) (IsOk c.write_cells.result) _
    (λ plain. c.in_ok-write_many.ensures plain (refl {a = true}))
    (ap is_ok c.in_ok-write_cells.was)
    c.write_cells.ensures
    c.write_many-2.ensures)
