use Rattle.std.proofs.Common.{◌∙◌, ap, refl, rules}
use Rattle.std.proofs.lemmas.Bool.{false≢true}
use Rattle.ndarray.specs.Index.{size}
use Rattle.ndarray.proofs.boxes.Sizes.{size-reverse}
use Rattle.ndarray.proofs.convolution.ReversedWindows.{can-reversed, made-reversed, reversed-counts}
use Rattle.ndarray.proofs.conv.over_columns.Goals as goal

pub over_rows-requires-clause-can : goal.over_rows-requires-clause-can
over_rows-requires-clause-can g c κs lives =
    can-reversed g.A.Valued c.args.a c.args.mirrored c.reversed_axes-reversed.result c.reversed_axes-mirrored_reversed.result c.requires.can c.raw_dim-whole.ensures.whole
    c.reversed_axes-reversed.ensures.value c.reversed_axes-reversed.ensures.whole
    c.reversed_axes-mirrored_reversed.ensures.value c.reversed_axes-mirrored_reversed.ensures.whole

pub returns-in_err-sums : goal.returns-in_err-sums
returns-in_err-sums g c = record {
  made = search rules;
  empty = λ none.
      let counts = reversed-counts g.A.Valued c.args.a c.args.mirrored c.reversed_axes-reversed.result c.reversed_axes-mirrored_reversed.result c.requires.can c.raw_dim-whole.ensures.whole
      c.reversed_axes-reversed.ensures.value c.reversed_axes-reversed.ensures.whole
      c.reversed_axes-mirrored_reversed.ensures.value c.reversed_axes-mirrored_reversed.ensures.whole in
      absurd (false≢true (c.in_err-sums.ensures.empty (ap size counts ∙ (size-reverse _ ∙ none))));
}

pub returns : goal.returns
returns g c = record {
  made =
      made-reversed g.A.Valued c.args.a c.args.mirrored c.reversed_axes-reversed.result c.reversed_axes-mirrored_reversed.result c.requires.can c.raw_dim-whole.ensures.whole
      c.reversed_axes-reversed.ensures.value c.reversed_axes-reversed.ensures.whole
      c.reversed_axes-mirrored_reversed.ensures.value c.reversed_axes-mirrored_reversed.ensures.whole
      c.in_ok-sums.sums c.reversed_axes.result c.in_ok-sums.ensures.made c.reversed_axes.ensures.value c.reversed_axes.ensures.whole;
  empty = λ none. refl;
}
