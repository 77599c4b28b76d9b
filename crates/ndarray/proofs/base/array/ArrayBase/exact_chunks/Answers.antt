use Rattle.std.proofs.Common.{ap, ◌∙◌}
use Rattle.ndarray.specs.Subviews.{windows_of}
use Rattle.ndarray.proofs.pieces.OneAxisWindows.{exact_chunks-windows}
use Rattle.ndarray.proofs.base.array.ArrayBase.exact_chunks.Goals as goal

pub returns : goal.returns
returns g c =
    let cs = g.E.IntoDimension.written_numbers c.args.chunk in
    c.pieces.ensures
    ∙ (ap (λ ss. windows_of c.args.self.now (g.D.Lengths.numbers c.into_dimension-chunk.result) ss) (c.copied-steps.ensures.value ∙ c.into_dimension-chunk.ensures)
    ∙ (ap (λ ws. windows_of c.args.self.now ws cs) c.into_dimension-chunk.ensures ∙ exact_chunks-windows c.args.self.now cs c.requires))
