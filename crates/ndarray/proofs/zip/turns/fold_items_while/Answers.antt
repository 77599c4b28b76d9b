use Rattle.std.proofs.Common.{ap, refl}
use Rattle.ndarray.specs.declared.zip.fold_while.FoldWhile.TheVariants.{Continue}
use Rattle.ndarray.proofs.runs.FoldWhiles.{folds-while}
use Rattle.ndarray.proofs.zip.turns.fold_items_while.Goals as goal

pub returns-in-Ok : goal.returns-in-Ok
returns-in-Ok g c = record { ran = folds-while (g.P.NdProducer.yields_at c.args.p) g.C.FoldCall.call_gives _ c.args.f c.args.init _ _ c.in-Ok.ensures.ran (ap (λ (s : g.row.C.Denot × g.row.B.Denot). Continue s.1) c.folded.view_is) }

pub returns-in-Err : goal.returns-in-Err
returns-in-Err g c = record { ran = folds-while (g.P.NdProducer.yields_at c.args.p) g.C.FoldCall.call_gives _ c.args.f c.args.init _ _ c.in-Err.ensures.ran refl }
