use Rattle.std.proofs.Common.{◌≡◌, ◌∙◌, ◌++◌, [], ap, append-nil, refl, subst}
use Rattle.ndtables.specs.Streams.{AppendsFront, line_of, place_text}
use Rattle.ndtables.proofs.LinesAlone.{alone-answer, alone-fault, alone-place}
use Rattle.ndtables.proofs.OneFault.{first-line, no-first}
use Rattle.ndtables.proofs.program.run.Goals as goal

pub returns-in-Ok-print-clause-first : goal.returns-in-Ok-print-clause-first
returns-in-Ok-print-clause-first g c alone fault first = absurd (no-first _ _ fault (alone-answer _ _ _ alone c.in-Ok.ensures.text) first)

pub returns-in-Ok-clause-first : goal.returns-in-Ok-clause-first
returns-in-Ok-clause-first g c alone fault first = absurd (no-first _ _ fault (alone-answer _ _ _ alone c.in-Ok.ensures.text) first)

pub returns-clause-first : goal.returns-clause-first
returns-clause-first g c alone fault first =
    let told = c.in-Err.complaint in
    let none : place_text told.place ≡ [] = alone-place _ (place_text told.place) alone c.in-Err.ensures.place in
    let line = subst (AppendsFront (g.E.Write.contents c.args.err.now) (g.E.Write.contents c.complain.new.err)) (ap (λ place. line_of told.fault ++ place) none ∙ append-nil (line_of told.fault)) c.complain.ensures.lines in
    (c.complain.ensures.status, refl, first-line _ told.fault fault _ _ (alone-fault _ _ _ alone c.in-Err.ensures.err) first line)
