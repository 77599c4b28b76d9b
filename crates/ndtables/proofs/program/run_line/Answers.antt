use Rattle.std.proofs.Common.{◌≡◌, ◌∙◌, ap, drop, map, string_bytes, subst}
use Rattle.ndtables.specs.Answering.{IsFirstFault}
use Rattle.ndtables.specs.Lines.{StandsAlone}
use Rattle.ndtables.specs.Streams.{PrintsEither}
use Rattle.ndtables.specs.declared.fault.Fault.{Fault}
use Rattle.ndtables.proofs.program.run_line.Goals as goal

pub returns-in-Ok-clause-first : goal.returns-in-Ok-clause-first
returns-in-Ok-clause-first g c =
    let same : map string_bytes c.after_name.result.now ≡ drop 1 (map string_bytes c.in-Ok.words.items) = c.after_name.ensures ∙ ap (λ ws. drop 1 (map string_bytes ws)) c.as_slice.ensures.value in
    rw c.in-Ok.is (subst (λ ws. StandsAlone ws → (fault : Fault) → IsFirstFault ws fault → (c.run.result ≡ 2) × (c.run.new.out ≡ c.args.out.now) × PrintsEither fault (g.E.Write.contents c.args.err.now) (g.E.Write.contents c.run.new.err)) same c.run.ensures.first)
