use Rattle.std.proofs.Common.{rules, ◌≡◌, subst}
use Rattle.std.specs.Io.KnownBytes.{Appends}
use Rattle.ndtables.specs.Streams.{AppendsFront, line_of, place_text}
use Rattle.ndtables.proofs.Written.{front-more, then-front}
use Rattle.ndtables.proofs.program.complain.Goals as goal

pub returns-in_default-clause-lines : goal.returns-in_default-clause-lines
returns-in_default-clause-lines g c =
    let old = g.E.Write.contents c.args.err.now in
    let new = g.E.Write.contents c.print.new.out in
    front-more old new (line_of c.args.complaint.fault) (place_text c.args.complaint.place) (subst (AppendsFront old new) c.line.ensures c.print.ensures.front)

pub returns-in-Some-clause-lines : goal.returns-in-Some-clause-lines
returns-in-Some-clause-lines g c =
    let old = g.E.Write.contents c.args.err.now in
    let first = g.E.Write.contents c.print.new.out in
    let new = g.E.Write.contents c.print-in-Some.new.out in
    let shown : c.as_str.result.now ≡ place_text c.args.complaint.place = search (rules, c.in-Some.is, c.in-Some.line-is, c.as_str.ensures.value) in
    then-front old first new (line_of c.args.complaint.fault) (place_text c.args.complaint.place)
    (subst (Appends old first) c.line.ensures c.in-Ok.ensures.whole)
    (subst (AppendsFront first new) shown c.print-in-Some.ensures.front)
