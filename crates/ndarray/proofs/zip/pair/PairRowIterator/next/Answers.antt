use Rattle.ndarray.proofs.runs.Rows.{AsLong-next}
use Rattle.ndarray.proofs.zip.pair.PairRowIterator.next.Goals as goal

pub returns-clause-goes : goal.returns-clause-goes
returns-clause-goes g c =
    let a = c.in-Some.ensures.goes in
    let b = c.in-Some-next.ensures.goes in
    let long = AsLong-next _ _ c.requires.1.1 c.in-Some.ensures.steps c.in-Some-next.ensures.steps in
    record {
      on = λ finite. let p = a.on finite in ((a.keeps, (b.keeps, long)), p.1, p.2);
      keeps = (a.keeps, (b.keeps, long));
      rests = λ finite. tt;
    }
