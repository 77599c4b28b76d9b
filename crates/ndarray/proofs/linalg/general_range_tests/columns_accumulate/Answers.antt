use Rattle.std.proofs.Common.{◌∙◌, ◌<◌, ap, arith, get_or, subst, sym}
use Rattle.ndarray.proofs.cells.AccumulationTests.{ColumnAccumulates, column-enough, column-needed, columns-enough, columns-sums, no-entries}
use Rattle.ndarray.proofs.cells.EntryTests.{below-next}
use Rattle.ndarray.proofs.lists.Decisions.{says_no, says_yes}
use Rattle.ndarray.proofs.linalg.general_range_tests.columns_accumulate.Goals as goal

pub returns-then-len-eq0-clause-exact : goal.returns-then-len-eq0-clause-exact
returns-then-len-eq0-clause-exact g c =
    says_yes _ (no-entries g.A.Number.value g.A.Number.fits c.args.alpha c.args.beta c.args.a.now c.args.b.now c.args.c.now c.raw_dim.ensures.axes c.raw_dim-into.ensures.axes c.requires.inner c.requires.lengths (sym c.len.ensures.size ∙ c.if-len-eq0.true))

pub returns-then-not-rows_accumulate-clause-exact : goal.returns-then-not-rows_accumulate-clause-exact
returns-then-not-rows_accumulate-clause-exact g c =
    let b = c.args.b.now in
    let within : c.loop-j.j < get_or b.lengths 1 0 = subst (λ n. c.loop-j.j < n) (ap (λ l. get_or l 1 0) (c.into_pattern-n.ensures ∙ c.raw_dim.ensures.lengths)) c.loop-j-test.true in
    let off = c.if-not-rows_accumulate.true in
    says_no _ (λ all.
    let on = c.rows_accumulate.ensures.exact.1 (column-needed g.A.Number.value g.A.Number.fits c.args.alpha c.args.beta c.args.a.now b c.args.c.now c.raw_dim.ensures.axes c.raw_dim-into.ensures.axes c.requires.inner c.requires.lengths
    c.index_axis-column.result c.index_axis.result c.loop-j.j within c.index_axis-column.ensures.value c.index_axis-column.ensures.whole c.index_axis.ensures.value c.index_axis.ensures.whole all) in
    absurd (cc))

pub loop-j-preserved : goal.loop-j-preserved
loop-j-preserved g c =
    let v = g.A.Number.value in
    let fits = g.A.Number.fits in
    let b = c.args.b.now in
    let within : c.loop-j.j < get_or b.lengths 1 0 = subst (λ n. c.loop-j.j < n) (ap (λ l. get_or l 1 0) (c.into_pattern-n.ensures ∙ c.raw_dim.ensures.lengths)) c.loop-j-test.true in
    let on = c.if-not-rows_accumulate.false in
    λ k lt. below-next (ColumnAccumulates v fits c.args.alpha c.args.beta c.args.a.now b c.args.c.now) c.loop-j.j c.loop-j.invariant
    (column-enough v fits c.args.alpha c.args.beta c.args.a.now b c.args.c.now c.raw_dim.ensures.axes c.raw_dim-into.ensures.axes c.requires.inner c.requires.lengths
    c.index_axis-column.result c.index_axis.result c.loop-j.j within c.index_axis-column.ensures.value c.index_axis-column.ensures.whole c.index_axis.ensures.value c.index_axis.ensures.whole
    (c.rows_accumulate.ensures.exact.0 on) (c.rows_accumulate.ensures.sums on))
    k (omega (arith, lt))

pub returns-clause-exact : goal.returns-clause-exact
returns-clause-exact g c =
    let long = ap (λ l. get_or l 1 0) (c.into_pattern-n.ensures ∙ c.raw_dim.ensures.lengths) in
    says_yes _ (columns-enough g.A.Number.value g.A.Number.fits c.args.alpha c.args.beta c.args.a.now c.args.b.now c.args.c.now c.raw_dim.ensures.axes c.raw_dim-into.ensures.axes c.requires.inner c.requires.lengths
    (λ j column. c.loop-j.invariant j (omega (arith, column, long, c.loop-j-test.false))))

pub returns-clause-sums : goal.returns-clause-sums
returns-clause-sums g c =
    let long = ap (λ l. get_or l 1 0) (c.into_pattern-n.ensures ∙ c.raw_dim.ensures.lengths) in
    λ _. columns-sums g.A.Number.value g.A.Number.fits c.args.alpha c.args.beta c.args.a.now c.args.b.now c.args.c.now c.raw_dim.ensures.axes c.raw_dim-into.ensures.axes c.requires.inner c.requires.lengths
    (λ j column. c.loop-j.invariant j (omega (arith, column, long, c.loop-j-test.false)))
