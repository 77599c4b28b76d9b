use Rattle.ndarray.proofs.zip.walk.walk_row.Goals as goal

pub flat_row-requires-clause-form : goal.flat_row-requires-clause-form
flat_row-requires-clause-form g c = let (p, (is, (form, _))) = c.requires in (p, (is, form))

pub walk_run-requires-clause-can : goal.walk_run-requires-clause-can
walk_run-requires-clause-can g c = let (p, (is, (form, may))) = c.requires in (p, (is, (c.flat_row.ensures.gives p is form, may)))

pub run_row-requires : goal.run_row-requires
run_row-requires g c = let (p, (is, (form, _))) = c.requires in (p, (is, form))

pub walk_run-requires-else-is_flat_row-clause-can : goal.walk_run-requires-else-is_flat_row-clause-can
walk_run-requires-else-is_flat_row-clause-can g c = let (p, (is, (form, may))) = c.requires in (p, (is, (c.run_row.ensures.gives p is form, may)))

pub returns-then-is_flat_row : goal.returns-then-is_flat_row
returns-then-is_flat_row g c = λ p is form. c.walk_run.ensures.ran p is (c.flat_row.ensures.gives p is form)

pub returns-else-is_flat_row : goal.returns-else-is_flat_row
returns-else-is_flat_row g c = λ p is form. c.walk_run-else-is_flat_row.ensures.ran p is (c.run_row.ensures.gives p is form)
