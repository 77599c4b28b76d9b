use Rattle.std.proofs.Common.{◌≡◌, ◌∙◌, ap, arith, length, refl, subst, sym}
use Rattle.std.specs.Prelude.{IfOk}
use Rattle.ndarray.specs.base.Builder.{pushed_all}
use Rattle.ndarray.specs.declared.base.shape.Order.TheVariants.{RowMajor}
use Rattle.ndarray.proofs.cells.Cells.{cells-row_major}
use Rattle.ndarray.proofs.everyday.growing.push_cells.Goals as goal
use Rattle.ndarray.proofs.everyday.growing.push_cells.Goals.{After-in_order}

-- the cells that are pushed by rows are those of the view
by-rows : (g : _) (c : After-in_order g) → c.in_order.result ≡ c.args.view.now.cells
by-rows g c = c.in_order.ensures ∙ (sym (cells-row_major RowMajor c.again.result _ c.again.ensures.whole refl refl) ∙ ap (λ v. v.cells) c.again.ensures.same)

pub push_clones-requires-in-None-clause-room : goal.push_clones-requires-in-None-clause-room
push_clones-requires-in-None-clause-room g c = let many = ap length (by-rows g (goal.at.push_clones-requires-in-None-clause-room g c).After-in_order) in let room = c.requires.room in omega (arith, many, room)

pub returns-in-None-clause-pushed : goal.returns-in-None-clause-pushed
returns-in-None-clause-pushed g c = subst (λ cells. IfOk c.push_clones-in-None.result (λ _. c.push_clones-in-None.new.builder ≡ pushed_all c.args.builder.now cells)) (by-rows g (goal.at.returns-in-None-clause-pushed g c).After-in_order) c.push_clones-in-None.ensures.pushed
