use Rattle.std.proofs.Common.{◌≡◌, ◌↔◌, false, map, subst, sym}
use Rattle.std.specs.Option.{is_some}
use Rattle.std.specs.Prelude.{IfSome, IsTrue}
use Rattle.ndarray.specs.Integers.{int_sums, negative_sum, positive_sum}
use Rattle.ndarray.specs.Sums.{IsSummableBy, total_by}
use Rattle.ndarray.proofs.lists.Decisions.{says_no}
use Rattle.ndarray.proofs.sums.IntegerSelections.{tells_summable_by}
use Rattle.ndarray.proofs.sums.Selections.{total_by-map}
use Rattle.ndarray.proofs.sums.SignedSums.{checked-both}
use Rattle.ndarray.proofs.base.array.ArrayBase.checked_sum.Goals as goal
use Rattle.ndarray.proofs.base.array.ArrayBase.checked_sum.Goals.{After-checked_add}

-- the sum of both sums is that of all cells, where the type has it
both : (g : _) (c : After-checked_add g)
    → (IsTrue (is_some c.checked_add.result) ↔ (g.A.Number.fits (positive_sum (map g.A.Number.value c.view.result.cells)) × g.A.Number.fits (negative_sum (map g.A.Number.value c.view.result.cells))))
    × IfSome c.checked_add.result (λ s. g.A.Number.value s ≡ total_by int_sums (λ z. z) (map g.A.Number.value c.view.result.cells))
both g c =
    let v = g.A.Number.value in
    checked-both v g.A.Number.fits (map v c.view.result.cells) (v c.in-Some.sums.up) (v c.in-Some.sums.down) c.checked_add.result (λ x y z. g.A.Number.between_law x y z g.met.A.Integral.exact_law) c.in-Some.ensures
    (g.met.A.CheckedAdd.checked_add_law c.in-Some.sums.up c.in-Some.sums.down c.checked_add.result c.checked_add.ensures)

pub returns-in_default-clause-selections : goal.returns-in_default-clause-selections
returns-in_default-clause-selections g c =
    let v = g.A.Number.value in
    let no = says_no (g.A.Number.fits (positive_sum (map v c.view.result.cells)) × g.A.Number.fits (negative_sum (map v c.view.result.cells))) c.in_default.ensures in
    subst (λ a. IsTrue false ↔ IsSummableBy int_sums g.A.Number.fits v a.cells) c.view.ensures.same
    (tells_summable_by g.A.Number.fits (λ x y z. g.A.Number.between_law x y z g.met.A.Integral.exact_law) v c.view.result.cells false no)

pub returns-clause-selections : goal.returns-clause-selections
returns-clause-selections g c =
    subst (λ a. IsTrue (is_some c.checked_add.result) ↔ IsSummableBy int_sums g.A.Number.fits g.A.Number.value a.cells) c.view.ensures.same
    (tells_summable_by g.A.Number.fits (λ x y z. g.A.Number.between_law x y z g.met.A.Integral.exact_law) g.A.Number.value c.view.result.cells (is_some c.checked_add.result) (both g (goal.at.returns-clause-selections g c).After-checked_add).0)

pub returns-clause-bounds : goal.returns-clause-bounds
returns-clause-bounds g c =
    let v = g.A.Number.value in
    subst (λ a. IsTrue (is_some c.checked_add.result) ↔ (g.A.Number.fits (positive_sum (map v a.cells)) × g.A.Number.fits (negative_sum (map v a.cells)))) c.view.ensures.same (both g (goal.at.returns-clause-bounds g c).After-checked_add).0

pub returns-clause-sum : goal.returns-clause-sum
returns-clause-sum g c =
    let v = g.A.Number.value in
    subst (λ t. IfSome c.checked_add.result (λ s. v s ≡ t)) (sym (total_by-map int_sums v c.args.self.now.cells))
    (subst (λ a. IfSome c.checked_add.result (λ s. v s ≡ total_by int_sums (λ z. z) (map v a.cells))) c.view.ensures.same (both g (goal.at.returns-clause-sum g c).After-checked_add).1)
