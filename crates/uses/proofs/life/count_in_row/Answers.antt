use Rattle.ndarray.proofs.Common.{◌≡◌, ◌∙◌, ◌∷◌, ◌-◌, [], ℕ, zero, suc, ap, arith, refl, sym, cell}
use Rattle.uses.specs.Life.{before, living}
use Rattle.uses.proofs.life.count_in_row.Goals as goal
use Rattle.uses.proofs.life.count_in_row.Goals.{then-j-eq0, else-j-eq0}

before-none : (f : ℕ → ℕ) (n : ℕ) → n ≡ 0 → before f n ≡ 0
before-none f zero e = refl
before-none f (suc n) e = absurd (omega (arith, e))

before-some : (f : ℕ → ℕ) (n : ℕ) → (n ≡ 0 → ⊥) → before f n ≡ f (n - 1)
before-some f zero some = absurd (some refl)
before-some f (suc n) some = ap f (omega arith)

pub returns-clause-count : goal.returns-clause-count
returns-clause-count c =
    let at : ℕ → ℕ = λ k. living (cell c.args.grid.now (c.args.i ∷ k ∷ [])) in
    let left : c.if-j-eq0.left ≡ before at c.args.j = elim c.if-j-eq0.branch [
      | then-j-eq0 w ↦ w.left-is ∙ sym (before-none at c.args.j w.if-j-eq0.true)
      | else-j-eq0 w ↦ w.left-is ∙ (w.count_living-left.ensures.count ∙ sym (before-some at c.args.j w.if-j-eq0.false))
    ] in
    let own = c.count_living.ensures.count in
    let right = c.count_living-2.ensures.count in
    cc
