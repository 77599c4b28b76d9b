use Rattle.ndarray.proofs.Common.{rules, ◌≡◌, ◌∙◌, ap, refl, subst, sym, zero, suc, ℕ, Bool, false≢true, Grid, IsGrid, size}
use Rattle.uses.specs.Life.{generation}
use Rattle.uses.proofs.Generations.{generation-none}
use Rattle.uses.proofs.life.after.Goals as goal

-- all generations have the grid's lengths
generation-lengths : (n : ℕ) (g : Grid Bool) → (generation n g).lengths ≡ g.lengths
generation-lengths zero g = refl
generation-lengths (suc n) g = generation-lengths n g

pub returns-then-len-eq0-clause-cells : goal.returns-then-len-eq0-clause-cells
returns-then-len-eq0-clause-cells g c =
    let same : c.in_ok-now.now ≡ c.args.grid.now = search rules in
    let none : size c.in_ok-now.now.lengths ≡ 0 = sym c.len.ensures.size ∙ c.if-len-eq0.true in
    same ∙ sym (generation-none c.args.steps c.args.grid.now (subst IsGrid same c.in_ok-now.ensures.whole) (subst (λ g. size g.lengths ≡ 0) same none))

pub returns-in_err-now-2-clause-empty : goal.returns-in_err-now-2-clause-empty
returns-in_err-now-2-clause-empty g c none =
    let lengths : c.loop.now.lengths ≡ c.args.grid.now.lengths = ap (λ v. v.lengths) c.loop.invariant ∙ generation-lengths c.loop.counter c.args.grid.now in
    absurd (false≢true (c.in_err-now-2.ensures.empty (ap size lengths ∙ none)))
