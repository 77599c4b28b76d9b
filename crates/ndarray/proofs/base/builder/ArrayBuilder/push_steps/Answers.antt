use Rattle.std.proofs.Common.{◌≡◌, ◌<◌, ◌≤◌, ◌∙◌, ℕ, ◌∷◌, ◌+◌, [], ap, sym, arith, length, suc}
use Rattle.std.proofs.lemmas.List.{length-append}
use Rattle.ndarray.specs.Index.{size}
use Rattle.ndarray.specs.base.Builder.{pushed_all}
use Rattle.ndarray.proofs.joining.Blocks.{pushed-front, pushed-length, pushed-one}
use Rattle.ndarray.proofs.base.builder.ArrayBuilder.push_steps.Goals as goal

-- of the numbers of cells alone: pushed so far, still to come, pushed before, in all
none-left : (a l s t n m : ℕ) → a + l ≡ s + t → t ≡ n → l ≡ suc m → s ≤ a → n ≡ 0 → ⊥
none-left a l s t n m all start one grown none = omega arith

has-room : (a l s t n m z w : ℕ) → a + l ≡ s + t → t ≡ n → l ≡ suc m → z ≡ w → s + n ≤ w → a < z
has-room a l s t n m z w all start one same room = omega arith

grown-by : (s a b k : ℕ) → s ≤ a → b ≡ a + k → s ≤ b
grown-by s a b k grown more = omega arith

pub returns-in_err-clone-clause-none : goal.returns-in_err-clone-clause-none
returns-in_err-clone-clause-none g c = λ none.
    let i = c.loop-cell.invariant in
    let all : length c.loop-cell.self.cells + length c.loop-cell.cell-iterator ≡ length c.args.self.now.cells + length c.into_iter-cell-iterator.result = pushed-length _ _ _ _ i.pushed in
    let start : length c.into_iter-cell-iterator.result ≡ length c.args.cells = ap length c.into_iter-cell-iterator.ensures.into_iter_gives in
    let one : length c.loop-cell.cell-iterator ≡ suc (length c.next.new.self) = ap length c.in-Some.ensures.steps in
    absurd (none-left _ _ _ _ _ _ all start one i.grown none)

pub returns-in_err-clone-clause-front : goal.returns-in_err-clone-clause-front
returns-in_err-clone-clause-front g c = pushed-front _ _ _ _ c.loop-cell.invariant.pushed c.loop-cell.invariant.grown

pub push-requires : goal.push-requires
push-requires g c =
    let i = c.loop-cell.invariant in
    let all : length c.loop-cell.self.cells + length c.loop-cell.cell-iterator ≡ length c.args.self.now.cells + length c.into_iter-cell-iterator.result = pushed-length _ _ _ _ i.pushed in
    let start : length c.into_iter-cell-iterator.result ≡ length c.args.cells = ap length c.into_iter-cell-iterator.ensures.into_iter_gives in
    let one : length c.loop-cell.cell-iterator ≡ suc (length c.next.new.self) = ap length c.in-Some.ensures.steps in
    let same : size c.loop-cell.self.lengths ≡ size c.args.self.now.lengths = ap (λ p. size p.lengths) i.pushed in
    has-room _ _ _ _ _ _ _ _ all start one same c.requires.room

pub loop-cell-preserved : goal.loop-cell-preserved
loop-cell-preserved g c =
    let i = c.loop-cell.invariant in
    let p = c.loop-cell.self in
    let more = ap (λ q. length q.cells) c.push.ensures in
    let one = length-append p.cells (c.in_ok-clone.field-0 ∷ []) in
    record {
      pushed =
          ap (λ q. pushed_all q c.next.new.self) c.push.ensures
          ∙ (pushed-one p c.in_ok-clone.field-0 c.next.new.self
          ∙ (ap (λ x. pushed_all p (x ∷ c.next.new.self)) (c.requires.clones _ _ c.in_ok-clone.ensures.cases)
          ∙ (ap (pushed_all p) (sym c.in-Some.ensures.steps) ∙ i.pushed)));
      grown = grown-by _ _ _ _ i.grown (more ∙ one);
    }
