use Rattle.std.proofs.Common.{◌≡◌, ◌∙◌, ◌∷◌, [], ap, arith, get_or, length, sym}
use Rattle.ndarray.specs.Index.{size}
use Rattle.ndarray.proofs.lists.Decisions.{says_no, says_yes}
use Rattle.ndarray.proofs.reduce.range_tests.cells_in_pairs.Goals as goal
use Rattle.ndarray.proofs.reduce.range_tests.cells_in_pairs.Goals.{Else-n-m}

same : (g : _) (c : Else-n-m g) → c.args.x.lengths ≡ c.args.y.lengths
same g c = sym (c.into_pattern-n.ensures ∙ c.raw_dim.ensures.lengths) ∙ (ap (λ k. k ∷ []) (omega (arith, c.if-n-m.false)) ∙ (c.into_pattern-m.ensures ∙ c.raw_dim-2.ensures.lengths))

pub returns-then-n-m-clause-same : goal.returns-then-n-m-clause-same
returns-then-n-m-clause-same g c =
    says_no _ (λ h.
    let equal = c.into_pattern-n.ensures ∙ (c.raw_dim.ensures.lengths ∙ (h ∙ sym (c.into_pattern-m.ensures ∙ c.raw_dim-2.ensures.lengths))) in
    c.if-n-m.true (ap (λ l. get_or l 0 0) equal))

pub returns-clause-same : goal.returns-clause-same
returns-clause-same g c = says_yes _ (same g (goal.at.returns-clause-same g c).Else-n-m)

pub returns-clause-many : goal.returns-clause-many
returns-clause-many g c =
    let left : length c.cells_of.result ≡ size c.args.x.lengths = ap length c.cells_of.ensures ∙ c.raw_dim.ensures.whole in
    let right : length c.cells_of-2.result ≡ size c.args.y.lengths = ap length c.cells_of-2.ensures ∙ c.raw_dim-2.ensures.whole in
    left ∙ (ap size (same g (goal.at.returns-clause-many g c).Else-n-m) ∙ sym right)
