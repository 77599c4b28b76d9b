use Rattle.std.proofs.Common.{◌≡◌, ◌⊎◌, ◌<◌, ◌+◌, ◌*◌, ◌%◌, ◌^◌, ℕ, [], ◌∷◌, List, arith, inl, inr, sym, ap, subst, ◌∙◌, length, get_or, set, length-set, get_or-set_other, get_or-set_same}
use Rattle.std.proofs.lemmas.Bool.{cases_lt}
use Rattle.std.proofs.lemmas.List.{length-replicate}
use Rattle.ndarray.specs.Subviews.{window_count, window_counts}
use Rattle.ndarray.proofs.lists.Prefixes.{IsFilledTo-none, IsFilledTo-more, IsFilledTo-all}
use Rattle.ndarray.proofs.boxes.Sizes.{nonzero-one_of, size-le}
use Rattle.ndarray.proofs.pieces.Windows.{length-window_counts, get_or-window_counts}
use Rattle.ndarray.proofs.subviews.positions.window_positions.Goals as goal
use Rattle.ndarray.proofs.subviews.positions.window_positions.Goals.{then-windows-eq0, else-windows-eq0}

-- one more distance is written
more : (cs bs ss ds es : List ℕ) (k d : ℕ) → k < length ds → es ≡ set ds k d → ((j : ℕ) → j < k → (get_or cs j 0 ≡ 0) ⊎ (get_or ds j 0 ≡ (get_or bs j 0 * get_or ss j 0) % 2 ^ 64)) → (get_or cs k 0 ≡ 0) ⊎ (d ≡ (get_or bs k 0 * get_or ss k 0) % 2 ^ 64) → (j : ℕ) → j < k + 1 → (get_or cs j 0 ≡ 0) ⊎ (get_or es j 0 ≡ (get_or bs j 0 * get_or ss j 0) % 2 ^ 64)
more cs bs ss ds es k d lt e so_far here j below =
    elim (cases_lt j k) [
      | inl less ↦ elim (so_far j less) [ inl z ↦ inl z | inr q ↦ inr (ap (λ xs. get_or xs j 0) e ∙ (get_or-set_other ds k j d 0 (λ same. omega arith) ∙ q)) ]
      | inr least ↦ (
          let same : k ≡ j = omega arith in
          subst (λ i. (get_or cs i 0 ≡ 0) ⊎ (get_or es i 0 ≡ (get_or bs i 0 * get_or ss i 0) % 2 ^ 64)) same
          (elim here [ inl z ↦ inl z | inr q ↦ inr (ap (λ xs. get_or xs k 0) e ∙ (get_or-set_same ds k d 0 lt ∙ q)) ]))
    ]

pub loop-k-init : goal.loop-k-init
loop-k-init g c =
    let ns = g.D.Lengths.numbers c.args.layout.now.dim in
    let l = length-window_counts ns (g.D.Lengths.numbers c.args.window.now) (g.D.Lengths.numbers c.args.steps.now) c.requires.window c.requires.steps.as_many in
    let zd = ap length c.zeros-dim.ensures in
    let zs = ap length c.zeros-strides.ensures in
    record {
      counted = IsFilledTo-none _ _ (grind (arith, length-replicate));
      as_many = grind (arith, length-replicate);
      distances = λ j lt. absurd (omega arith);
    }

pub count-windows-requires-clause-fits : goal.count-windows-requires-clause-fits
count-windows-requires-clause-fits g c =
    let ns = g.D.Lengths.numbers c.args.layout.now.dim in
    let one = nonzero-one_of ns c.loop-k.k (omega arith) in
    let s = size-le (get_or ns c.loop-k.k 0 ∷ []) in
    let limit = c.requires.limit in
    let e = c.axis.ensures in
    omega arith

pub set_axis-requires : goal.set_axis-requires
set_axis-requires g c =
    let l = length-window_counts (g.D.Lengths.numbers c.args.layout.now.dim) (g.D.Lengths.numbers c.args.window.now) (g.D.Lengths.numbers c.args.steps.now) c.requires.window c.requires.steps.as_many in
    let f = c.loop-k.invariant.counted.as_long in
    omega arith

pub loop-k-preserved : goal.loop-k-preserved
loop-k-preserved g c =
    let ns = g.D.Lengths.numbers c.args.layout.now.dim in
    let ws = g.D.Lengths.numbers c.args.window.now in
    let ss = g.D.Lengths.numbers c.args.steps.now in
    let k = c.loop-k.k in
    let i = c.loop-k.invariant in
    let l = length-window_counts ns ws ss c.requires.window c.requires.steps.as_many in
    let lt : k < length ns = omega arith in
    let here : get_or (window_counts ns ws ss) k 0 ≡ c.count-windows.result =
    get_or-window_counts ns ws ss k c.requires.window c.requires.steps.as_many lt
    ∙ (ap (λ x. window_count x (get_or ws k 0) (get_or ss k 0)) (sym c.axis.ensures)
    ∙ (ap (λ x. window_count c.axis.result x (get_or ss k 0)) (sym c.axis-in-loop-k.ensures)
    ∙ (ap (λ x. window_count c.axis.result c.axis-in-loop-k.result x) (sym c.axis-step.ensures) ∙ sym c.count-windows.ensures))) in
    record {
      counted = IsFilledTo-more _ _ _ _ _ 0 i.counted (omega arith) c.set_axis.ensures here;
      as_many = ap length c.set_axis-in-loop-k.ensures ∙ (length-set (g.D.Lengths.numbers c.loop-k.strides) k c.if-windows-eq0.distance ∙ i.as_many);
      distances = more (window_counts ns ws ss) _ ss (g.D.Lengths.numbers c.loop-k.strides) _ k c.if-windows-eq0.distance (omega (arith, i.as_many)) c.set_axis-in-loop-k.ensures i.distances
          (elim c.if-windows-eq0.branch [
            | then-windows-eq0 w ↦ inl (here ∙ w.if-windows-eq0.true)
            | else-windows-eq0 w ↦ inr (w.distance-is ∙ (ap (λ x. (x * c.axis-step.result) % 2 ^ 64) w.axis-else-windows-eq0.ensures ∙ ap (λ x. (get_or (g.D.Lengths.numbers c.args.layout.now.strides) k 0 * x) % 2 ^ 64) c.axis-step.ensures))
          ]);
    }

pub returns-clause-dim : goal.returns-clause-dim
returns-clause-dim g c =
    let l = length-window_counts (g.D.Lengths.numbers c.args.layout.now.dim) (g.D.Lengths.numbers c.args.window.now) (g.D.Lengths.numbers c.args.steps.now) c.requires.window c.requires.steps.as_many in
    IsFilledTo-all _ _ _ c.loop-k.invariant.counted (omega arith)

pub returns-clause-strides : goal.returns-clause-strides
returns-clause-strides g c =
    let l = length-window_counts (g.D.Lengths.numbers c.args.layout.now.dim) (g.D.Lengths.numbers c.args.window.now) (g.D.Lengths.numbers c.args.steps.now) c.requires.window c.requires.steps.as_many in
    let i = c.loop-k.invariant in
    let e = returns-clause-dim g c in
    record {
      as_many = let le = ap length e in omega (arith, i.as_many);
      each = λ k lt. let le = ap length e in elim (i.distances k (omega arith)) [ inl z ↦ inl (ap (λ xs. get_or xs k 0) e ∙ z) | inr q ↦ inr q ];
    }
