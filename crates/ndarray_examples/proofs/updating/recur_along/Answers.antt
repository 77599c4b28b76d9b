use Rattle.ndarray.proofs.Common.{rules, ◌≡◌, ◌∙◌, ◌+◌, ◌*◌, ◌%◌, ◌^◌, ℕ, ap, refl, mod-add-mod, scan-folds}
use Rattle.ndarray_examples.proofs.updating.recur_along.Goals as goal

pub returns-clause-recurrence : goal.returns-clause-recurrence
returns-clause-recurrence g c = λ t.
    scan-folds _ (λ before x. (before * c.args.factor + x) % 2 ^ 64) 0 c.args.array.now c.args.axis.0
    (λ b x r call.
    let wrapped : ◌≡◌ {A = ℕ × ℕ} r ((b * c.args.factor % 2 ^ 64 + x) % 2 ^ 64, (b * c.args.factor % 2 ^ 64 + x) % 2 ^ 64) = search (rules, call) in
    wrapped ∙ ap (λ n. (n, n)) (mod-add-mod (b * c.args.factor) (2 ^ 64) x))
    c.raw_dim-whole.ensures.whole (c.if-not-axis_ok.ensures.0 refl) c.scan_lanes.new.self c.scan_lanes.ensures
