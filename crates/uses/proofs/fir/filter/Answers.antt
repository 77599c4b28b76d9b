use Rattle.ndarray.proofs.Common.{◌≡◌, ◌∙◌, ◌*◌, ◌∷◌, [], ap, arith, length, subst, slice_index, int_shr, valid_counts, valid_length, Grid, IsGrid, InBox, size, int_products, int_sums, one_axis-is, cell-inside, single-sum, valid_counts-one}
use Rattle.uses.proofs.fir.filter.Goals as goal

-- how many places there are
counts : {A : Type 0} (signal taps : Grid A) → length signal.lengths ≡ 1 → IsGrid signal → length taps.lengths ≡ 1 → IsGrid taps → valid_counts signal.lengths taps.lengths ≡ valid_length (length signal.cells) (length taps.cells) ∷ []
counts signal taps one_s whole_s one_t whole_t =
    ap (λ w. valid_counts signal.lengths w.lengths) (one_axis-is taps one_t whole_t)
    ∙ (valid_counts-one signal.lengths (length taps.cells) one_s ∙ ap (λ w. valid_length (slice_index w.lengths 0) (length taps.cells) ∷ []) (one_axis-is signal one_s whole_s))

pub returns-in_err-sums-clause-small : goal.returns-in_err-sums-clause-small
returns-in_err-sums-clause-small g c = λ shorter.
    let all = counts c.args.signal.now c.args.taps.now c.raw_dim.ensures.axes c.raw_dim.ensures.whole c.raw_dim-2.ensures.axes c.raw_dim-2.ensures.whole in
    let made = c.in_err-sums.ensures.empty (ap size all ∙ (let e : valid_length (length c.args.signal.now.cells) (length c.args.taps.now.cells) * 1 ≡ 0 = omega (arith, shorter) in e)) in
    absurd (cc)

pub returns-clause-samples : goal.returns-clause-samples
returns-clause-samples g c =
    let h = c.in_ok-sums.ensures.made in
    let m = c.in_ok-scaled.ensures.made in
    let signal = c.args.signal.now in
    let taps = c.args.taps.now in
    record {
      lengths = m.lengths ∙ (h.lengths ∙ counts signal taps c.raw_dim.ensures.axes c.raw_dim.ensures.whole c.raw_dim-2.ensures.axes c.raw_dim-2.ensures.whole);
      whole = m.whole;
      samples = λ p z at.
          let (x, here, given) = m.cells (p ∷ []) z at in
          given ∙ ap (λ s. int_shr s c.args.shift)
          (h.cells (p ∷ []) x here
          ∙ single-sum int_sums int_products (λ v. v) signal taps (length taps.cells) p c.raw_dim.ensures.whole c.raw_dim-2.ensures.whole c.raw_dim.ensures.axes
          (ap (λ w. w.lengths) (one_axis-is taps c.raw_dim-2.ensures.axes c.raw_dim-2.ensures.whole)) (subst (λ ms. InBox ms (p ∷ [])) h.lengths (cell-inside c.in_ok-sums.sums (p ∷ []) x here)));
    }
