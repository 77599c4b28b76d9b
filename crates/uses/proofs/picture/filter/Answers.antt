use Rattle.ndarray.proofs.Common.{◌≡◌, ◌∙◌, ◌-◌, ◌∷◌, [], List, ℕ, ap, arith, subst, sym, slice_index, valid_counts, valid_length, valid_products, InBox, int_products, int_sums, total, array_by-follows, cell-inside, double-sum, valid_counts-two}
use Rattle.uses.proofs.picture.filter.Goals as goal

pub returns-clause-pixels : goal.returns-clause-pixels
returns-clause-pixels g c =
    let h = c.in_ok-filtered.ensures.made in
    array_by-follows c.in_ok-filtered.filtered (valid_counts c.args.image.now.lengths c.args.kernel.now.lengths) (λ (ps : List ℕ). total int_sums (valid_products int_products (λ x. x) c.args.image.now c.args.kernel.now ps)) h.whole h.lengths h.cells

pub returns-clause-formula : goal.returns-clause-formula
returns-clause-formula g c =
    let filtered = c.in_ok-filtered.filtered in
    let h = c.in_ok-filtered.ensures.made in
    let image = c.args.image.now in
    let kernel = c.args.kernel.now in
    let rows = slice_index image.lengths 0 in
    let columns = slice_index image.lengths 1 in
    let n = c.into_pattern-rows.result.1 in
    let square : kernel.lengths ≡ 3 ∷ 3 ∷ [] = sym (c.into_pattern-rows.ensures ∙ c.raw_dim.ensures.lengths) ∙ (ap (λ k. k ∷ n ∷ []) (omega (arith, c.if-rows-ne3.false)) ∙ ap (λ k. 3 ∷ k ∷ []) (omega (arith, c.if-columns-ne3.false))) in
    record {
      lengths = h.lengths ∙ (ap (valid_counts image.lengths) square ∙ (valid_counts-two image.lengths 3 3 c.raw_dim-axes.ensures.axes
          ∙ (ap (λ k. k ∷ valid_length columns 3 ∷ []) (let e : valid_length rows 3 ≡ rows - 2 = omega arith in e) ∙ ap (λ k. (rows - 2) ∷ k ∷ []) (let e : valid_length columns 3 ≡ columns - 2 = omega arith in e))));
      whole = h.whole;
      pixels = λ y x z at.
          h.cells (y ∷ x ∷ []) z at
          ∙ double-sum int_sums int_products (λ v. v) image kernel 3 3 y x c.raw_dim-axes.ensures.whole c.raw_dim.ensures.whole c.raw_dim-axes.ensures.axes square (subst (λ ms. InBox ms (y ∷ x ∷ [])) h.lengths (cell-inside filtered (y ∷ x ∷ []) z at));
    }
