use Rattle.ndarray.proofs.Common.{rules, ◌≡◌, ◌∙◌, ◌∷◌, ◌++◌, ◌≤◌, ◌<◌, ◌-◌, ◌^◌, [], ℕ, ℤ, List, None, ap, arith, drop, get_or, length, take, Err, All-cons, All-nil, Grid, one_axis, concatenate_error, axis_part, only-memory, two-joined, vectors-join, first-cells, part-lengths, rest-cells}
use Rattle.ndarray.specs.declared.stacking.error.StackError.TheVariants.{Memory}
use Rattle.std.specs.declared.alloc.AllocError.{AllocError}
use Rattle.ndarray_examples.proofs.exchange_halves.Goals as goal

-- the two parts of a vector can be joined
parts-join : (v rest first : Grid ℤ) → length v.lengths ≡ 1 → get_or v.lengths 0 0 < 2 ^ 63 → (k : ℕ) → k ≤ get_or v.lengths 0 0 → rest ≡ axis_part v 0 k (get_or v.lengths 0 0) → first ≡ axis_part v 0 0 k
    → concatenate_error 0 (rest.lengths ∷ first.lengths ∷ []) ≡ None
parts-join v rest first one fits k le e f =
    let n = get_or v.lengths 0 0 in
    let r : rest.lengths ≡ (n - k) ∷ [] = ap (λ h. h.lengths) e ∙ part-lengths v one k n in
    let s : first.lengths ≡ (k - 0) ∷ [] = ap (λ h. h.lengths) f ∙ part-lengths v one 0 k in
    let P : List ℕ → Type 0 = λ ns. length ns ≡ 1 in
    let long = ap (λ ns. get_or ns 0 0) r in
    let long_first = ap (λ ns. get_or ns 0 0) s in
    vectors-join (rest.lengths ∷ first.lengths ∷ []) (omega arith) (All-cons P rest.lengths (first.lengths ∷ []) (ap length r) (All-cons P first.lengths [] (ap length s) (All-nil P))) (omega (arith, long, long_first, le, fits))

pub returns-clause-cells : goal.returns-clause-cells
returns-clause-cells g c =
    let k = c.args.k in
    let v = c.view-x.result in
    let one : length v.lengths ≡ 1 = ap (λ h. length h.lengths) c.view-x.ensures.same ∙ c.view-x.ensures.axes in
    let whole = c.view-x.ensures.whole in
    let le : k ≤ get_or v.lengths 0 0 = omega (arith, c.len_of.ensures.value, c.if-len_of-k.false) in
    let fits : get_or v.lengths 0 0 < 2 ^ 63 = omega (arith, c.len_of.ensures.value, c.len_of.ensures.fits) in
    let parts = c.split_at-first.ensures in
    let first = c.split_at-first.result.0 in
    let rest = c.split_at-first.result.1 in
    let made = c.in_ok-exchanged.ensures in
    two-joined rest first c.in_ok-exchanged.exchanged parts.second_whole parts.first_whole (parts-join v rest first one fits k le parts.second parts.first) made.cells made.axes made.whole
    ∙ ap one_axis
    (ap (λ xs. xs ++ first.cells) (ap (λ h. h.cells) parts.second ∙ rest-cells v one whole k le)
    ∙ (ap (λ xs. drop k v.cells ++ xs) (ap (λ h. h.cells) parts.first ∙ first-cells v one whole k le) ∙ ap (λ h. drop k h.cells ++ take k h.cells) c.view-x.ensures.same))

pub returns-in_err-exchanged-clause-memory : goal.returns-in_err-exchanged-clause-memory
returns-in_err-exchanged-clause-memory g c =
    let k = c.args.k in
    let v = c.view-x.result in
    let one : length v.lengths ≡ 1 = ap (λ h. length h.lengths) c.view-x.ensures.same ∙ c.view-x.ensures.axes in
    let le : k ≤ get_or v.lengths 0 0 = omega (arith, c.len_of.ensures.value, c.if-len_of-k.false) in
    let fits : get_or v.lengths 0 0 < 2 ^ 63 = omega (arith, c.len_of.ensures.value, c.len_of.ensures.fits) in
    let parts = c.split_at-first.ensures in
    let none = parts-join v c.split_at-first.result.1 c.split_at-first.result.0 one fits k le parts.second parts.first in
    let memory : (m : AllocError) × (c.in_err-exchanged.field-0.0 ≡ Memory m) = only-memory (Err c.in_err-exchanged.field-0.0) _ c.in_err-exchanged.ensures.errors none in
    search (rules, memory)
