use Rattle.std.proofs.Common.{◌≡◌, ◌∙◌, ◌++◌, ℕ, List, [], ◌∷◌, None, Err, IfErr, Ok, Result, ap, arith, subst, swap, sym}
use Rattle.ndarray.specs.Grid.{Grid, IsGrid, grid}
use Rattle.ndarray.specs.Index.{size}
use Rattle.ndarray.specs.Joining.{concatenate_error, concatenation, concatenation_lengths}
use Rattle.ndarray.specs.Limits.{IsWithinLimit}
use Rattle.ndarray.specs.Views.{axes_swapped}
use Rattle.ndarray.proofs.joining.Appended.{all-long, appended-cells, appended-is, appended-limit, appended-many, appended-none, below, below-other, swapped-back}
use Rattle.ndarray.proofs.views.Swaps.{size-swap_none}
use Rattle.ndarray.proofs.everyday.growing.Array+A+D.append.Goals as goal

-- what holds whatever the error
always-err : {X E : Type 0} (r : Result X E) (P : Type 0) → P → IfErr r (λ _. P)
always-err (Ok x) P p = tt
always-err (Err e) P p = p

module _ {A : Type 0} (k : ℕ) (a b : Grid A) (ns ms : List ℕ) (first : ns ≡ a.lengths) (second : ms ≡ b.lengths) where
  -- no error of shapes
  none : concatenate_error k (ns ∷ ms ∷ []) ≡ None → concatenate_error k (a.lengths ∷ b.lengths ∷ []) ≡ None
  none e = ap (λ ls. concatenate_error k (ls ∷ b.lengths ∷ [])) (sym first) ∙ (ap (λ ls. concatenate_error k (ns ∷ ls ∷ [])) (sym second) ∙ e)

  -- the lengths of the result, with the axis exchanged with the first one
  exchanged : (ds es : List ℕ) → ds ≡ concatenation_lengths k (ns ∷ ms ∷ []) → es ≡ swap ds 0 k → es ≡ swap (concatenation_lengths k (a.lengths ∷ b.lengths ∷ [])) 0 k
  exchanged ds es d e =
      e
      ∙ ap (λ ls. swap ls 0 k)
      (d ∙ (ap (λ ls. concatenation_lengths k (ls ∷ ms ∷ [])) first ∙ ap (λ ls. concatenation_lengths k (a.lengths ∷ ls ∷ [])) second))

-- along axis 0 the cells of one are behind those of the other
on-first_axis : {A : Type 0} (k : ℕ) (a b r : Grid A) → IsGrid a → IsGrid b → concatenate_error k (a.lengths ∷ b.lengths ∷ []) ≡ None → r ≡ concatenation k (a ∷ b ∷ []) → k ≡ 0 → r.cells ≡ a.cells ++ b.cells
on-first_axis k a b r whole_a whole_b none e zero =
    ap (λ v. v.cells) e
    ∙ (ap (λ j. (concatenation j (a ∷ b ∷ [])).cells) zero ∙ appended-cells a b whole_a whole_b (subst (λ j. concatenate_error j (a.lengths ∷ b.lengths ∷ []) ≡ None) zero none))

pub len_of-requires : goal.len_of-requires
len_of-requires g c =
    let allowed = none c.args.axis.0 c.args.self.now c.args.other _ _ c.raw_dim.ensures.lengths c.raw_dim-2.ensures.lengths c.in_ok-joined.ensures.none in
    below-other c.args.axis.0 c.args.self.now c.args.other c.raw_dim.ensures.whole c.raw_dim-2.ensures.whole allowed

pub returns-then-len_of-eq0-clause-value : goal.returns-then-len_of-eq0-clause-value
returns-then-len_of-eq0-clause-value g c =
    let allowed = none c.args.axis.0 c.args.self.now c.args.other _ _ c.raw_dim.ensures.lengths c.raw_dim-2.ensures.lengths c.in_ok-joined.ensures.none in
    sym (appended-none c.args.axis.0 c.args.self.now c.args.other c.raw_dim.ensures.whole c.raw_dim-2.ensures.whole allowed (sym c.len_of.ensures.value ∙ c.if-len_of-eq0.true))

pub returns-then-len_of-eq0-clause-first_axis : goal.returns-then-len_of-eq0-clause-first_axis
returns-then-len_of-eq0-clause-first_axis g c =
    let allowed = none c.args.axis.0 c.args.self.now c.args.other _ _ c.raw_dim.ensures.lengths c.raw_dim-2.ensures.lengths c.in_ok-joined.ensures.none in
    on-first_axis c.args.axis.0 c.args.self.now c.args.other c.args.self.now c.raw_dim.ensures.whole c.raw_dim-2.ensures.whole allowed (returns-then-len_of-eq0-clause-value g c)

pub replace_with-grown-requires : goal.replace_with-grown-requires
replace_with-grown-requires g c =
    let k = c.args.axis.0 in
    let a = c.args.self.now in
    let b = c.args.other in
    let s = c.swap_axes-2.new.self in
    let t = c.swap_axes.new.self in
    let allowed = none k a b _ _ c.raw_dim.ensures.lengths c.raw_dim-2.ensures.lengths c.in_ok-joined.ensures.none in
    let dims = exchanged k a b _ _ c.raw_dim.ensures.lengths c.raw_dim-2.ensures.lengths _ _ c.in_ok-joined.ensures.lengths c.exchanged-dim.ensures in (
      c.requires.clones,
      (
        subst IsWithinLimit (sym dims) (appended-limit k a b c.raw_dim.ensures.whole c.raw_dim-2.ensures.whole allowed s t c.swap_axes-2.ensures.value c.swap_axes.ensures.value c.swap_axes-2.ensures.whole c.swap_axes.ensures.whole),
        appended-many k a b c.raw_dim.ensures.whole c.raw_dim-2.ensures.whole allowed s t c.swap_axes-2.ensures.value c.swap_axes.ensures.value c.swap_axes-2.ensures.whole c.swap_axes.ensures.whole ∙ ap size (sym dims),
      ),
    )

pub returns-in_err-grown-clause-kept : goal.returns-in_err-grown-clause-kept
returns-in_err-grown-clause-kept g c =
    let k = c.args.axis.0 in
    let a = c.args.self.now in
    let allowed = none k a c.args.other _ _ c.raw_dim.ensures.lengths c.raw_dim-2.ensures.lengths c.in_ok-joined.ensures.none in
    let fits = below k a c.args.other c.raw_dim.ensures.whole c.raw_dim-2.ensures.whole allowed in
    always-err c.from_residual-in_err-grown.result (c.swap_axes-3.new.self ≡ a)
    (swapped-back a c.swap_axes-2.new.self c.swap_axes-3.new.self 0 k (omega (arith, fits)) fits c.raw_dim.ensures.whole c.swap_axes-2.ensures.value c.swap_axes-2.ensures.whole
    (c.swap_axes-3.ensures.value ∙ ap (λ v. axes_swapped v 0 k) c.in_err-grown.ensures.1.0) c.swap_axes-3.ensures.whole)

pub returns-in_err-grown-clause-empty : goal.returns-in_err-grown-clause-empty
returns-in_err-grown-clause-empty g c allowed none_left =
    let k = c.args.axis.0 in
    let a = c.args.self.now in
    let b = c.args.other in
    let fits = below k a b c.raw_dim.ensures.whole c.raw_dim-2.ensures.whole allowed in
    let long = all-long k a b c.raw_dim.ensures.whole c.raw_dim-2.ensures.whole allowed in
    let dims = exchanged k a b _ _ c.raw_dim.ensures.lengths c.raw_dim-2.ensures.lengths _ _ c.in_ok-joined.ensures.lengths c.exchanged-dim.ensures in
    absurd (let ok = c.in_err-grown.ensures.1.1.1 (ap size dims ∙ size-swap_none _ 0 k (omega (arith, fits, long)) (omega (arith, fits, long)) none_left) in cc)

pub returns-clause-value : goal.returns-clause-value
returns-clause-value g c =
    let k = c.args.axis.0 in
    let a = c.args.self.now in
    let b = c.args.other in
    let s = c.swap_axes-2.new.self in
    let t = c.swap_axes.new.self in
    let allowed = none k a b _ _ c.raw_dim.ensures.lengths c.raw_dim-2.ensures.lengths c.in_ok-joined.ensures.none in
    let dims = exchanged k a b _ _ c.raw_dim.ensures.lengths c.raw_dim-2.ensures.lengths _ _ c.in_ok-joined.ensures.lengths c.exchanged-dim.ensures in
    appended-is k a b c.raw_dim.ensures.whole c.raw_dim-2.ensures.whole allowed s t c.swap_axes-2.ensures.value c.swap_axes.ensures.value c.swap_axes-2.ensures.whole c.swap_axes.ensures.whole c.swap_axes-3.new.self
    (c.swap_axes-3.ensures.value ∙ ap (λ v. axes_swapped v 0 k) (c.in_ok-grown.ensures.0 ∙ ap (λ ls. grid ls (s.cells ++ t.cells)) dims)) c.swap_axes-3.ensures.whole

pub returns-clause-first_axis : goal.returns-clause-first_axis
returns-clause-first_axis g c =
    let allowed = none c.args.axis.0 c.args.self.now c.args.other _ _ c.raw_dim.ensures.lengths c.raw_dim-2.ensures.lengths c.in_ok-joined.ensures.none in
    on-first_axis c.args.axis.0 c.args.self.now c.args.other c.swap_axes-3.new.self c.raw_dim.ensures.whole c.raw_dim-2.ensures.whole allowed (returns-clause-value g c)
