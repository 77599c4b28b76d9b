use Rattle.std.proofs.Common.{◌≡◌, ◌∙◌, ◌↔◌, ◌+◌, ◌++◌, ◌-◌, ◌<◌, ◌≢◌, ℕ, List, [], ◌∷◌, Err, Option, Result, Some, ap, arith, drop, false, get_or, insert, length, refl, set, subst, sym, take, true}
use Rattle.std.specs.Prelude.{◌&&◌}
use Rattle.std.proofs.lemmas.List.{length-append, length-drop, length-set, length-take}
use Rattle.std.proofs.lemmas.Result.{IfOk-weaker}
use Rattle.ndarray.specs.Errors.{shape_error}
use Rattle.ndarray.specs.Grid.{grid}
use Rattle.ndarray.specs.Joining.{concatenate_error, is_same_but_along}
use Rattle.ndarray.specs.Views.{axis_inserted}
use Rattle.ndarray.specs.declared.base.error.ErrorKind.{ErrorKind}
use Rattle.ndarray.specs.declared.base.error.ErrorKind.TheVariants.{IncompatibleShape}
use Rattle.ndarray.specs.declared.base.error.ShapeError.{ShapeError}
use Rattle.ndarray.specs.declared.stacking.error.StackError.{StackError}
use Rattle.ndarray.specs.declared.stacking.error.StackError.TheVariants.{Shape}
use Rattle.ndarray.proofs.joining.Appended.{inserted-first}
use Rattle.ndarray.proofs.joining.Errors.{concatenate-differs}
use Rattle.ndarray.proofs.lists.CellLookup.{same_index-false}
use Rattle.ndarray.proofs.everyday.growing.Array+A+D.push.Goals as goal

-- an item with another number of axes than the items along an axis have
differs : (k : ℕ) (ns ms : List ℕ) → k < length ns → length ms ≢ length ns - 1 → concatenate_error k (ns ∷ insert ms k 1 ∷ []) ≡ Some IncompatibleShape
differs k ns ms below other =
    let item : List ℕ = insert ms k 1 in
    let long : length item ≡ length ms + 1 = (let a = length-append (take k ms) (1 ∷ drop k ms) in let b = length-take k ms in let d = length-drop k ms in omega (arith, a, b, d)) in
    let kept = length-set item k (get_or ns k 0) in
    let no_match : is_same_but_along k ns item ≡ false = same_index-false ns (set item k (get_or ns k 0)) (λ e. let l = ap length e in other (omega (arith, l, kept, long, below))) in
    concatenate-differs {A = ℕ} k (grid ns [] ∷ grid item [] ∷ []) (grid ns []) (grid item [] ∷ []) refl below (ap (λ b. b && true) no_match)

-- an error of a kind, where that kind is the one of the shapes
of-kind : (made : StackError) (error : ShapeError) (kind : ErrorKind) (reason : Option ErrorKind) → made ≡ Shape error → error.kind ≡ kind → reason ≡ Some kind
    → (k : ErrorKind) → (◌≡◌ {A = Result (Unit {0}) StackError} (Err made) (Err (Shape (shape_error k)))) ↔ (reason ≡ Some k)
of-kind made error kind reason e f why k = (
  λ h.
      let same : error ≡ shape_error k = (let both : Shape error ≡ Shape (shape_error k) = (let m : made ≡ Shape (shape_error k) = cc in sym e ∙ m) in cc) in
      why ∙ ap Some (sym f ∙ ap (λ x. x.kind) same),
  λ h.
      let same : kind ≡ k = (let both = sym why ∙ h in cc) in
      ap Err (e ∙ ap (λ x. Shape (shape_error x)) (f ∙ same)),
)

pub returns-then-ndim-clause-errors : goal.returns-then-ndim-clause-errors
returns-then-ndim-clause-errors g c =
    let axes = c.ndim-ndim.ensures.value in
    let own = c.ndim.ensures.value in
    of-kind _ _ IncompatibleShape _ c.from-then-ndim.ensures (ap (λ e. e.kind) c.from_kind-then-ndim.ensures)
    (differs c.args.axis.0 c.args.self.now.lengths c.args.item.lengths (let b = c.if-axis-ndim.false in omega (arith, b, axes)) (λ e. c.if-ndim.true (own ∙ (e ∙ ap (λ n. n - 1) (sym axes)))))

pub returns-then-ndim-clause-empty : goal.returns-then-ndim-clause-empty
returns-then-ndim-clause-empty g c = λ none some.
    let axes = c.ndim-ndim.ensures.value in
    let own = c.ndim.ensures.value in
    let why = differs c.args.axis.0 c.args.self.now.lengths c.args.item.lengths (let b = c.if-axis-ndim.false in omega (arith, b, axes)) (λ e. c.if-ndim.true (own ∙ (e ∙ ap (λ n. n - 1) (sym axes)))) in
    absurd (let both = sym why ∙ none in cc)

pub returns-clause-errors : goal.returns-clause-errors
returns-clause-errors g c = subst (λ v. (k : ErrorKind) → (c.append.result ≡ Err (Shape (shape_error k))) ↔ (concatenate_error c.args.axis.0 (c.args.self.now.lengths ∷ v.lengths ∷ []) ≡ Some k)) c.with_axis.ensures.value c.append.ensures.errors

pub returns-clause-first_axis : goal.returns-clause-first_axis
returns-clause-first_axis g c = λ zero.
    IfOk-weaker c.append.result _ _
    (λ _ cells. cells ∙ ap (λ xs. c.args.self.now.cells ++ xs) (inserted-first c.args.item c.with_axis.result c.raw_dim-whole.ensures.whole (c.with_axis.ensures.value ∙ ap (axis_inserted c.args.item) zero)))
    (c.append.ensures.first_axis zero)
