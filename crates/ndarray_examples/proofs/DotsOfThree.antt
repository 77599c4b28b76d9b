-- Products of three arrays of numbers, of any number of axes.
use Rattle.ndarray.proofs.Common.{◌≡◌, ◌∙◌, ◌↔◌, ◌-◌, ◌≤◌, FitsSigned, ℤ, Option, None, Some, ap, arith, get_or, inl, length, refl, subst, sym, w64, IfSome, IsSome, Grid, HasValues, IsGrid, ShapesMultiply, array_by-at, array_by-follows, array_by-whole, cell-inside, dot_entries, product-last, product_lengths, i64_values}
use Rattle.ndarray.specs.DotLaws.{DotsAssociate}
use Rattle.ndarray.specs.DotRanges.{HasLaneMagnitudesInRange}
use Rattle.ndarray_examples.specs.Dots.{CanMultiply, CanMultiplyInTurn, dot_of}

made-is : (a b r : Grid ℤ) → HasValues i64_values (product_lengths a.lengths b.lengths) (dot_entries i64_values a b) r → r ≡ dot_of a b
made-is a b r h = array_by-follows r (product_lengths a.lengths b.lengths) (dot_entries i64_values a b) h.whole h.lengths h.cells

has-values : (a b : Grid ℤ) → HasValues i64_values (product_lengths a.lengths b.lengths) (dot_entries i64_values a b) (dot_of a b)
has-values a b = record {
  lengths = refl;
  whole = array_by-whole (product_lengths a.lengths b.lengths) (dot_entries i64_values a b);
  cells = λ is z here. array_by-at (product_lengths a.lengths b.lengths) (dot_entries i64_values a b) (dot_of a b) is z refl (cell-inside (dot_of a b) is z here) here;
}

in-either_turn : DotsAssociate i64_values → (a b c : Grid ℤ) → IsGrid a → IsGrid b → IsGrid c → 2 ≤ length b.lengths → length c.lengths ≡ 2 → ShapesMultiply a.lengths b.lengths → ShapesMultiply (dot_of a b).lengths c.lengths
    → dot_of (dot_of a b) c ≡ dot_of a (dot_of b c)
in-either_turn associates a b c whole_a whole_b whole_c middle right first second =
    let associate = associates a b c (dot_of a b) (dot_of b c) record {
      left_whole = whole_a;
      middle_whole = whole_b;
      right_whole = whole_c;
      some = first.left;
      axes = inl (middle, right);
      left_inner = first.inner;
      right_inner = sym (product-last a.lengths b.lengths first.left middle) ∙ (second.inner ∙ ap (λ n. get_or c.lengths (n - 2) 0) right);
    } (has-values a b) (has-values b c) in
    array_by-follows (dot_of (dot_of a b) c) (product_lengths a.lengths (dot_of b c).lengths) (dot_entries i64_values a (dot_of b c)) (array_by-whole (product_lengths (dot_of a b).lengths c.lengths) (dot_entries i64_values (dot_of a b) c)) associate.lengths
    (λ is z here.
    let inside = cell-inside (dot_of (dot_of a b) c) is z here in
    array_by-at (product_lengths (dot_of a b).lengths c.lengths) (dot_entries i64_values (dot_of a b) c) (dot_of (dot_of a b) c) is z refl inside here ∙ associate.entries is inside)

-- what `checked_dynamic_product` says of two arrays and what it gives
abbrev Fits : Grid ℤ → Grid ℤ → Type 0
Fits a b = ShapesMultiply a.lengths b.lengths × HasLaneMagnitudesInRange (λ x. x) (FitsSigned w64) a b

abbrev HasProduct : Grid ℤ → Grid ℤ → Grid ℤ → Type 0
HasProduct a b = HasValues i64_values (product_lengths a.lengths b.lengths) (dot_entries i64_values a b)

-- the product of the first two was made
pub record FirstMade (a b first : Grid ℤ) : Type 0 where
  pub can : CanMultiply a b
  pub is : first ≡ dot_of a b

pub first-made : (a b : Grid ℤ) (o : Option (Grid ℤ)) (first : Grid ℤ) → o ≡ Some first → (IsSome o ↔ Fits a b) → IfSome o (HasProduct a b) → FirstMade a b first
first-made a b o first some when product =
    let fits = (subst (λ w. IsSome w ↔ Fits a b) some when).0 refl in
    record { can = record { shapes = fits.0; fits = fits.1 }; is = made-is a b first (subst (λ w. IfSome w (HasProduct a b)) some product) }

-- and that of it and the third
module _ (a b c first : Grid ℤ) (one : FirstMade a b first) (middle : 2 ≤ length b.lengths) (right : length c.lengths ≡ 2) (o : Option (Grid ℤ)) (when : IsSome o ↔ Fits first c) where
  pub in-turn : IsSome o ↔ CanMultiplyInTurn a b c
  in-turn = (
    λ some. record { middle = middle; right = right; first = one.can; second = subst (λ w. CanMultiply w c) one.is record { shapes = (when.0 some).0; fits = (when.0 some).1 } },
    λ can. let second = subst (λ w. CanMultiply w c) (sym one.is) can.second in when.1 (second.shapes, second.fits),
  )

  pub from-left : IfSome o (HasProduct first c) → IfSome o (λ r. r ≡ dot_of (dot_of a b) c)
  from-left product = left o product
    where
      left : (w : Option (Grid ℤ)) → IfSome w (HasProduct first c) → IfSome w (λ r. r ≡ dot_of (dot_of a b) c)
      left None h = h
      left (Some r) h = made-is first c r h ∙ ap (λ w. dot_of w c) one.is

  pub from-right : DotsAssociate i64_values → IsGrid a → IsGrid b → IsGrid c → IfSome o (HasProduct first c) → IfSome o (λ r. r ≡ dot_of a (dot_of b c))
  from-right associates whole_a whole_b whole_c product = turned o when (from-left product)
    where
      turned : (w : Option (Grid ℤ)) → (IsSome w ↔ Fits first c) → IfSome w (λ r. r ≡ dot_of (dot_of a b) c) → IfSome w (λ r. r ≡ dot_of a (dot_of b c))
      turned None fits h = h
      turned (Some r) fits h = h ∙ in-either_turn associates a b c whole_a whole_b whole_c middle right one.can.shapes (subst (λ w. ShapesMultiply w.lengths c.lengths) one.is (fits.0 refl).0)
