-- The products of the numbers of two lists, by those of their least and greatest.
use Rattle.std.proofs.Common.{◌≡◌, ◌∙◌, ℕ, List, [], ap, arith, inl, inr, subst, sym}
use Rattle.std.specs.Prelude.{Contains, ℤ, pos, negsuc, ◌+ℤ◌, ◌*ℤ◌, ◌-ℤ◌, ◌≤ℤ◌, unsigned_abs}
use Rattle.std.proofs.Math.IntN.{*ℤ_comm, *ℤ-zero, zero-*ℤ, pos-*ℤ-pos, negsuc-*ℤ-pos}
use Rattle.std.proofs.lemmas.Int.{ints}
use Rattle.std.proofs.lemmas.List.Elements.{All-contains, All-nil}
use Rattle.ndarray.specs.IntegerProducts.{int_distributes}
use Rattle.ndarray.specs.reduce.SmallProducts.{AreBetween, ExtremesSoFar, HaveProductsInRange, IsZeroOrIn}

-- the larger of two numbers is the smaller one and how far they are apart
apart : (x y : ℤ) → x ≤ℤ y → y ≡ x +ℤ pos (unsigned_abs (y -ℤ x))
apart x y le = omega (arith, ints, le)

-- a product grows with its second factor where the first is not negative, and falls where it is
times-up : (n : ℕ) (x y : ℤ) → x ≤ℤ y → (pos n *ℤ x) ≤ℤ (pos n *ℤ y)
times-up n x y le =
    let d = unsigned_abs (y -ℤ x) in
    let e : pos n *ℤ y ≡ (pos n *ℤ x) +ℤ (pos n *ℤ pos d) = ap (λ z. pos n *ℤ z) (apart x y le) ∙ int_distributes (pos n) x (pos d) in
    let p = pos-*ℤ-pos n d in
    omega (arith, ints, e, p)

times-down : (n : ℕ) (x y : ℤ) → x ≤ℤ y → (negsuc n *ℤ y) ≤ℤ (negsuc n *ℤ x)
times-down n x y le =
    let d = unsigned_abs (y -ℤ x) in
    let e : negsuc n *ℤ y ≡ (negsuc n *ℤ x) +ℤ (negsuc n *ℤ pos d) = ap (λ z. negsuc n *ℤ z) (apart x y le) ∙ int_distributes (negsuc n) x (pos d) in
    let p = negsuc-*ℤ-pos n d in
    omega (arith, ints, e, p)

module _ (fits : ℤ → Type 0) (between : (x y z : ℤ) → fits x → fits z → x ≤ℤ y → y ≤ℤ z → fits y) where
  -- with a factor between two others
  second-between : (x low y high : ℤ) → low ≤ℤ y → y ≤ℤ high → fits (x *ℤ low) → fits (x *ℤ high) → fits (x *ℤ y)
  second-between (pos n) low y high le ge f h = between (pos n *ℤ low) (pos n *ℤ y) (pos n *ℤ high) f h (times-up n low y le) (times-up n y high ge)
  second-between (negsuc n) low y high le ge f h = between (negsuc n *ℤ high) (negsuc n *ℤ y) (negsuc n *ℤ low) h f (times-down n y high ge) (times-down n low y le)

  first-between : (y low x high : ℤ) → low ≤ℤ x → x ≤ℤ high → fits (low *ℤ y) → fits (high *ℤ y) → fits (x *ℤ y)
  first-between y low x high le ge f h =
      subst fits (*ℤ_comm y x) (second-between y low x high le ge (subst fits (*ℤ_comm low y) f) (subst fits (*ℤ_comm high y) h))

  module _ (zero_fits : fits (pos 0)) (xs ys : List ℤ) (low high least greatest : ℤ) (left : ExtremesSoFar fits xs [] low high) (right : ExtremesSoFar fits ys [] least greatest) where
    numbers-between : (zs : List ℤ) (l h : ℤ) → ExtremesSoFar fits zs [] l h → (z : ℤ) → Contains zs z → (l ≤ℤ z) × (z ≤ℤ h)
    numbers-between zs l h e z there =
        let all : AreBetween fits l h zs = e.others l h (omega (arith, ints)) (omega (arith, ints)) (All-nil (λ y. fits y × (l ≤ℤ y) × (y ≤ℤ h))) in
        let (f, up, down) = All-contains (λ y. fits y × (l ≤ℤ y) × (y ≤ℤ h)) zs z all there in
        (up, down)

    -- the product of two numbers that are each zero or of a list
    product-of_found : HaveProductsInRange fits xs ys → (x y : ℤ) → IsZeroOrIn xs x → IsZeroOrIn ys y → fits (x *ℤ y)
    product-of_found all x y (inl none) found = subst fits (sym (ap (λ z. z *ℤ y) none ∙ zero-*ℤ y)) zero_fits
    product-of_found all x y (inr there) (inl none) = subst fits (sym (ap (λ z. x *ℤ z) none ∙ *ℤ-zero x)) zero_fits
    product-of_found all x y (inr there) (inr also) = all x y there also

    -- all products fit exactly where those of the extremes do
    pub corners-enough : fits (low *ℤ least) × fits (low *ℤ greatest) → fits (high *ℤ least) × fits (high *ℤ greatest) → HaveProductsInRange fits xs ys
    corners-enough first last x y there also =
        let (le, ge) = numbers-between xs low high left x there in
        let (up, down) = numbers-between ys least greatest right y also in
        first-between y low x high le ge (second-between low least y greatest up down first.0 first.1) (second-between high least y greatest up down last.0 last.1)

    pub corners-needed : HaveProductsInRange fits xs ys → (fits (low *ℤ least) × fits (low *ℤ greatest)) × (fits (high *ℤ least) × fits (high *ℤ greatest))
    corners-needed all = (
      (product-of_found all low least left.least_found right.least_found, product-of_found all low greatest left.least_found right.greatest_found),
      (product-of_found all high least left.greatest_found right.least_found, product-of_found all high greatest left.greatest_found right.greatest_found),
    )
