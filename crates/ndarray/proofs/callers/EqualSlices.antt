-- What an `unrolled_eq` says of two slices, where `==` says whether two elements are one.
use Rattle.std.proofs.Common.{◌≡◌, ◌↔◌, ◌∙◌, ◌<◌, ℕ, List, IsTrue, ap, length}
use Rattle.std.specs.Prelude.{Bool, slice_index_or}
use Rattle.std.proofs.lemmas.List.{ext_get_or, get_or_default}

pub equal-slices : {A : Type 0} (eq : A → A → Bool) → ((a b : A) → IsTrue (eq a b) ↔ (a ≡ b)) → (d : A) (xs ys : List A) → length xs ≡ length ys
    → ((i : ℕ) (x y : A) → i < length xs → IsTrue (eq (slice_index_or xs i x) (slice_index_or ys i y))) ↔ (xs ≡ ys)
equal-slices eq decides d xs ys lengths = (
  λ same. ext_get_or d xs ys lengths (λ i inside. (decides _ _).0 (same i d d inside)),
  λ e i x y inside. (decides _ _).1 (get_or_default xs i x y inside ∙ ap (λ zs. slice_index_or zs i y) e),
)
