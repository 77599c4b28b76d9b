-- Convolutions of elements are those of the lists of their values.
use Rattle.std.proofs.Common.{◌≡◌, ℕ, ◌+◌, ◌-◌, List, [], ◌∷◌, map, length, reverse, take, drop, Option, Some, None, refl, ap, ◌∙◌}
use Rattle.std.specs.Prelude.{slice_get}
use Rattle.std.specs.Option.{option_map}
use Rattle.std.proofs.lemmas.Option.{slice_get-map}
use Rattle.std.proofs.lemmas.List.{length-map, take-map, drop-map}
use Rattle.ndarray.specs.Algebra.{CommutativeMonoid}
use Rattle.ndarray.specs.Convolution.{convolution_products, filter_products, filtered, filtered_by, full_convolution, full_convolution_by, full_length, product_of_both, valid_length}
use Rattle.ndarray.specs.Products.{products_of}
use Rattle.ndarray.specs.Sums.{total}
use Rattle.ndarray.proofs.convolution.Mirrors.{reverse-map}
use Rattle.ndarray.proofs.convolution.ProductLists.{filter_map-range}
use Rattle.ndarray.proofs.convolution.ValueSums.{below-same}

module _ {A C : Type 0} (times : CommutativeMonoid C) (value : A → C) where
  both-map : (x y : Option A) → product_of_both times (λ c. c) (option_map value x) (option_map value y) ≡ product_of_both times value x y
  both-map None y = refl
  both-map (Some x) None = refl
  both-map (Some x) (Some y) = refl

  pub convolution_products-map : (xs ys : List A) (s : ℕ) → convolution_products times (λ c. c) (map value xs) (map value ys) s ≡ convolution_products times value xs ys s
  convolution_products-map xs ys s =
      filter_map-range _ _ 0 (s + 1) (λ i l m.
      ap (λ o. product_of_both times (λ c. c) o (slice_get (map value ys) (s - i))) (slice_get-map value xs i)
      ∙ (ap (product_of_both times (λ c. c) (option_map value (slice_get xs i))) (slice_get-map value ys (s - i))
      ∙ both-map (slice_get xs i) (slice_get ys (s - i))))

  products_of-map : (xs ys : List A) → products_of times (λ c. c) (map value xs) (map value ys) ≡ products_of times value xs ys
  products_of-map [] ys = refl
  products_of-map (x ∷ xs) [] = refl
  products_of-map (x ∷ xs) (y ∷ ys) = ap (λ l. times.op (value x) (value y) ∷ l) (products_of-map xs ys)

  pub filter_products-map : (xs ys : List A) (p : ℕ) → filter_products times (λ c. c) (map value xs) (map value ys) p ≡ filter_products times value xs ys p
  filter_products-map xs ys p =
      ap (λ n. products_of times (λ c. c) (take n (drop p (map value xs))) (reverse (map value ys))) (length-map ys value)
      ∙ (ap (λ l. products_of times (λ c. c) (take (length ys) l) (reverse (map value ys))) (drop-map value p xs)
      ∙ (ap (λ l. products_of times (λ c. c) l (reverse (map value ys))) (take-map value (length ys) (drop p xs))
      ∙ (ap (products_of times (λ c. c) (map value (take (length ys) (drop p xs)))) (reverse-map value ys)
      ∙ products_of-map (take (length ys) (drop p xs)) (reverse ys))))

module _ {A C : Type 0} (plus times : CommutativeMonoid C) (value : A → C) where
  pub full_convolution-map : (xs ys : List A) → full_convolution plus times (map value xs) (map value ys) ≡ full_convolution_by plus times value xs ys
  full_convolution-map xs ys =
      below-same (full_length (length (map value xs)) (length (map value ys))) (full_length (length xs) (length ys)) _ _
      (ap (λ n. full_length n (length (map value ys))) (length-map xs value) ∙ ap (full_length (length xs)) (length-map ys value))
      (λ s l. ap (total plus) (convolution_products-map times value xs ys s))

  pub filtered-map : (xs ys : List A) → filtered plus times (map value xs) (map value ys) ≡ filtered_by plus times value xs ys
  filtered-map xs ys =
      below-same (valid_length (length (map value xs)) (length (map value ys))) (valid_length (length xs) (length ys)) _ _
      (ap (λ n. valid_length n (length (map value ys))) (length-map xs value) ∙ ap (valid_length (length xs)) (length-map ys value))
      (λ p l. ap (total plus) (filter_products-map times value xs ys p))
