-- Lists of one list's length whose first elements are another's.
use Rattle.std.proofs.Common.{◌≡◌, suc, List, [], ◌∷◌, ◌++◌, length, refl, ap, arith}
use Rattle.ndarray.specs.Writes.{refit}

pub length-refit : {A : Type 0} (xs ys : List A) → length (refit xs ys) ≡ length xs
length-refit [] ys = refl
length-refit (x ∷ xs) [] = refl
length-refit (x ∷ xs) (y ∷ ys) = ap suc (length-refit xs ys)

pub refit-front : {A : Type 0} (xs ys zs : List A) → length ys ≡ length xs → refit xs (ys ++ zs) ≡ ys
refit-front [] [] zs l = refl
refit-front [] (y ∷ ys) zs l = absurd (omega arith)
refit-front (x ∷ xs) [] zs l = absurd (omega arith)
refit-front (x ∷ xs) (y ∷ ys) zs l = ap (λ l. y ∷ l) (refit-front xs ys zs (omega arith))

pub refit-all : {A : Type 0} (xs ys : List A) → length ys ≡ length xs → refit xs ys ≡ ys
refit-all [] [] l = refl
refit-all [] (y ∷ ys) l = absurd (omega arith)
refit-all (x ∷ xs) [] l = absurd (omega arith)
refit-all (x ∷ xs) (y ∷ ys) l = ap (λ l. y ∷ l) (refit-all xs ys (omega arith))
