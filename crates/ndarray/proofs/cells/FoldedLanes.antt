-- Folds of the lanes of an array.
use Rattle.std.proofs.Common.{◌≡◌, ◌∙◌, ℕ, List, [], ◌∷◌, Some, All, ap, insert, sym}
use Rattle.std.specs.Prelude.{slice_index}
use Rattle.std.specs.List.{FoldsTo, fold}
use Rattle.ndarray.specs.Grid.{Grid, cell, cells_by}
use Rattle.ndarray.specs.Index.{row_order}
use Rattle.ndarray.specs.Subviews.{lane}
use Rattle.ndarray.proofs.lists.Elements.{all-found}

-- what each cell has, those of a lane have
pub lane-has : {A : Type 0} (g : Grid A) (P : A → Type 0) → ((is : List ℕ) (x : A) → cell g is ≡ Some x → P x) → (axis : ℕ) (js : List ℕ) → All P (lane g axis js).cells
unfolding cells_by row_order
lane-has g P each axis js = all-found P (λ is. cell g (insert js axis (slice_index is 0))) (row_order (slice_index g.lengths axis ∷ [])) (λ is x at. each (insert js axis (slice_index is 0)) x at)

-- steps that compute h lead to the fold by h
pub folds-follow : {A B : Type 0} (step : B → A → B → Type 0) (h : B → A → B) → ((b : B) (x : A) (c : B) → step b x c → c ≡ h b x)
    → (b : B) (xs : List A) (r : B) → FoldsTo step b xs r → r ≡ fold h b xs
folds-follow step h each b [] r ran = sym ran
folds-follow step h each b (x ∷ xs) r ran =
    let (c, here, rest) = ran in
    folds-follow step h each c xs r rest ∙ ap (λ d. fold h d xs) (each b x c here)
