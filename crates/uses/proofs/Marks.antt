-- Marks of rows that are read one after the other.
use Rattle.ndarray.proofs.Common.{◌≡◌, ◌∙◌, ◌++◌, ◌∷◌, [], ◌==◌, ℕ, Bool, List, ap, append-nil, append_assoc, map, subst, sym, All, concat, map-append, All-append, All-cons, All-head, All-nil, All-tail}
use Rattle.uses.specs.Rows.{IsMark, SpellCells, SpellsMore}

left-marks : (xs ys : List ℕ) → All IsMark (xs ++ ys) → All IsMark xs
left-marks [] ys all = All-nil IsMark
left-marks (x ∷ xs) ys all = All-cons IsMark x xs (All-head IsMark x (xs ++ ys) all) (left-marks xs ys (All-tail IsMark x (xs ++ ys) all))

right-marks : (xs ys : List ℕ) → All IsMark (xs ++ ys) → All IsMark ys
right-marks [] ys all = all
right-marks (x ∷ xs) ys all = right-marks xs ys (All-tail IsMark x (xs ++ ys) all)

-- the bytes of a row are marks where those of all rows are
pub row-marks : (before after : List (List ℕ)) (row : List ℕ) → All IsMark (concat (before ++ row ∷ after)) → All IsMark row
row-marks [] after row all = left-marks row (concat after) all
row-marks (first ∷ before) after row all = row-marks before after row (right-marks first (concat (before ++ row ∷ after)) all)

concat-push : (rows : List (List ℕ)) (row : List ℕ) → concat (rows ++ row ∷ []) ≡ concat rows ++ row
concat-push [] row = append-nil row
concat-push (first ∷ rows) row = ap (λ bs. first ++ bs) (concat-push rows row) ∙ sym (append_assoc first (concat rows) row)

-- a row more
pub row-more : (rows : List (List ℕ)) (row : List ℕ) (old new : List Bool) → SpellCells (concat rows) old → SpellsMore row old new → SpellCells (concat (rows ++ row ∷ [])) new
row-more rows row old new so_far more = record {
  spelled = subst (All IsMark) (sym (concat-push rows row)) (All-append IsMark (concat rows) row so_far.spelled more.spelled);
  values =
      more.appended
      ∙ (ap (λ cells. cells ++ map (λ b. b == 35) row) so_far.values
      ∙ (sym (map-append (λ b. b == 35) (concat rows) row) ∙ ap (map (λ b. b == 35)) (sym (concat-push rows row))));
}
