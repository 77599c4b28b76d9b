-- A row of places that has none left.
use Rattle.std.proofs.Common.{◌≡◌, ◌∙◌, ℕ, List, [], ap, length, sym}
use Rattle.std.proofs.lemmas.List.{nil_from_length}
use Rattle.ndarray.specs.base.Strided.{places_from}
use Rattle.ndarray.proofs.strides.Rows.{length-places_from}

pub none-left : (p step left : ℕ) (ps : List ℕ) → places_from p step left ≡ ps → left ≡ 0 → ps ≡ []
none-left p step left ps e none = nil_from_length _ (sym (ap length e) ∙ (length-places_from p step left ∙ none))
