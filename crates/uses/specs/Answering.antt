-- What the commands print for their input.
use Rattle.std.specs.Prelude.{◌≡◌, ◌<◌, ◌≤◌, ⊤, ℕ, ℤ, Bool, List, [], ◌∷◌, ◌++◌, decimal, drop, length, map, slice_index, take, FitsSigned}
use Rattle.std.specs.Int.{w64}
use Rattle.ndarray.specs.Convolution.{HasValidMagnitudesInRange}
use Rattle.ndarray.specs.Grid.{Grid, array_by, one_axis}
use Rattle.ndarray.specs.Integers.{int_sums}
use Rattle.ndarray.specs.Sums.{IsSummable, total}
use Rattle.ndarray.specs.declared.elements.Valued.{Ghosts as ValuedGhosts}
use Rattle.residue.specs.Residue.{Below, modulus, modulus_pos, residue_products, residue_sums}
use Rattle.uses.specs.BoxSums.{CanSumBoxes, box_sums}
use Rattle.uses.specs.Commands.{Spells}
use Rattle.uses.specs.Fir.{IsFilteredSignal}
use Rattle.uses.specs.Inputs.{IsOrder, ReadsGrid, ReadsPicture, ReadsTable, residue}
use Rattle.uses.specs.Life.{generation}
use Rattle.uses.specs.Picture.{HasInnerPixels, blur_kernel, edge_kernel, edge_pixel, mean_pixel}
use Rattle.uses.specs.Printing.{grid_text, line_text, picture_text, pixels_text, report_text}
use Rattle.uses.specs.Recurrence.{IsRecurrence}
use Rattle.uses.specs.Report.{column_total, row_total}
use Rattle.uses.specs.Signal.{ReadsSignal}
use Rattle.uses.specs.Smooth.{CanFilterByParts, smoothed, weights}
use Rattle.uses.specs.Spelling.{SpellNumbers}
use Rattle.uses.specs.Words.{words_of}
use Rattle.uses.specs.declared.command.Command.{Command}
use Rattle.uses.specs.declared.command.Command.TheVariants.{Blur, BoxSums, Edges, Fir, Life, Recurrence, Report, Smooth}

-- the input is a picture whose sums by the kernel are in range, and the text is the picture of the values of its squares
pub record PrintsPicture (kernel : Grid ℤ) (value : Grid ℤ → ℕ → ℕ → ℤ) (input text : List ℕ) : Type 0 where
  pub image : Grid ℤ
  pub made : Grid ℤ
  pub read : ReadsPicture input image
  pub fits : HasValidMagnitudesInRange (λ x. x) (FitsSigned w64) image kernel
  pub pixels : HasInnerPixels image (value image) made
  pub lines : text ≡ picture_text made

-- there are taps, the shift is one of an `i64`, and the sums are in range
abbrev pub CanFilter : Grid ℤ → Grid ℤ → ℕ → Type 0
CanFilter signal taps shift = (1 ≤ length taps.cells) × (shift < 64) × HasValidMagnitudesInRange (λ x. x) (FitsSigned w64) signal taps

-- the first line of the input has the taps, the others the signal, and the text is the filtered signal
pub record PrintsFiltered (shift : ℕ) (input text : List ℕ) : Type 0 where
  pub taps : List ℤ
  pub signal : List ℤ
  pub filtered : Grid ℤ
  pub read : ReadsSignal input (taps, signal)
  pub fits : CanFilter (one_axis signal) (one_axis taps) shift
  pub samples : IsFilteredSignal (one_axis signal) (one_axis taps) shift filtered
  pub line : text ≡ line_text filtered.cells

-- the input is a grid, and the text is the grid after so many steps
pub record PrintsGeneration (steps : ℕ) (input text : List ℕ) : Type 0 where
  pub grid : Grid Bool
  pub read : ReadsGrid input grid
  pub lines : text ≡ grid_text (generation steps grid)

-- residues as the values that a recurrence is of
abbrev pub residues : ValuedGhosts (Below (modulus 1000000007))
residues = record {
  Carrier = Below (modulus 1000000007);
  addition = residue_sums (modulus 1000000007) (modulus_pos 1000000007);
  multiplication = residue_products (modulus 1000000007) (modulus_pos 1000000007);
  meaning = λ x. x;
  InRange = λ x. ⊤;
}

-- the first half of the numbers of the input are coefficients, the second first terms, and the text is term n of their recurrence
pub record PrintsTerm (n : ℕ) (input text : List ℕ) : Type 0 where
  pub numbers : List ℤ
  pub order : ℕ
  pub read : SpellNumbers (words_of input) numbers
  pub halves : IsOrder (length numbers) order
  pub line : (s : ℕ → Below (modulus 1000000007)) → IsRecurrence residues (one_axis (take order (map residue numbers))) (one_axis (drop order (map residue numbers))) s → text ≡ decimal (s n).number ++ 10 ∷ []

-- the input is a table whose sums are in range, and the text is the table with them
pub record PrintsReport (input text : List ℕ) : Type 0 where
  pub table : Grid ℤ
  pub read : ReadsTable input table
  pub fits : IsSummable int_sums (FitsSigned w64) table.cells
  pub lines : text ≡ report_text table (array_by (slice_index table.lengths 0 ∷ []) (row_total table)) (array_by (slice_index table.lengths 1 ∷ []) (column_total table)) (total int_sums table.cells)

-- the input is a table whose windows of so many rows and columns have sums in range, and the text is the table of these sums
pub record PrintsBoxSums (rows columns : ℕ) (input text : List ℕ) : Type 0 where
  pub table : Grid ℤ
  pub read : ReadsTable input table
  pub fits : CanSumBoxes rows columns table
  pub lines : text ≡ pixels_text (box_sums rows columns table)

-- the input is a picture whose sums by the weights are in range, and the text is the picture smoothed
pub record PrintsSmoothed (input text : List ℕ) : Type 0 where
  pub image : Grid ℤ
  pub read : ReadsPicture input image
  pub fits : CanFilterByParts image weights weights
  pub lines : text ≡ picture_text (smoothed image)

-- what the command prints for an input
abbrev pub Prints : Command → List ℕ → List ℕ → Type 0
Prints Blur = PrintsPicture blur_kernel mean_pixel
Prints (BoxSums rows columns) = PrintsBoxSums rows columns
Prints Edges = PrintsPicture edge_kernel edge_pixel
Prints (Fir shift) = PrintsFiltered shift
Prints (Life steps) = PrintsGeneration steps
Prints (Recurrence n) = PrintsTerm n
Prints Report = PrintsReport
Prints Smooth = PrintsSmoothed

-- the words spell a command, and the text is what it prints for the input
pub record Answers (words : List (List ℕ)) (input text : List ℕ) : Type 0 where
  pub command : Command
  pub spelled : Spells words command
  pub prints : Prints command input text
