-- How many windows there are along an axis; a window of a whole array is whole, whatever its lengths and the steps, as at steps of
-- `1 ∷ 1 ∷ []`, which `windows` has for a table.
pub use Rattle.ndarray.proofs.convolution.OneAxis.{window_count-valid}
pub use Rattle.ndarray.proofs.convolution.WholeWindows.{window-whole}
