-- Folds that add up, made part by part.
pub use Rattle.ndarray.proofs.parts.FoldedSums.{folded-value, sums-by_parts}
