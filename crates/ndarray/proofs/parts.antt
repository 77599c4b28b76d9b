-- Parts of a list: the places that are kept, and the folds and sums over them.
pub mod EighthParts
pub mod FoldedParts
pub mod FoldedSums
pub mod KeptPlaces
pub mod SummedParts
