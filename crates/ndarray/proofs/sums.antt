-- Sums of lists and of their selections.
pub mod CornerProducts
pub mod Fronts
pub mod InnerSums
pub mod IntegerSelections
pub mod MagnitudeSums
pub mod NonzeroProducts
pub mod Rearrangements
pub mod RowSums
pub mod RunningRuns
pub mod RunningSum
pub mod SelectedPlaces
pub mod Selections
pub mod SeveralRows
pub mod SignedSums
pub mod SmallProducts
pub mod TwoSums
