-- Views by index equations.
pub mod AxisSlices
pub mod BroadcastLengths
pub mod Broadcasting
pub mod Cuts
pub mod DiagonalViews
pub mod Images
pub mod Items
pub mod OwnLengths
pub mod PermutedAxes
pub mod SameCells
pub mod Slices
pub mod Swaps
pub mod WholeItems
