-- Arrays joined along an axis, and stacked.
pub mod Appended
pub mod Blocks
pub mod Errors
pub mod Joined
pub mod OuterAxes
pub mod Pairs
