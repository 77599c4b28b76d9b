-- What only `linalg`, and what rests on its sums, speaks of.
pub mod BlockRows
pub mod Entries
pub mod GeneralProducts
pub mod LaneSums
pub mod ProductTiles
pub mod RowSums
