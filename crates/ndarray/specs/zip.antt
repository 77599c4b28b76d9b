-- What only `zip` speaks of.
pub mod RowCells
pub mod RowItems
