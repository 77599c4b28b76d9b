-- Elements that leave their storage one by one, as borrows or moved out.
pub mod CellPlaces
pub mod Deeds
pub mod BorrowedCells
pub mod MovedOut
pub mod PartlyMoved
pub mod SomePlaces
pub mod RowPlaces
pub mod TakenRows
