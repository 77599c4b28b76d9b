-- Shapes and their boxes of index lists, and the orders in which these come.
pub mod Boxes
pub mod CountedRows
pub mod JoinedBoxes
pub mod LaneIndices
pub mod LastIndices
pub mod Orders
pub mod RowProducts
pub mod ProductShapes
pub mod RowParts
pub mod Rows
pub mod ShapeErrors
pub mod ShiftedBoxes
pub mod ShiftedRows
pub mod Sizes
pub mod UniqueOrder
pub mod Walks
