-- The rows of a box, and where a walk is in it.
pub mod Rows
pub mod Walks
