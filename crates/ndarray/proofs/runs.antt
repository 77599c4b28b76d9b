-- Runs of closures over the items of producers.
pub mod Answers
pub mod Collecting
pub mod FoldWhiles
pub mod OneAxisProducers
pub mod OneRows
pub mod Producers
pub mod RowItems
pub mod Rows
pub mod RunsThrough
pub mod SameRows
pub mod Turns
