-- What only `stacking` speaks of.
pub mod Blocks
