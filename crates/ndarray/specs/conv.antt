-- What only `conv` speaks of.
pub mod WindowSums
