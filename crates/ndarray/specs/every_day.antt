-- What only `everyday` speaks of.
pub mod Breaks
pub mod Preferences
