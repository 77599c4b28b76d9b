-- Texts of arrays.
pub mod Breaks
pub mod NestedTexts
