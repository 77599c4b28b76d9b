-- Regions of elements that are borrowed to write in, and how they are split and borrowed again.
pub mod Masks
pub mod Memory
pub mod OwnedLoans
pub mod ReborrowedViews
pub mod Reborrows
pub mod SharedRegions
pub mod Sharing
pub mod Shown
pub mod Slots
