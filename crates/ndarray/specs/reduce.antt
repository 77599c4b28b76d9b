-- What only range tests speak of.
pub mod NonzeroProducts
pub mod SignedSums
pub mod SmallProducts
