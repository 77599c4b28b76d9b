pub mod Callers
pub mod Centring
pub mod Chains
pub mod Dots
pub mod Filters
pub mod PairedProducts
pub mod Updating
pub mod RangeTests
