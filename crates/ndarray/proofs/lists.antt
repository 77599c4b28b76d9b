-- What is true of lists of any elements.
pub mod AxisOrders
pub mod CellLookup
pub mod Collections
pub mod Counters
pub mod Decisions
pub mod Elements
pub mod FlatMaps
pub mod JoinedLists
pub mod Pairs
pub mod Parts
pub mod Permutations
pub mod Prefixes
pub mod Pushes
pub mod Ranges
pub mod Refits
pub mod TestedElements
