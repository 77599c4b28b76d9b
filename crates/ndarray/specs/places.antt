-- What `places` speaks of, and `iter`, which rests on it: cells one after another, and elements that are moved out.
pub mod PartlyMoved
pub mod ElementPlaces
pub mod Moving
pub mod PlaceRows
pub mod PlaceSources
pub mod Sources
pub mod CellPlaces
