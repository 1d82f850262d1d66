pub mod AttributeTables
pub mod Filters
pub mod SpecPlaces
