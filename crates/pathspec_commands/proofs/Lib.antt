pub mod FilterProofs
pub mod SpecPlaceProofs
