pub mod FoundProofs
pub mod PositionProofs
pub mod StepProofs
pub mod ListSteps
pub mod StandsProofs
pub mod LawProofs
mod PlaceRows
