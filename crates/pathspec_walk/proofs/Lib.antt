pub mod WalkProofs
pub mod EnteredProofs
pub mod GoingProofs
pub mod SelectProofs
mod WalkRows
