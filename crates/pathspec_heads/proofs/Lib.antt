pub mod AgreementProofs
pub mod AnyProofs
pub mod HeadProofs
mod LaneProofs
pub mod SpanProofs
pub mod SearchProofs
pub mod PlacedProofs
pub mod GroupProofs
pub mod NextProofs
pub mod WordProofs
pub mod CandidateProofs
pub mod StemProofs
pub mod TableProofs
