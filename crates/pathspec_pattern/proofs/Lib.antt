pub mod ResultProofs
pub mod NumberProofs
pub mod ReadingProofs
pub mod JoinProofs
pub mod NormalFormProofs
pub mod HeightProofs
pub mod StaysProofs
pub mod BoundaryProofs
pub mod PrefixPieceProofs
pub mod StackProofs
pub mod LongTextProofs
pub mod AttributeTextProofs
pub mod RoundTripProofs
pub mod ParsedProofs
pub mod NormalTextProofs
mod RoundTripRows
pub mod ResolvingProofs
pub mod ParseProofs
pub mod CutProofs
pub mod PiecesProofs
pub mod ListProofs
pub mod Asking
mod ReadingRows
mod NormalFormRows
mod PrefixRows
pub mod EnvironmentProofs
mod EnvironmentRows
