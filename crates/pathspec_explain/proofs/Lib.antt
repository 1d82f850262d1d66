pub mod PartingProofs
pub mod VerdictProofs
pub mod StateProofs
pub mod ReasonProofs
mod ReasonRows
mod VerdictRows
