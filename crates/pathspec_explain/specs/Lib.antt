pub mod Parting
pub mod Verdicts
pub mod Reasons
pub mod AskedSpecs
