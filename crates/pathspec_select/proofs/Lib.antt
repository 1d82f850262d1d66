pub mod ListingProofs
pub mod WordProofs
pub mod OptionProofs
mod OptionRows
mod WordRows
pub mod InputProofs
mod InputRows
pub mod RowProofs
pub mod EnvironmentProofs
pub mod VariableProofs
pub mod RequestProofs
pub mod OutputProofs
pub mod ChosenProofs
pub mod ProgramProofs
pub mod RecordProofs
pub mod NameProofs
pub mod SharedProofs
pub mod PackedProofs
pub mod OutlineProofs
pub mod TreeCopyProofs
pub mod OpenProofs
pub mod AddingProofs
pub mod OwnProofs
pub mod ReadProofs
mod ListingRows
