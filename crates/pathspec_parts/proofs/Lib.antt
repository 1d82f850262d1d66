pub mod ComponentProofs
pub mod OutcomeProofs
pub mod RowNumberProofs
pub mod TruthProofs
mod PathRows
pub mod EntryProofs
pub mod RecordProofs
pub mod RecordPartProofs
pub mod TextProofs
pub mod NameProofs
pub mod WritingProofs
mod OutputRows
pub mod TreeProofs
mod TreeRows
pub mod SeenProofs
pub mod ListProofs
pub mod NestingProofs
pub mod LayoutProofs
pub mod NodeProofs
pub mod CursorProofs
mod TruthRows
