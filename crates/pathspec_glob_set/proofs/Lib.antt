pub mod RowProofs
pub mod MeaningProofs
pub mod SetProofs
pub mod StartProofs
pub mod ColumnProofs
pub mod BuildingProofs
pub mod BorderProofs
pub mod CutProofs
pub mod TableProofs
pub mod AnswerProofs
mod SetRows
