pub mod LineProofs
pub mod WordProofs
pub mod QuotingProofs
mod ReadingRows
pub mod RuleProofs
pub mod DecidingProofs
pub mod LeadingProofs
pub mod KeyProofs
pub mod AskingProofs
pub mod FileProofs
pub mod PathProofs
mod FileRows
mod DeciderRows
pub mod DirectoryProofs
pub mod AnswerProofs
pub mod LawProofs
pub mod SayingProofs
pub mod FindingProofs
