pub mod PendingProofs
pub mod CourseProofs
pub mod VisitProofs
pub mod StepProofs
pub mod LookProofs
pub mod AskedProofs
mod NameRows
