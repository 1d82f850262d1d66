pub mod Agreement
pub mod Heads
pub mod Groups
pub mod Stems
pub mod Relations
pub mod Tables
