pub mod Rows
pub mod Sizes
pub mod Moves
pub mod Tables
pub mod Meanings
pub mod Sets
pub mod Questions
pub mod Answers
