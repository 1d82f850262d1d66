pub mod NormalForms
pub mod Selections
pub mod Stores
pub mod Reports
