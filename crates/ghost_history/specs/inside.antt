-- How rows are encoded. Callers do not need it.
pub mod Codes
