-- The rule of the words, and what a step of the host records.
pub mod Open
pub mod Codes
pub mod Lies
