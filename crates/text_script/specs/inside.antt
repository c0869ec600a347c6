-- Definitions for private functions and their proofs. Callers do not need them.
pub mod Judging
