-- Definitions for private functions and their proofs. Callers do not need them.
pub mod Filling
pub mod Lanes
pub mod Parsing
pub mod Framing
