-- The abstract view of the fields, and their invariant. Callers need neither.
pub mod Work
pub mod Faults
