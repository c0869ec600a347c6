-- The abstract view of the fields, and their invariant. Callers need neither.
pub mod Stages
pub mod Concluding
