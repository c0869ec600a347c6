-- The abstract view of the fields, and their invariant. Callers need neither.
pub mod Codes
pub mod Words
pub mod Threshold
pub mod View
