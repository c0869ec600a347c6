-- The abstract view of the fields, and their invariant. Callers need neither.
pub mod Codes
pub mod OverlaysAt
pub mod View
