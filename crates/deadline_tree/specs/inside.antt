-- The abstract view of the fields, and their invariant. Callers need neither.
pub mod Table
pub mod Climbs
pub mod View
pub mod Codes
