-- The abstract view of the fields, and their invariant. Callers need neither.
pub mod Owners
pub mod Buffers
pub mod Chains
pub mod Moves
pub mod View
