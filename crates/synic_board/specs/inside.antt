-- The abstract view of the fields, and their invariant. Callers need neither.
pub mod Codes
pub mod Entries
pub mod Waiting
pub mod Moves
pub mod Effected
pub mod Drafts
pub mod Progress
pub mod Touches
pub mod Unless
pub mod View
pub mod AtOnce
pub mod Steps
