-- The value of a live board as its parts, and the parts of a call.
pub mod Codes
pub mod Parts
pub mod Kinds
pub mod Pages
