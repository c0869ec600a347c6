pub mod Image
pub mod Saving
pub mod Pieces
pub mod Parsing
pub mod inside
