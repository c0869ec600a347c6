pub mod Edits
pub mod Levels
pub mod Nodes
pub mod Leasts
pub mod Whole
pub mod Processors
