pub mod Driven
pub mod Limits
pub mod Openings
pub mod Short
pub mod Unique
pub mod Completing
