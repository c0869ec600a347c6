pub mod Wholes
pub mod Reading
