pub mod Comparing
pub mod Steps
pub mod Stores
pub mod Storing
pub mod Told
