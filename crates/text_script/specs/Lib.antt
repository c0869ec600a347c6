pub mod Script
pub mod Output
pub mod Streams
pub mod inside
