pub mod Counted
pub mod Closing
