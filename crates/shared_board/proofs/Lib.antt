pub mod Published
pub mod Rows
pub mod Saying
pub mod Runs
pub mod Spread
pub mod Watchers
