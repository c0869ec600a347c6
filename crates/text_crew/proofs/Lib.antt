pub mod Counting
pub mod Limits
pub mod Reading
pub mod Tracing
pub mod Traced
pub mod Good
pub mod Judged
