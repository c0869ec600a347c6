pub mod Numbers
pub mod Fields
pub mod Lines
pub mod Buffered
pub mod Streams
pub mod Outputs
pub mod inside
