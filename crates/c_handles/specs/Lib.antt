pub mod Kinds
pub mod Forwarding
pub mod Lines
pub mod Histories
pub mod Recorded
pub mod inside
