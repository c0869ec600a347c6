pub mod Alone
pub mod Kept
