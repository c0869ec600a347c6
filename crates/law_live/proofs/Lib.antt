pub mod Stores
pub mod Calls
pub mod Pages
pub mod Apart
pub mod Kept
