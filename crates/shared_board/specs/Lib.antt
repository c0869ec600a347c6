pub mod Calling
pub mod Witnessed
pub mod Sweeping
pub mod Publishing
pub mod inside
