pub mod Restoring
pub mod Images
pub mod Taking
pub mod inside
