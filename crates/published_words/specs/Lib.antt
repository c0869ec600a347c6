pub mod Values
pub mod Words
pub mod Storing
pub mod inside
