pub mod Lists
pub mod Bits
pub mod Steps
pub mod Seats
pub mod Closing
