pub mod Bits
pub mod Loads
pub mod Messages
pub mod Next
pub mod Searched
pub mod Visible
