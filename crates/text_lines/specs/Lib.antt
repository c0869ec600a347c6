pub mod Events
pub mod Items
pub mod Sizes
pub mod Reading
pub mod Performing
pub mod Printing
pub mod Faults
pub mod inside
