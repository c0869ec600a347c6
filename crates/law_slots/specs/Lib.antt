pub mod Slots
pub mod Pages
pub mod Rounds
pub mod Reading
