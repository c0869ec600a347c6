pub mod Crew
pub mod Reading
pub mod Running
pub mod inside
