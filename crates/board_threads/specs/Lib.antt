pub mod Sharing
pub mod Settling
pub mod Judging
pub mod Crew
pub mod inside
