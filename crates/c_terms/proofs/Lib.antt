pub mod Batching
pub mod Rooms
