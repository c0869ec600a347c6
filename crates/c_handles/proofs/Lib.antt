pub mod Dealt
pub mod Steps
pub mod Owned
pub mod Heap
pub mod OfBoard
pub mod OfLine
pub mod OfHistory
pub mod Sent
mod Leaving
mod Taken
