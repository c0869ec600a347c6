pub mod Action
pub mod Settled
pub mod Words
pub mod Answers
pub mod inside
