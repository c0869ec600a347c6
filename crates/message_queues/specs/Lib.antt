pub mod Queues
pub mod Image
pub mod inside
