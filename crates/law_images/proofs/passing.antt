-- The sections of an image, each from a board that has nothing in it to one that has all of it.
pub mod Processors
pub mod Registers
pub mod Pages
pub mod Ports
pub mod Timers
pub mod Queues
pub mod Slots
