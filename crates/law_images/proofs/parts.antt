-- The pieces of an image, by what they restore.
pub mod Registers
pub mod Processors
pub mod Pages
pub mod Tables
