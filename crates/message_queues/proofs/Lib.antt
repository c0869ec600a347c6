mod Counts
mod ChainLemmas
mod Parts
pub mod Reading
mod Walks
mod Steps
mod Opening
mod ImageLemmas
pub mod WrittenSlots
mod Ranges
