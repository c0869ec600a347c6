mod Runs
mod Leaving
mod Sends
mod Refusing
mod Timing
mod Requesting
mod Seeing
mod Sparse
mod Queueing
mod Flagging
mod Timers
mod OneShots
mod Periods
pub mod Replies
pub mod Saved
pub mod Needed
mod Ticking
