mod Alarms
mod Firsts
mod LateTimer
mod Moving
pub mod Hosts
