pub mod Judging
pub mod Driving
