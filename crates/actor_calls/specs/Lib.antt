pub mod Calls
pub mod Sweeps
pub mod Absorbed
