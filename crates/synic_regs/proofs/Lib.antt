pub mod AutoVectors
pub mod Numbers
