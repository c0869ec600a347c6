pub mod Log
pub mod inside
