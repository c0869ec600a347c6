-- How the ghost values under the lock are kept, and their codes. Callers need neither.
pub mod Rostered
pub mod Watched
