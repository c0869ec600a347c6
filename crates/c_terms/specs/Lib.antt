pub mod Events
pub mod Replies
pub mod Notices
pub mod Rooms
pub mod Batches
pub mod Entries
