-- The ownership of a handle, the invariant of a board with its history, and one vector that is forwarded. Callers
-- need none of them.
pub mod Owned
pub mod Leading
pub mod ForwardingOne
