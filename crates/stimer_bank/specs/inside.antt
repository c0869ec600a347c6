-- The abstract view of the fields, their invariant, and the keys of due timers. Callers need none of these.
pub mod View
pub mod Keys
