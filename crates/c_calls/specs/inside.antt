-- What helpers of the calls promise. Callers need none of it.
pub mod Opening
pub mod Some
