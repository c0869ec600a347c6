pub mod Apart
pub mod Elsewhere
pub mod Outside
pub mod Isolation
pub mod Influence
pub mod Exchange
