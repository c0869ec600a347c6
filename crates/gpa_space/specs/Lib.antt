pub mod Page
pub mod Space
pub mod Laws
pub mod inside
