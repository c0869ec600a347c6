pub mod Shapes
pub mod Ports
pub mod inside
