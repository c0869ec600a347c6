pub mod Registers
pub mod Regs
pub mod Ranges
pub mod inside
