pub mod Registers
pub mod Widths
pub mod Meaning
