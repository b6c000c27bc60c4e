pub mod Elf
pub mod Flat
pub mod Sizes
