pub mod Pairs
pub mod OnLiterals
