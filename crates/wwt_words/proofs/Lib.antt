pub mod NumberLemmas
pub mod Declared
