pub mod Congruence
pub mod Illegal
pub mod Masks
pub mod Rows
pub mod Search
pub mod WellFormed
