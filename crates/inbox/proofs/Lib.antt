pub mod Parts
pub mod Seats
pub mod Steps
pub mod Kept
