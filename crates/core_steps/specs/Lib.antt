pub mod Cores
pub mod Steps
pub mod Marks
pub mod Sent
pub mod Deliveries
