pub mod Counted
pub mod World
pub mod Outcome
pub mod Stations
pub mod FreeRuns
pub mod Sites
pub mod Sole
pub mod Starts
