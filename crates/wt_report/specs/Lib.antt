pub mod Memory
pub mod Report
pub mod Stations
pub mod Trace
