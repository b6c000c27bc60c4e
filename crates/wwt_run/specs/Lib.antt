pub mod Status
pub mod Refused
pub mod Jobs
pub mod Answer
