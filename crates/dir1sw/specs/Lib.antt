pub mod Table
pub mod VersionOne
pub mod Homes
pub mod Fits
